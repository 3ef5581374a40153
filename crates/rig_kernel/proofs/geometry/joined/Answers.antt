use Rattle.std.proofs.Common.{◌≡◌, List, IfOk, subst, ap, ◌∙◌, take}
use Rattle.rig_scene.specs.declared.limits.TheConstants.{MAX_RESULT_POINTS}
use Rattle.rig_scene.specs.declared.pencil.Layer.{Layer}
use Rattle.rig_scene.specs.declared.pencil.Stroke.{Stroke}
use Rattle.rig_scene.specs.Layer.{joined_within}
use Rattle.rig_kernel.specs.Joined.{layers_bring, fitting, joined}
use Rattle.rig_laws.specs.Output.{Output}
use Rattle.rig_kernel.proofs.Joins.{joined_fitting}
use Rattle.rig_kernel.proofs.geometry.joined.Goals as goal

all : (inputs : List Output) (layers : List Layer) (few : _) (strokes : List Stroke) → few ≡ fitting MAX_RESULT_POINTS (layers_bring inputs 0 layers) → strokes ≡ joined (layers_bring inputs 0 (take few layers))
    → strokes ≡ joined_within MAX_RESULT_POINTS (layers_bring inputs 0 layers)
all inputs layers few strokes count is =
    is ∙ ap (λ few. joined (layers_bring inputs 0 (take few layers))) count ∙ joined_fitting inputs MAX_RESULT_POINTS 0 layers

pub returns-in-Some : goal.returns-in-Some
returns-in-Some g c =
    subst (λ (value : List Stroke). IfOk c.share.result (λ strokes. strokes ≡ value))
    (all (g.I.Inputs.list c.args.inputs.now) c.args.layers.now c.fitting.result c.in-Some.strokes.now c.fitting.ensures.count c.in-Some.ensures) c.share.ensures

pub returns-in_ok-copies-in-None : goal.returns-in_ok-copies-in-None
returns-in_ok-copies-in-None g c =
    subst (λ (value : List Stroke). IfOk c.new.result (λ strokes. strokes ≡ value))
    (all (g.I.Inputs.list c.args.inputs.now) c.args.layers.now c.fitting.result c.in_ok-copies-in-None.field-0 c.fitting.ensures.count c.in_ok-copies-in-None.ensures) c.new.ensures
