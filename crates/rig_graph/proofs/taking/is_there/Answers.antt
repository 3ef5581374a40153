use Rattle.std.proofs.Common.{sym}
use Rattle.std.proofs.lemmas.Bool.{false_from_ne_true}
use Rattle.rig_flush.specs.Begun.{one_of_listed}
use Rattle.rig_flush.specs.Retag.{is_one_of}
use Rattle.rig_flush.specs.TagsOfScene.{listed_if_one}
use Rattle.rig_scene.specs.Found.{Contains-slice_get}
use Rattle.rig_graph.proofs.taking.is_there.Goals as goal

pub returns-in-Some : goal.returns-in-Some
returns-in-Some c =
    sym (one_of_listed c.args.nodes.now c.args.op.now (Contains-slice_get c.args.nodes.now c.in-Some.field-0 c.args.op.now c.in-Some.ensures.some))

pub returns-in-None : goal.returns-in-None
returns-in-None c =
    sym (false_from_ne_true (is_one_of c.args.nodes.now c.args.op.now) (λ t. c.in-None.ensures.none (listed_if_one c.args.nodes.now c.args.op.now t)))
