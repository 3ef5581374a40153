use Rattle.std.proofs.Common.{ap, ◌∙◌}
use Rattle.rig_fixed.specs.Transform.{Transform, compose}
use Rattle.rig_kernel.proofs.Carried.{parent_bone, parent_alone}
use Rattle.rig_kernel.proofs.transform.parent_transform.Goals as goal

pub returns-in-Some : goal.returns-in-Some
returns-in-Some g c =
    c.compose.ensures ∙ ap (λ (t : Transform). compose t c.transform_at.result) c.transform_at-world.ensures
    ∙ ap (compose _) c.transform_at.ensures ∙ parent_bone c.args.parent.now c.in-Some.field-0 (g.I.Inputs.list c.args.inputs.now) c.in-Some.is

pub returns-in-None : goal.returns-in-None
returns-in-None g c = c.transform_at-world.ensures ∙ parent_alone c.args.parent.now (g.I.Inputs.list c.args.inputs.now) c.in-None.is
