use Rattle.std.proofs.Common.{ap, ◌∙◌}
use Rattle.rig_fixed.specs.Transform.{Transform, compose}
use Rattle.rig_kernel.proofs.Carried.{with_parent, without_parent}
use Rattle.rig_kernel.proofs.transform.world_transform.Goals as goal

pub returns-in-Some : goal.returns-in-Some
returns-in-Some g c =
    c.compose.ensures ∙ ap (λ (t : Transform). compose t c.transform_at-local.result) c.parent_transform.ensures
    ∙ ap (compose _) c.transform_at-local.ensures ∙ with_parent c.args.object.now c.in-Some.parent (g.I.Inputs.list c.args.inputs.now) c.in-Some.is

pub returns-in-None : goal.returns-in-None
returns-in-None g c = c.transform_at-local.ensures ∙ without_parent c.args.object.now (g.I.Inputs.list c.args.inputs.now) c.in-None.is
