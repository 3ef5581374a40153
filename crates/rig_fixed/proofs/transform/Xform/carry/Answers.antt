use Rattle.std.proofs.Common.{◌≡◌, ◌∙◌, ap, subst}
use Rattle.rig_fixed.specs.Transform.{carry, Transform}
use Rattle.rig_fixed.specs.Vector.{v3_sum}
use Rattle.rig_fixed.specs.Rotation.{rotate}
use Rattle.rig_fixed.specs.declared.vector.V3.{V3}
use Rattle.rig_fixed.proofs.transform.Xform.carry.Goals as goal

pub returns : goal.returns
unfolding carry
returns c =
    subst (λ (t : Transform). c.sum.result ≡ carry t c.args.v) c.self.view_is
    (c.sum.ensures
    ∙ ap (λ (u : V3). v3_sum c.self.inside.loc u) (c.rotate.ensures ∙ ap (λ (u : V3). rotate c.self.inside.rot u) c.multiple.ensures))
