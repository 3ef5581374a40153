use Rattle.std.proofs.Common.{◌≡◌, ◌∙◌, ap, subst, ℤ}
use Rattle.rig_fixed.specs.Rotation.{Rotation, conjugate, rotate}
use Rattle.rig_fixed.specs.Transform.{Transform, inverse, inverse_scale}
use Rattle.rig_fixed.specs.Vector.{v3_multiple, on_each}
use Rattle.rig_fixed.specs.declared.vector.V3.{V3}
use Rattle.rig_fixed.proofs.Parts.{of_parts, same_parts}
use Rattle.std.proofs.Math.IntN.{neg_ℤ}
use Rattle.rig_fixed.proofs.transform.inverse.Goals as goal

pub returns : goal.returns
unfolding inverse
returns c =
    let x = c.x.inside in
    let made = of_parts c.negation.result c.conjugate-rot.result c.inverse_scale-scale.result in
    let small : c.multiple.result ≡ v3_multiple (inverse_scale x.scale) x.loc = c.multiple.ensures ∙ ap (λ (s : ℤ). v3_multiple s x.loc) c.inverse_scale-scale.ensures.value in
    let turned : c.rotate.result ≡ rotate (conjugate x.rot) (v3_multiple (inverse_scale x.scale) x.loc)
    = c.rotate.ensures ∙ ap (λ (q : Rotation). rotate q c.multiple.result) c.conjugate-rot.ensures ∙ ap (rotate (conjugate x.rot)) small in
    let loc = c.negation.ensures ∙ ap (λ (v : V3). on_each neg_ℤ v) turned in
    subst (λ (t : Transform). made ≡ inverse t) c.x.view_is
    (same_parts _ _ _ _ _ _ loc c.conjugate-rot.ensures c.inverse_scale-scale.ensures.value)
