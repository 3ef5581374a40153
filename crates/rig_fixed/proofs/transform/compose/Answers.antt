use Rattle.std.proofs.Common.{◌≡◌, subst, sym}
use Rattle.rig_fixed.specs.Transform.{Transform, carry, compose}
use Rattle.rig_fixed.proofs.Parts.{of_parts, same_parts}
use Rattle.rig_fixed.proofs.transform.compose.Goals as goal

pub returns : goal.returns
unfolding compose
returns c =
    let p = of_parts c.p.inside.loc c.p.inside.rot c.p.inside.scale in
    let made = of_parts c.carry.result c.product.result c.scale_product.result in
    let loc : c.carry.result ≡ carry p c.c.inside.loc = subst (λ (t : Transform). c.carry.result ≡ carry t c.c.inside.loc) (sym c.p.view_is) c.carry.ensures in
    let joined = same_parts _ _ _ _ _ _ loc c.product.ensures c.scale_product.ensures.value in
    subst (λ (parent : Transform). made ≡ compose parent c.args.c.now) c.p.view_is
    (subst (λ (child : Transform). made ≡ compose p child) c.c.view_is joined)
