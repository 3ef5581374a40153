use Rattle.std.proofs.Math.IntN.{pos, negsuc, *ℤ-negsuc, neg_ℤ-neg_ℤ}
use Rattle.std.proofs.Common.{sym, zero, suc, ◌≡◌, ◌∙◌, ap, ℤ, ◌+ℤ◌, ◌-ℤ◌, ◌*ℤ◌, neg_ℤ, w64, to_z, of_z, rules, arith}
use Rattle.std.proofs.lemmas.Int.{to_z-of_z, ints}
use Rattle.rig_fixed.specs.Rotation.{Rotation}
use Rattle.rig_fixed.proofs.Length.{four_same}
use Rattle.rig_fixed.proofs.rotation.quaternion_product.Goals as goal

negative_factor : (a b : ℤ) → a *ℤ neg_ℤ b ≡ neg_ℤ (a *ℤ b)
negative_factor a (pos zero) = omega (arith, ints)
negative_factor a (pos (suc n)) = *ℤ-negsuc a n
negative_factor a (negsuc n) = sym (ap neg_ℤ (*ℤ-negsuc a n) ∙ neg_ℤ-neg_ℤ (a *ℤ pos (suc n)))

minus : (s a b : ℤ) → s +ℤ a *ℤ neg_ℤ b ≡ s -ℤ a *ℤ b
minus s a b = let e = negative_factor a b in omega (arith, ints)

three_minus : (s a b c d e f : ℤ) → s +ℤ a *ℤ neg_ℤ b +ℤ c *ℤ neg_ℤ d +ℤ e *ℤ neg_ℤ f ≡ s -ℤ a *ℤ b -ℤ c *ℤ d -ℤ e *ℤ f
three_minus s a b c d e f =
    ap (λ (z : ℤ). z +ℤ c *ℤ neg_ℤ d +ℤ e *ℤ neg_ℤ f) (minus s a b)
    ∙ ap (λ (z : ℤ). z +ℤ e *ℤ neg_ℤ f) (minus (s -ℤ a *ℤ b) c d)
    ∙ minus (s -ℤ a *ℤ b -ℤ c *ℤ d) e f

-- a sum of products whose second factors are others
with_factors : (r a b c d A B C D k l m n : ℤ) → A ≡ a → B ≡ b → C ≡ c → D ≡ d
    → r ≡ k *ℤ A +ℤ l *ℤ B +ℤ m *ℤ C +ℤ n *ℤ D → r ≡ k *ℤ a +ℤ l *ℤ b +ℤ m *ℤ c +ℤ n *ℤ d
with_factors r a b c d A B C D k l m n ea eb ec ed e = cc

pub returns : goal.returns
returns c =
    let p = c.args.p in
    let q = c.args.q in
    let given = c.q.view_is in
    let back = c.conjugate-back.ensures in
    let inner = c.back.view_is ∙ back in
    let w_is : to_z w64 (of_z w64 c.q.inside.w) ≡ q.w = to_z-of_z w64 c.q.inside.w (search rules) ∙ ap (λ (r : Rotation). r.w) given in
    let x_is : to_z w64 (of_z w64 c.q.inside.x) ≡ q.x = to_z-of_z w64 c.q.inside.x (search rules) ∙ ap (λ (r : Rotation). r.x) given in
    let y_is : to_z w64 (of_z w64 c.q.inside.y) ≡ q.y = to_z-of_z w64 c.q.inside.y (search rules) ∙ ap (λ (r : Rotation). r.y) given in
    let z_is : to_z w64 (of_z w64 c.q.inside.z) ≡ q.z = to_z-of_z w64 c.q.inside.z (search rules) ∙ ap (λ (r : Rotation). r.z) given in
    let x_back : to_z w64 (of_z w64 c.back.inside.x) ≡ neg_ℤ q.x = to_z-of_z w64 c.back.inside.x (search rules) ∙ ap (λ (r : Rotation). r.x) inner in
    let y_back : to_z w64 (of_z w64 c.back.inside.y) ≡ neg_ℤ q.y = to_z-of_z w64 c.back.inside.y (search rules) ∙ ap (λ (r : Rotation). r.y) inner in
    let z_back : to_z w64 (of_z w64 c.back.inside.z) ≡ neg_ℤ q.z = to_z-of_z w64 c.back.inside.z (search rules) ∙ ap (λ (r : Rotation). r.z) inner in
    let w = with_factors c.dot.result q.w (neg_ℤ q.x) (neg_ℤ q.y) (neg_ℤ q.z) _ _ _ _ p.w p.x p.y p.z
    (ap (λ (r : Rotation). r.w) back) (ap (λ (r : Rotation). r.x) back) (ap (λ (r : Rotation). r.y) back) (ap (λ (r : Rotation). r.z) back) c.dot.ensures.value in
    let x = with_factors c.dot-2.result q.x q.w q.z (neg_ℤ q.y) _ _ _ _ p.w p.x p.y p.z x_is w_is z_is y_back c.dot-2.ensures.value in
    let y = with_factors c.dot-3.result q.y (neg_ℤ q.z) q.w q.x _ _ _ _ p.w p.x p.y p.z y_is z_back w_is x_is c.dot-3.ensures.value in
    let z = with_factors c.dot-4.result q.z q.y (neg_ℤ q.x) q.w _ _ _ _ p.w p.x p.y p.z z_is y_is x_back w_is c.dot-4.ensures.value in
    four_same _ _ _ _ _ _ _ _
    (to_z-of_z w64 c.dot.result (search rules) ∙ w ∙ three_minus (p.w *ℤ q.w) p.x q.x p.y q.y p.z q.z)
    (to_z-of_z w64 c.dot-2.result (search rules) ∙ x ∙ minus (p.w *ℤ q.x +ℤ p.x *ℤ q.w +ℤ p.y *ℤ q.z) p.z q.y)
    (to_z-of_z w64 c.dot-3.result (search rules) ∙ y ∙ ap (λ (s : ℤ). s +ℤ p.y *ℤ q.w +ℤ p.z *ℤ q.x) (minus (p.w *ℤ q.y) p.x q.z))
    (to_z-of_z w64 c.dot-4.result (search rules) ∙ z ∙ ap (λ (s : ℤ). s +ℤ p.z *ℤ q.w) (minus (p.w *ℤ q.z +ℤ p.x *ℤ q.y) p.y q.x))
