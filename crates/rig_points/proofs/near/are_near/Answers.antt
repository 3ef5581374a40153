use Rattle.std.proofs.Common.{◌≡◌, ◌<◌, ◌+◌, ◌∷◌, All, drop, subst, sym, ◌∙◌, ap, ℕ, IsTrue, nat_lt, [], arith}
use Rattle.std.proofs.Math.ListN.{drop_of_length-le}
use Rattle.std.proofs.lemmas.Bool.Decides.{nat_tests}
use Rattle.std.proofs.lemmas.List.{drop_more}
use Rattle.std.proofs.lemmas.List.Elements.{All-nil, All-cons, All-head, All-tail}
use Rattle.rig_points.specs.Near.{IsNearPoint}
use Rattle.rig_points.proofs.Bits.{left_below, right_below, both_below}
use Rattle.rig_points.proofs.near.are_near.Goals as goal

below : (n m : ℕ) → IsTrue (nat_lt n m) → n < m
below n m test = grind (arith, nat_tests)

is_below : (n m : ℕ) → n < m → IsTrue (nat_lt n m)
is_below n m less = grind (arith, nat_tests)

pub loop-point-preserved : goal.loop-point-preserved
loop-point-preserved c =
    let points = c.args.points.now in
    let i = c.loop-point.point-index in
    let p = c.point-item.result in
    let rest = drop (i + 1) points in
    let left : drop i points ≡ p ∷ rest = drop_more points i p c.loop-point-test.true ∙ ap (λ q. q ∷ rest) (sym c.point-item.is) in
    let bits = c.loop-point.bits in
    let more = c.raised_point-bits.result in (
      λ small. c.loop-point.invariant.0 (
        left_below _ bits more small.0,
        subst (All IsNearPoint) (sym left) (All-cons IsNearPoint p rest (c.raised_point-bits.ensures.0 (right_below _ bits more small.0)) small.1),
      ),
      λ near.
          let before = c.loop-point.invariant.1 near in
          let now : All IsNearPoint (p ∷ rest) = subst (All IsNearPoint) left before.1 in
          (both_below bits more before.0 (c.raised_point-bits.ensures.1 (All-head IsNearPoint p rest now)), All-tail IsNearPoint p rest now),
    )

pub returns : goal.returns
returns c =
    let points = c.args.points.now in
    let none : drop c.loop-point.point-index points ≡ [] = drop_of_length-le points c.loop-point-test.false in (
      λ test. c.loop-point.invariant.0 (below _ _ test, subst (All IsNearPoint) (sym none) (All-nil IsNearPoint)),
      λ near. is_below _ _ (c.loop-point.invariant.1 near).0,
    )
