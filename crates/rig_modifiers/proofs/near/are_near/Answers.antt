use Rattle.std.proofs.Common.{◌≡◌, ◌+◌, ◌∷◌, drop, subst, sym, ◌∙◌, ap}
use Rattle.std.proofs.lemmas.List.{drop_more}
use Rattle.std.proofs.lemmas.List.Elements.{All-cons, All-tail}
use Rattle.rig_points.specs.Near.{AreNear}
use Rattle.rig_modifiers.specs.Near.{AreNearStrokes}
use Rattle.rig_modifiers.proofs.near.are_near.Goals as goal

pub loop-stroke-preserved : goal.loop-stroke-preserved
loop-stroke-preserved c =
    let strokes = c.args.strokes.now in
    let i = c.loop-stroke.stroke-index in
    let s = c.stroke-item.result in
    let rest = drop (i + 1) strokes in
    let left : drop i strokes ≡ s ∷ rest = drop_more strokes i s c.loop-stroke-test.true ∙ ap (λ t. t ∷ rest) (sym c.stroke-item.is) in
    let near : AreNear s.points = subst AreNear c.as_slice.ensures (c.of.ensures.near.0 c.if-is_none.ensures) in (
      λ others. c.loop-stroke.invariant.0 (subst AreNearStrokes (sym left) (All-cons (λ s. AreNear s.points) s rest near others)),
      λ all. All-tail (λ s. AreNear s.points) s rest (subst AreNearStrokes left (c.loop-stroke.invariant.1 all)),
    )
