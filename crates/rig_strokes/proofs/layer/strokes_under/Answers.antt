use Rattle.std.proofs.Common.{◌≡◌, ℕ, ◌+◌, ◌<◌, List, [], ◌∷◌, ◌++◌, Some, length, map, take, slice_get, sym, ◌∙◌, ap}
use Rattle.std.proofs.lemmas.List.{take_more, map-append}
use Rattle.std.proofs.lemmas.Option.{get_or_from_slice_get, slice_get_within}
use Rattle.rig_fixed.specs.declared.vector.V3.{V3}
use Rattle.rig_points.specs.Change.{point_under}
use Rattle.rig_scene.specs.declared.pencil.Stroke.{Stroke}
use Rattle.rig_scene.specs.Layer.{map_points}
use Rattle.rig_strokes.proofs.layer.strokes_under.Goals as goal

-- the strokes so far, and the next
one_more : (f : V3 → V3) (ss : List Stroke) (i : ℕ) (s : Stroke) (points : List V3) → i < length ss → slice_get ss i ≡ Some s → points ≡ map f s.points → map_points f (take i ss) ++ record { points = points } ∷ [] ≡ map_points f (take (i + 1) ss)
one_more f ss i s points within at is =
    ap (λ points. map_points f (take i ss) ++ record { points = points } ∷ []) is
    ∙ sym (map-append (λ s. record { points = map f s.points }) (take i ss) (s ∷ []))
    ∙ ap (λ s. map_points f (take i ss ++ s ∷ [])) (sym (get_or_from_slice_get ss i s s at))
    ∙ ap (map_points f) (sym (take_more ss i s within))

pub loop-index-preserved : goal.loop-index-preserved
loop-index-preserved c =
    let ss = c.args.strokes.now in
    let f = point_under c.args.change.now in
    let i = c.loop-index.index in
    let s = c.get.result.now in
    let within : i < length ss = slice_get_within ss i s c.get.ensures in
    let points : c.from.result ≡ map f s.points = c.from.ensures ∙ c.in_ok-points.ensures ∙ ap (map f) c.as_slice.ensures in
    let items : map_points f (take i ss) ++ record { points = c.from.result } ∷ [] ≡ map_points f (take (i + 1) ss) = one_more f ss i s c.from.result within c.get.ensures points in
    record {
      items = c.push_reserved.ensures.items ∙ ap (λ new. new ++ record { points = c.from.result } ∷ []) c.loop-index.invariant.items ∙ items;
      len = c.push_reserved.ensures.len ∙ ap (λ n. n + 1) c.loop-index.invariant.len;
      room = c.push_reserved.ensures.capacity ∙ c.loop-index.invariant.room;
    }
