-- What is left where not all strokes could be added.
use Rattle.std.proofs.Common.{◌≡◌, ℕ, ◌+◌, ◌<◌, List, ◌++◌, length, map, take, sym, ◌∙◌, ap, OnErr, Result, Ok, Err, append_assoc, arith}
use Rattle.std.proofs.lemmas.List.{length-map, length-append, take-map}
use Rattle.std.proofs.Math.Seq.{take-append-add}
use Rattle.rig_fixed.specs.declared.vector.V3.{V3}
use Rattle.rig_scene.specs.declared.pencil.Stroke.{Stroke}
use Rattle.rig_scene.specs.Layer.{map_points}
use Rattle.rig_modifiers.specs.Partly.{AddsFewer}

-- what is left after any result is left after an error
pub after-err : {T E : Type 0} (P : Type 0) (result : Result T E) → P → OnErr result P
after-err P (Ok value) left = tt
after-err P (Err error) left = left

-- the first i strokes, where there are more, each with its points changed
pub fewer-map : (f : V3 → V3) (ss old new : List Stroke) (i : ℕ) → i < length ss → new ≡ old ++ map_points f (take i ss) → AddsFewer (map_points f ss) old new
fewer-map f ss old new i within is =
    let g : Stroke → Stroke = λ s. record { points = map f s.points } in
    let same : length (map g ss) ≡ length ss = length-map ss g in
    record { count = i; fewer = omega arith; added = is ∙ ap (λ ts. old ++ ts) (sym (take-map g i ss)) }

-- the first of two lists, and fewer than the other
pub fewer-then : (first then all old mid new : List Stroke) → first ++ then ≡ all → mid ≡ old ++ first → AddsFewer then mid new → AddsFewer all old new
fewer-then first then all old mid new is added part =
    let sum : length (first ++ then) ≡ length first + length then = length-append first then in
    let whole : length (first ++ then) ≡ length all = ap length is in
    record {
      count = length first + part.count;
      fewer = omega (arith, part.fewer);
      added = part.added ∙ ap (λ ts. ts ++ take part.count then) added ∙ append_assoc old first (take part.count then)
          ∙ ap (λ ts. old ++ ts) (sym (take-append-add first then part.count) ∙ ap (take (length first + part.count)) is);
    }
