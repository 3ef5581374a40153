-- One more element of a list that is changed in place.
use Rattle.std.proofs.Common.{◌≡◌, ℕ, ◌<◌, ◌+◌, List, ◌++◌, length, map, take, drop, get_or, ◌∙◌, ap, sym}
use Rattle.std.proofs.Math.ListN.{set}
use Rattle.std.proofs.lemmas.List.Edits.{map_over_more}

-- a turn of a loop that replaces each element x by f x
pub changed_more : {X : Type 0} (f : X → X) (old new : List X) (i : ℕ) (x y : X) → i < length old → new ≡ map f (take i old) ++ drop i old → x ≡ get_or new i x → y ≡ f (get_or new i x) → set new i y ≡ map f (take (i + 1) old) ++ drop (i + 1) old
changed_more f old new i x y within before is changed =
    ap (λ y. set new i y) (changed ∙ ap f (sym is)) ∙ map_over_more f old new i x within before is
