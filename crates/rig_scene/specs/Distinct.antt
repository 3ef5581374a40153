-- Lists in which nothing stands twice, and lists that rise.
use Rattle.std.specs.Prelude.{◌&&◌, List, [], ◌∷◌, ◌++◌, Bool, true, not}
use Rattle.std.specs.List.{list_any}

-- each is the same as none of those seen and none before it
abbrev pub are_new_after : {A : Type 0} → (A → A → Bool) → List A → List A → Bool
are_new_after same seen [] = true
are_new_after same seen (x ∷ xs) = not (list_any (same x) seen) && are_new_after same (seen ++ x ∷ []) xs

-- each is the same as none before it
abbrev pub are_distinct : {A : Type 0} → (A → A → Bool) → List A → Bool
are_distinct same xs = are_new_after same [] xs

-- each is above the one before it
abbrev pub are_rising : {A : Type 0} → (A → A → Bool) → List A → Bool
are_rising below [] = true
are_rising below (x ∷ []) = true
are_rising below (x ∷ y ∷ ys) = below x y && are_rising below (y ∷ ys)
