-- The first fault of lists one after the other.
use Rattle.std.proofs.Common.{◌≡◌, List, [], ◌∷◌, ◌++◌, map, Option, Some, None, option_map, refl}
use Rattle.rig_scenejson.specs.Tests.{first}

-- the first of one list after another: the first of the one, else of the other
abbrev pub or_first : {A : Type 0} → Option A → Option A → Option A
or_first None other = other
or_first (Some x) other = Some x

pub first_append : {A : Type 0} (xs ys : List A) → first (xs ++ ys) ≡ or_first (first xs) (first ys)
first_append [] ys = refl
first_append (x ∷ xs) ys = refl

pub first_map : {A B : Type 0} (f : A → B) (xs : List A) → first (map f xs) ≡ option_map f (first xs)
first_map f [] = refl
first_map f (x ∷ xs) = refl
