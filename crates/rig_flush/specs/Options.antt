-- Lists of options that all have a value, and lists in which an element was replaced.
use Rattle.std.proofs.Common.{◌≡◌, ◌≢◌, ℕ, suc, ◌+◌, ◌<◌, List, [], ◌∷◌, ◌++◌, length, map, take, drop, get_or, Option, Some, refl, sym, ap, ◌∙◌, arith}
use Rattle.std.specs.Prelude.{slice_get, IsSome, IfOk, Result, Ok, Err}
use Rattle.std.proofs.Math.ListN.{set}
use Rattle.std.specs.List.{All, filter_map}
use Rattle.std.proofs.lemmas.List.{get_or-set_same, get_or-set_other, length-set, take-append-drop}
use Rattle.std.proofs.lemmas.List.Elements.{All-map}
use Rattle.std.proofs.lemmas.Option.{slice_get-get_or, slice_get_within, get_or_from_slice_get}
use Rattle.std.proofs.Math.Seq.{drop-cons}
use Rattle.rig_laws.specs.Lists.{All-of_any}

-- what `Some` was put around is there without it
values_of : {X : Type 0} (xs : List X) → filter_map (λ (o : Option X). o) (map Some xs) ≡ xs
values_of [] = refl
values_of (x ∷ xs) = ap (λ l. x ∷ l) (values_of xs)

pub same_values : {X : Type 0} (xs ys : List X) → map Some xs ≡ map Some ys → xs ≡ ys
same_values {X} xs ys e = sym (values_of xs) ∙ ap (filter_map (λ (o : Option X). o)) e ∙ values_of ys

pub All-there : {X : Type 0} (xs : List X) → All (λ o. IsSome o) (map Some xs)
All-there {X} xs = All-map (λ (o : Option X). IsSome o) Some xs (All-of_any (λ x. IsSome (Some x)) xs (λ x. refl))

-- what three clauses say of the same `Ok`
pub ok_of_three : {X E : Type 0} (r : Result X E) (P Q R S : X → Type 0) → ((x : X) → P x → Q x → R x → S x) → IfOk r P → IfOk r Q → IfOk r R → IfOk r S
ok_of_three (Ok x) P Q R S f p q t = f x p q t
ok_of_three (Err e) P Q R S f p q t = tt

-- an element was replaced by another
pub replaced : {X : Type 0} (xs : List X) (n : ℕ) (x : X) → n < length xs → slice_get (set xs n x) n ≡ Some x
replaced xs n x l = slice_get-get_or (set xs n x) n x (omega (arith, length-set xs n x)) ∙ ap Some (get_or-set_same xs n x x l)

pub not_replaced : {X : Type 0} (xs : List X) (n m : ℕ) (x y : X) → m ≢ n → slice_get xs m ≡ Some y → slice_get (set xs n x) m ≡ Some y
not_replaced xs n m x y other at =
    slice_get-get_or (set xs n x) m y (omega (arith, length-set xs n x, slice_get_within xs m y at))
    ∙ ap Some (get_or-set_other xs n m x y other ∙ get_or_from_slice_get xs m y y at)

-- where an element stands in a list
pub at_index : {X : Type 0} (xs : List X) (i : ℕ) (d : X) → i < length xs → xs ≡ take i xs ++ get_or xs i d ∷ drop (i + 1) xs
at_index xs i d l =
    sym (take-append-drop i xs)
    ∙ ap (λ l. take i xs ++ l) (drop-cons xs i d l ∙ ap (λ n. get_or xs i d ∷ drop n xs) {x = suc i} (omega arith))
