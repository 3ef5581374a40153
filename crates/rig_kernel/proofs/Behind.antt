-- Inputs by their index behind others.
use Rattle.std.proofs.Common.{◌≡◌, ℕ, zero, suc, ◌+◌, List, [], ◌∷◌, drop, Option, refl, sym, ap, ◌∙◌, arith}
use Rattle.std.specs.Prelude.{slice_get}
use Rattle.std.specs.Option.{option_map_or}
use Rattle.rig_scene.specs.Value.{Numbers, numbers_in, number_in, transform_in}
use Rattle.rig_laws.specs.Output.{Output, numbers_at, number_at, transform_at}

pub slice_get-drop : {A : Type 0} (n : ℕ) (xs : List A) (k : ℕ) → slice_get (drop n xs) k ≡ slice_get xs (n + k)
slice_get-drop zero xs k = ap (slice_get xs) {x = k} {y = 0 + k} (omega arith)
slice_get-drop (suc n) [] k = refl
slice_get-drop (suc n) (x ∷ xs) k = slice_get-drop n xs k ∙ ap (slice_get (x ∷ xs)) {x = suc (n + k)} {y = suc n + k} (omega arith)

drop-nil : {A : Type 0} (n : ℕ) → drop {A = A} n [] ≡ []
drop-nil zero = refl
drop-nil (suc n) = refl

pub drop_twice : {A : Type 0} (a b : ℕ) (xs : List A) → drop (a + b) xs ≡ drop b (drop a xs)
drop_twice zero b xs = ap (λ n. drop n xs) {x = 0 + b} {y = b} (omega arith)
drop_twice {A} (suc a) b [] = ap (λ n. drop {A = A} n []) {x = suc a + b} {y = suc (a + b)} (omega arith) ∙ sym (drop-nil b)
drop_twice (suc a) b (x ∷ xs) = ap (λ n. drop n (x ∷ xs)) {x = suc a + b} {y = suc (a + b)} (omega arith) ∙ drop_twice a b xs

pub numbers_behind : (n : ℕ) (outs : List Output) → numbers_at (drop n outs) 0 ≡ numbers_at outs n
numbers_behind n outs =
    ap (λ (i : Option Output). numbers_in (option_map_or (λ i. i.value) i (Numbers []))) (slice_get-drop n outs 0 ∙ ap (slice_get outs) {x = n + 0} {y = n} (omega arith))

first_behind : (n : ℕ) (outs : List Output) → slice_get (drop n outs) 0 ≡ slice_get outs n
first_behind n outs = slice_get-drop n outs 0 ∙ ap (slice_get outs) {x = n + 0} {y = n} (omega arith)

pub number_behind : (n : ℕ) (outs : List Output) → number_at (drop n outs) 0 ≡ number_at outs n
number_behind n outs = ap (λ (i : Option Output). number_in (option_map_or (λ i. i.value) i (Numbers []))) (first_behind n outs)

pub transform_behind : (n : ℕ) (outs : List Output) → transform_at (drop n outs) 0 ≡ transform_at outs n
transform_behind n outs = ap (λ (i : Option Output). transform_in (option_map_or (λ i. i.value) i (Numbers []))) (first_behind n outs)
