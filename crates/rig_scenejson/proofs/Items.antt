-- What holds of all items of a list, where none of them has a fault: of each one, of their names, of their sums.
use Rattle.std.proofs.Common.{◌≡◌, ℕ, suc, ◌+◌, ◌-◌, ◌≤◌, Bool, true, not, List, [], ◌∷◌, ◌++◌, refl, sym, ap, ◌∙◌, arith}
use Rattle.std.specs.Prelude.{sum_by}
use Rattle.std.specs.List.{list_all, list_any, fold}
use Rattle.std.proofs.lemmas.Bool.{and_from}
use Rattle.serde_json.specs.Data.{Data, Items, no_items, item}
use Rattle.rig_scene.specs.Distinct.{are_new_after}
use Rattle.rig_scenejson.specs.declared.fault.Fault.{Fault}
use Rattle.rig_scenejson.specs.declared.member.Member.TheVariants as m
use Rattle.rig_scenejson.specs.Tests.{items_faults, items_after}
use Rattle.rig_scenejson.specs.Value.{item_count}
use Rattle.rig_scenejson.specs.Given.{items_at, values, values_from}
use Rattle.rig_scenejson.specs.PassTwo.{each_from}
use Rattle.rig_scenejson.proofs.Lists.{head_none, rest_none, each_head_none, each_rest_none}

-- ---- of each item

module _ {A B : Type 0} (p : A → Bool) (value : Data → A) (f : B → Data → List Fault) (n : B → Data → B) (passes : (b : B) (d : Data) → f b d ≡ [] → p (value d) ≡ true) where
  -- each item without a fault gives what passes
  pub all_values : (i : ℕ) (b : B) (ds : Items) → items_faults f n i b ds ≡ [] → list_all p (values value ds) ≡ true
  all_values i b no_items e = refl
  all_values i b (item d ds) e = and_from (p (value d)) (list_all p (values value ds)) (passes b d (head_none f n i b d ds e)) (all_values (suc i) (n b d) ds (rest_none f n i b d ds e))

module _ {A B C : Type 0} (p : A → Bool) (value : ℕ → Data → A) (f : B → Data → List Fault) (n : B → Data → B) (g : ℕ → C → Data → List Fault) (o : C → Data → C)
    (passes : (i : ℕ) (b : B) (c : C) (d : Data) → f b d ≡ [] → g i c d ≡ [] → p (value i d) ≡ true) where
  -- each item that has no fault in either pass gives what passes
  pub all_values_from : (i : ℕ) (b : B) (c : C) (ds : Items) → items_faults f n i b ds ≡ [] → each_from g o i c ds ≡ [] → list_all p (values_from value i ds) ≡ true
  all_values_from i b c no_items e h = refl
  all_values_from i b c (item d ds) e h =
      and_from (p (value i d)) (list_all p (values_from value (suc i) ds)) (passes i b c d (head_none f n i b d ds e) (each_head_none g o i c d ds h))
      (all_values_from (suc i) (n b d) (o c d) ds (rest_none f n i b d ds e) (each_rest_none g o i c d ds h))

module _ {A C : Type 0} (p : A → Bool) (value : ℕ → Data → A) (g : ℕ → C → Data → List Fault) (o : C → Data → C) (passes : (i : ℕ) (c : C) (d : Data) → g i c d ≡ [] → p (value i d) ≡ true) where
  -- each item that has no fault in the second pass gives what passes
  pub all_referring : (i : ℕ) (c : C) (ds : Items) → each_from g o i c ds ≡ [] → list_all p (values_from value i ds) ≡ true
  all_referring i c no_items h = refl
  all_referring i c (item d ds) h = and_from (p (value i d)) (list_all p (values_from value (suc i) ds)) (passes i c d (each_head_none g o i c d ds h)) (all_referring (suc i) (o c d) ds (each_rest_none g o i c d ds h))

-- ---- what stands once in a list

module _ {A B : Type 0} (same : A → A → Bool) (key : Data → A) (seen : B → List A) (f : B → Data → List Fault) (n : B → Data → B)
    (new : (b : B) (d : Data) → f b d ≡ [] → not (list_any (same (key d)) (seen b)) ≡ true) (grows : (b : B) (d : Data) → seen (n b d) ≡ seen b ++ key d ∷ []) where
  -- where each item is tested against those before it, each is new
  pub new_values : (i : ℕ) (b : B) (ds : Items) → items_faults f n i b ds ≡ [] → are_new_after same (seen b) (values key ds) ≡ true
  new_values i b no_items e = refl
  new_values i b (item d ds) e =
      and_from (not (list_any (same (key d)) (seen b))) (are_new_after same (seen b ++ key d ∷ []) (values key ds)) (new b d (head_none f n i b d ds e))
      (ap (λ xs. are_new_after same xs (values key ds)) (sym (grows b d)) ∙ new_values (suc i) (n b d) ds (rest_none f n i b d ds e))

-- ---- sums

-- the sum over items
abbrev pub total : (Data → ℕ) → Items → ℕ
total count no_items = 0
total count (item d ds) = count d + total count ds

-- how many keys a curve's or a layer's record has
abbrev pub keys_in : Data → ℕ
keys_in d = item_count (items_at m.Keys d)

sum_onto : {A : Type 0} (g : A → ℕ) (k : ℕ) (xs : List A) → fold (λ a x. a + g x) k xs ≡ k + fold (λ a x. a + g x) 0 xs
sum_onto g k [] = omega arith
sum_onto g k (x ∷ xs) = let one = sum_onto g (k + g x) xs in let other = sum_onto g (0 + g x) xs in omega (arith, one, other)

pub sum-values : {A : Type 0} (g : A → ℕ) (value : Data → A) (count : Data → ℕ) → ((d : Data) → g (value d) ≡ count d) → (ds : Items) → sum_by g (values value ds) ≡ total count ds
sum-values g value count is no_items = refl
sum-values g value count is (item d ds) =
    let rest = sum-values g value count is ds in
    let first = is d in
    let onto = sum_onto g (0 + g (value d)) (values value ds) in
    omega (arith, rest, first, onto)

pub sum-values_from : {A : Type 0} (g : A → ℕ) (value : ℕ → Data → A) (count : Data → ℕ) → ((i : ℕ) (d : Data) → g (value i d) ≡ count d) → (i : ℕ) (ds : Items) → sum_by g (values_from value i ds) ≡ total count ds
sum-values_from g value count is i no_items = refl
sum-values_from g value count is i (item d ds) =
    let rest = sum-values_from g value count is (suc i) ds in
    let first = is i d in
    let onto = sum_onto g (0 + g (value i d)) (values_from value (suc i) ds) in
    omega (arith, rest, first, onto)

module _ {B : Type 0} (count : Data → ℕ) (left : B → ℕ) (n : B → Data → B) (takes : (b : B) (d : Data) → left (n b d) ≡ left b - count d) where
  -- what is left after items that each take theirs
  pub left_after : (b : B) (ds : Items) → left (items_after n b ds) ≡ left b - total count ds
  left_after b no_items = omega arith
  left_after b (item d ds) =
      let rest = left_after (n b d) ds in
      let first = takes b d in
      omega (arith, rest, first)

  module _ (f : B → Data → List Fault) (fits : (b : B) (d : Data) → f b d ≡ [] → count d ≤ left b) where
    -- where each item takes at most what is left, all of them take at most what was left before them
    pub total_fits : (i : ℕ) (b : B) (ds : Items) → items_faults f n i b ds ≡ [] → total count ds ≤ left b
    total_fits i b no_items e = omega arith
    total_fits i b (item d ds) e =
        let rest = total_fits (suc i) (n b d) ds (rest_none f n i b d ds e) in
        let first = takes b d in
        let one = fits b d (head_none f n i b d ds e) in
        omega (arith, rest, first, one)
