-- Lists of faults with none in them, and what that says of what was tested.
use Rattle.std.proofs.Common.{◌≡◌, ℕ, suc, Bool, true, false, ◌&&◌, List, [], ◌∷◌, ◌++◌, length, map, Option, Some, None, refl, ap, arith, nat_le}
use Rattle.std.specs.Prelude.{unwrap_or}
use Rattle.std.specs.Option.{option_map_or}
use Rattle.std.proofs.lemmas.Bool.{and_parts}
use Rattle.std.proofs.lemmas.Bool.Decides.{nat_tests}
use Rattle.serde_json.specs.Data.{Data, Items, no_items, item}
use Rattle.serde_json.specs.Find.{as_array}
use Rattle.rig_scenejson.specs.declared.fault.Cause.{Cause}
use Rattle.rig_scenejson.specs.declared.fault.Cause.TheVariants.{Missing, WrongKind, Count}
use Rattle.rig_scenejson.specs.declared.fault.Fault.{Fault}
use Rattle.rig_scenejson.specs.declared.member.Member.{Member}
use Rattle.rig_scenejson.specs.Tests.{fault, unless, in_member, in_item, field, required, optional, items_faults}
use Rattle.rig_scenejson.specs.Value.{items_of, item_count}
use Rattle.rig_scenejson.specs.Given.{items_at, values, values_from}
use Rattle.rig_scenejson.specs.PassOne.{list_faults, where_true}
use Rattle.rig_scenejson.specs.PassTwo.{each_from, each_faults}

-- ---- lists with nothing in them

pub left_none : {A : Type 0} (xs ys : List A) → xs ++ ys ≡ [] → xs ≡ []
left_none [] ys e = refl
left_none (x ∷ xs) ys e = cc

pub right_none : {A : Type 0} (xs ys : List A) → xs ++ ys ≡ [] → ys ≡ []
right_none [] ys e = e
right_none (x ∷ xs) ys e = cc

pub both_none : {A : Type 0} (xs ys : List A) → xs ++ ys ≡ [] → (xs ≡ []) × (ys ≡ [])
both_none xs ys e = (left_none xs ys e, right_none xs ys e)

pub map_none : {A B : Type 0} (f : A → B) (xs : List A) → map f xs ≡ [] → xs ≡ []
map_none f [] e = refl
map_none f (x ∷ xs) e = cc

pub in_member_none : (m : Member) (xs : List Fault) → in_member m xs ≡ [] → xs ≡ []
in_member_none m [] e = refl
in_member_none m (x ∷ xs) e = cc

pub in_item_none : (i : ℕ) (xs : List Fault) → in_item i xs ≡ [] → xs ≡ []
in_item_none i [] e = refl
in_item_none i (x ∷ xs) e = cc

-- ---- tests

pub unless_none : (b : Bool) (c : Cause) → unless b c ≡ [] → b ≡ true
unless_none true c e = refl
unless_none false c e = cc

pub where_true_none : (b : Bool) (xs : List Fault) → where_true b xs ≡ [] → b ≡ true → xs ≡ []
where_true_none true xs e is = e
where_true_none false xs e is = cc

-- ---- members

-- a member that has to be there is there, and has no fault
pub required_none : (m : Member) (f : Data → List Fault) (d : Data) → required m f d ≡ [] → (v : Data) × (field m d ≡ Some v) × (f v ≡ [])
required_none m f d e = by (field m d) refl e
  where
    by : (o : Option Data) → field m d ≡ o → in_member m (option_map_or f o (fault Missing)) ≡ [] → (v : Data) × (field m d ≡ Some v) × (f v ≡ [])
    by None is e = cc
    by (Some v) is e = (v, is, in_member_none m (f v) e)

-- what holds of each value without a fault holds of a member that has to be there
pub of_required : (P : Option Data → Type 0) (m : Member) (f : Data → List Fault) (d : Data) → ((v : Data) → f v ≡ [] → P (Some v)) → required m f d ≡ [] → P (field m d)
of_required P m f d each e = by (field m d) e
  where
    by : (o : Option Data) → in_member m (option_map_or f o (fault Missing)) ≡ [] → P o
    by None e = cc
    by (Some v) e = each v (in_member_none m (f v) e)

-- what holds of nothing, and of each value without a fault, holds of a member that may be absent
pub of_optional : (P : Option Data → Type 0) (m : Member) (f : Data → List Fault) (d : Data) → P None → ((v : Data) → f v ≡ [] → P (Some v)) → optional m f d ≡ [] → P (field m d)
of_optional P m f d none each e = by (field m d) e
  where
    by : (o : Option Data) → in_member m (option_map_or f o []) ≡ [] → P o
    by None e = none
    by (Some v) e = each v (in_member_none m (f v) e)

-- a member that may be absent has no fault where it is there
pub optional_none : (m : Member) (f : Data → List Fault) (d v : Data) → optional m f d ≡ [] → field m d ≡ Some v → f v ≡ []
optional_none m f d v e is = of_optional (λ o. o ≡ Some v → f v ≡ []) m f d (λ is. cc) (λ w none is. let same : w ≡ v = cc in rw (← same) none) e is

-- ---- items

module _ {B : Type 0} (f : B → Data → List Fault) (n : B → Data → B) where
  pub head_none : (i : ℕ) (b : B) (d : Data) (ds : Items) → items_faults f n i b (item d ds) ≡ [] → f b d ≡ []
  head_none i b d ds e = in_item_none i (f b d) (left_none (in_item i (f b d)) (items_faults f n (suc i) (n b d) ds) e)

  pub rest_none : (i : ℕ) (b : B) (d : Data) (ds : Items) → items_faults f n i b (item d ds) ≡ [] → items_faults f n (suc i) (n b d) ds ≡ []
  rest_none i b d ds e = right_none (in_item i (f b d)) (items_faults f n (suc i) (n b d) ds) e

-- so many items, and none of them has a fault
abbrev pub IsListOf : {B : Type 0} → ℕ → ℕ → (B → Data → List Fault) → (B → Data → B) → B → Items → Type 0
IsListOf least most f n b ds = (nat_le least (item_count ds) ≡ true) × (nat_le (item_count ds) most ≡ true) × (items_faults f n 0 b ds ≡ [])

module _ {B : Type 0} (least most : ℕ) (f : B → Data → List Fault) (n : B → Data → B) (b : B) where
  -- a list without a fault has so many items, and none of them has a fault
  pub list_none : (d : Data) → list_faults least most f n b d ≡ [] → IsListOf least most f n b (items_of d)
  list_none d e = by (as_array d) refl e
    where
      by : (o : Option Items) → as_array d ≡ o
          → option_map_or (λ ds. unless (nat_le least (item_count ds) && nat_le (item_count ds) most) Count ++ items_faults f n 0 b ds) o (fault WrongKind) ≡ []
          → IsListOf least most f n b (unwrap_or (as_array d) no_items)
      by None is e = cc
      by (Some ds) is e =
          let parts = both_none (unless (nat_le least (item_count ds) && nat_le (item_count ds) most) Count) (items_faults f n 0 b ds) e in
          let tests = and_parts (nat_le least (item_count ds)) (nat_le (item_count ds) most) (unless_none (nat_le least (item_count ds) && nat_le (item_count ds) most) Count parts.0) in
          rw is (tests.0, tests.1, parts.1)

-- a list that may be absent has at most so many items, and none of them has a fault
pub optional_list_none : {B : Type 0} (m : Member) (most : ℕ) (f : B → Data → List Fault) (n : B → Data → B) (b : B) (d : Data) → optional m (list_faults 0 most f n b) d ≡ []
    → (nat_le (item_count (items_at m d)) most ≡ true) × (items_faults f n 0 b (items_at m d) ≡ [])
optional_list_none m most f n b d e =
    of_optional (λ o. (nat_le (item_count (option_map_or items_of o no_items)) most ≡ true) × (items_faults f n 0 b (option_map_or items_of o no_items) ≡ []))
    m (list_faults 0 most f n b) d (grind (arith, nat_tests), refl) (λ v none. let parts = list_none 0 most f n b v none in (parts.1, parts.2)) e

-- a list that has to be there has so many items, and none of them has a fault
pub required_list_none : {B : Type 0} (m : Member) (least most : ℕ) (f : B → Data → List Fault) (n : B → Data → B) (b : B) (d : Data) → required m (list_faults least most f n b) d ≡ [] → IsListOf least most f n b (items_at m d)
required_list_none m least most f n b d e =
    of_required (λ o. IsListOf least most f n b (option_map_or items_of o no_items))
    m (list_faults least most f n b) d (list_none least most f n b) e

-- the items of the second pass
pub each_none : {B : Type 0} (m : Member) (f : ℕ → B → Data → List Fault) (n : B → Data → B) (b : B) (d : Data) → each_faults m f n b d ≡ [] → each_from f n 0 b (items_at m d) ≡ []
each_none m f n b d e = of_optional (λ o. each_from f n 0 b (option_map_or items_of o no_items) ≡ []) m (λ v. each_from f n 0 b (items_of v)) d refl (λ v none. none) e

module _ {B : Type 0} (f : ℕ → B → Data → List Fault) (n : B → Data → B) where
  pub each_head_none : (i : ℕ) (b : B) (d : Data) (ds : Items) → each_from f n i b (item d ds) ≡ [] → f i b d ≡ []
  each_head_none i b d ds e = in_item_none i (f i b d) (left_none (in_item i (f i b d)) (each_from f n (suc i) (n b d) ds) e)

  pub each_rest_none : (i : ℕ) (b : B) (d : Data) (ds : Items) → each_from f n i b (item d ds) ≡ [] → each_from f n (suc i) (n b d) ds ≡ []
  each_rest_none i b d ds e = right_none (in_item i (f i b d)) (each_from f n (suc i) (n b d) ds) e

-- ---- how many

pub length_values : {A : Type 0} (f : Data → A) (ds : Items) → length (values f ds) ≡ item_count ds
length_values f no_items = refl
length_values f (item d ds) = ap suc (length_values f ds)

pub length_values_from : {A : Type 0} (f : ℕ → Data → A) (i : ℕ) (ds : Items) → length (values_from f i ds) ≡ item_count ds
length_values_from f i no_items = refl
length_values_from f i (item d ds) = ap suc (length_values_from f (suc i) ds)

pub map_values : {A B : Type 0} (g : A → B) (f : Data → A) (ds : Items) → map g (values f ds) ≡ values (λ d. g (f d)) ds
map_values g f no_items = refl
map_values g f (item d ds) = ap (λ xs. g (f d) ∷ xs) (map_values g f ds)

pub map_values_from : {A B : Type 0} (g : A → B) (f : ℕ → Data → A) (i : ℕ) (ds : Items) → map g (values_from f i ds) ≡ values_from (λ i d. g (f i d)) i ds
map_values_from g f i no_items = refl
map_values_from g f i (item d ds) = ap (λ xs. g (f i d) ∷ xs) (map_values_from g f (suc i) ds)

-- what doesn't name the index
pub values_from_values : {A : Type 0} (f : Data → A) (i : ℕ) (ds : Items) → values_from (λ i d. f d) i ds ≡ values f ds
values_from_values f i no_items = refl
values_from_values f i (item d ds) = ap (λ xs. f d ∷ xs) (values_from_values f (suc i) ds)
