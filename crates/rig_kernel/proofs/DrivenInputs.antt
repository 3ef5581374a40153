-- Inputs by their index behind others, and the driven ones among them.
use Rattle.std.proofs.Common.{◌≡◌, ◌≢◌, ℕ, zero, suc, ◌+◌, ◌-◌, ◌<◌, ◌≤◌, List, [], ◌∷◌, drop, Option, Some, None, true, false, cond, ℤ, refl, ap, ◌∙◌, arith, eq-eqb}
use Rattle.std.proofs.lemmas.Bool.{ne_eqb, false≢true}
use Rattle.std.specs.Option.{option_map_or}
use Rattle.std.proofs.lemmas.Option.{same_Some}
use Rattle.std.specs.Prelude.{slice_get}
use Rattle.rig_scene.specs.declared.id.AnimId.{AnimId}
use Rattle.rig_scene.specs.declared.operation.OpId.{OpId}
use Rattle.rig_scene.specs.declared.operation.OpId.TheVariants.{Time, Animation, Driver, Local, World, PoseInit, Bone, PoseDone, Layer, Geometry, ModifierOp, GeometryDone}
use Rattle.rig_scene.specs.declared.path.Path.{Path}
use Rattle.rig_scene.specs.Value.{number_in}
use Rattle.rig_kernel.specs.Driven.{driven_among, number_if, path_place, is_driver, driver_count}
use Rattle.rig_laws.specs.Output.{Output}

-- ---- one input more

among_next : (xs : List Output) (i m k : ℕ) (out : Output) → slice_get xs i ≡ Some out
    → driven_among (suc m) (drop i xs) k ≡ number_if out.op k (number_in out.value) (driven_among m (drop (suc i) xs) k)
unfolding driven_among
among_next [] i m k out at = absurd cc
among_next (x ∷ xs) zero m k out at = ap (λ (o : Output). number_if o.op k (number_in o.value) (driven_among m xs k)) (same_Some x out at)
among_next (x ∷ xs) (suc i) m k out at = among_next xs i m k out at

-- the input of an index comes first, and then those behind it
pub among_at : (xs : List Output) (i n k : ℕ) (out : Output) → i < n → slice_get xs i ≡ Some out
    → driven_among (n - i) (drop i xs) k ≡ number_if out.op k (number_in out.value) (driven_among (n - (i + 1)) (drop (i + 1) xs) k)
among_at xs i n k out l at =
    let next : n - i ≡ suc (n - (i + 1)) = omega arith in
    let after : suc i ≡ i + 1 = omega arith in
    ap (λ m. driven_among m (drop i xs) k) next ∙ among_next xs i (n - (i + 1)) k out at
    ∙ ap (λ j. number_if out.op k (number_in out.value) (driven_among (n - (i + 1)) (drop j xs) k)) after

-- behind the last input there is none
pub among_past : (xs : List Output) (i m k : ℕ) → slice_get xs i ≡ None → driven_among m (drop i xs) k ≡ None
unfolding driven_among
among_past xs zero zero k at = refl
among_past [] zero (suc m) k at = refl
among_past (x ∷ xs) zero (suc m) k at = absurd cc
among_past [] (suc i) zero k at = refl
among_past [] (suc i) (suc m) k at = refl
among_past (x ∷ xs) (suc i) m k at = among_past xs i m k at

pub among_none : (xs : List Output) (i n k : ℕ) → n ≤ i → driven_among (n - i) xs k ≡ None
unfolding driven_among
among_none xs i n k l =
    let none_left : n - i ≡ 0 = omega arith in
    ap (λ m. driven_among m xs k) none_left

-- ---- how many drivers stand first

more_drivers : (xs : List Output) (i m : ℕ) → option_map_or (λ out. is_driver out.op) (slice_get xs i) false ≡ true
    → driver_count (suc m) (drop i xs) ≡ suc (driver_count m (drop (suc i) xs))
unfolding driver_count
more_drivers [] i m is = absurd (false≢true is)
more_drivers (x ∷ xs) zero m is = ap (λ b. cond b (suc (driver_count m xs)) 0) is
more_drivers (x ∷ xs) (suc i) m is = more_drivers xs i m is

-- a driver more
pub count_at : (xs : List Output) (i n : ℕ) → i < n → option_map_or (λ out. is_driver out.op) (slice_get xs i) false ≡ true
    → i + driver_count (n - i) (drop i xs) ≡ (i + 1) + driver_count (n - (i + 1)) (drop (i + 1) xs)
count_at xs i n l is =
    let next : n - i ≡ suc (n - (i + 1)) = omega arith in
    let after : suc i ≡ i + 1 = omega arith in
    let more : driver_count (n - i) (drop i xs) ≡ suc (driver_count (n - (i + 1)) (drop (i + 1) xs)) =
    ap (λ m. driver_count m (drop i xs)) next ∙ more_drivers xs i (n - (i + 1)) is
    ∙ ap (λ j. suc (driver_count (n - (i + 1)) (drop j xs))) after in
    omega arith

-- no driver ends them
pub count_none : (xs : List Output) (i m : ℕ) → option_map_or (λ out. is_driver out.op) (slice_get xs i) false ≡ false → driver_count m (drop i xs) ≡ 0
unfolding driver_count
count_none xs zero zero is = refl
count_none [] zero (suc m) is = refl
count_none (x ∷ xs) zero (suc m) is = ap (λ b. cond b (suc (driver_count m xs)) 0) is
count_none [] (suc i) zero is = refl
count_none [] (suc i) (suc m) is = refl
count_none (x ∷ xs) (suc i) m is = count_none xs i m is

pub count_end : (xs : List Output) (i n : ℕ) → n ≤ i → driver_count (n - i) xs ≡ 0
unfolding driver_count
count_end xs i n l =
    let none_left : n - i ≡ 0 = omega arith in
    ap (λ m. driver_count m xs) none_left

pub count_so_many : (xs : List Output) (from most : ℕ) → driver_count ((from + most) - from) xs ≡ driver_count most xs
count_so_many xs from most =
    let many : (from + most) - from ≡ most = omega arith in
    ap (λ m. driver_count m xs) many

-- so many inputs from an index on
pub among_so_many : (xs : List Output) (from most k : ℕ) → driven_among ((from + most) - from) xs k ≡ driven_among most xs k
among_so_many xs from most k =
    let many : (from + most) - from ≡ most = omega arith in
    ap (λ m. driven_among m xs k) many

-- ---- the operation of an input

-- the number of a driver whose channel has the place
pub number_here : (op : OpId) (id : AnimId) (path : Path) (k : ℕ) (number : ℤ) (later : Option ℤ) → op ≡ Driver id path → path_place path ≡ k
    → number_if op k number later ≡ Some number
number_here op id path k number later is same =
    ap (λ o. number_if o k number later) is ∙ ap (λ b. cond b (Some number) later) (eq-eqb (path_place path) k same)

-- that of another driver is passed
pub number_later : (op : OpId) (id : AnimId) (path : Path) (k : ℕ) (number : ℤ) (later : Option ℤ) → op ≡ Driver id path → path_place path ≢ k
    → number_if op k number later ≡ later
number_later op id path k number later is differ =
    ap (λ o. number_if o k number later) is ∙ ap (λ b. cond b (Some number) later) (ne_eqb (path_place path) k differ)

-- at what is no driver they end
pub no_number : (op : OpId) (k : ℕ) (number : ℤ) (later : Option ℤ) → ((id : AnimId) (path : Path) → op ≢ Driver id path) → number_if op k number later ≡ None
no_number Time k number later h = refl
no_number (Animation id) k number later h = refl
no_number (Driver id path) k number later h = absurd (h id path refl)
no_number (Local o) k number later h = refl
no_number (World o) k number later h = refl
no_number (PoseInit o) k number later h = refl
no_number (Bone o b) k number later h = refl
no_number (PoseDone o) k number later h = refl
no_number (Layer p l) k number later h = refl
no_number (Geometry o) k number later h = refl
no_number (ModifierOp o i) k number later h = refl
no_number (GeometryDone o) k number later h = refl
