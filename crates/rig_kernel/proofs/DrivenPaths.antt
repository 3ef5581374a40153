-- The driven ones of some paths among the inputs, found by their places.
use Rattle.std.proofs.Common.{◌≡◌, ℕ, zero, suc, ◌+◌, ◌≤◌, Bool, true, false, cond, not, List, [], ◌∷◌, ◌++◌, length, map, Option, Some, None, ℤ, refl, sym, ap, ◌∙◌, arith, nat_lt}
use Rattle.std.specs.Prelude.{◌==◌, ⊤, All, option_map, position}
use Rattle.std.specs.List.{position_or_len}
use Rattle.std.proofs.lemmas.Bool.{lt-ltb, ltb-true, le-ltb, ltb-false}
use Rattle.std.proofs.lemmas.List.Elements.{All-head, All-tail}
use Rattle.rig_scene.specs.declared.id.AnimId.{AnimId}
use Rattle.rig_scene.specs.declared.operation.OpId.{OpId}
use Rattle.rig_scene.specs.declared.operation.OpId.TheVariants.{Driver}
use Rattle.rig_scene.specs.declared.path.Path.{Path}
use Rattle.rig_scene.specs.Value.{number_in}
use Rattle.rig_kernel.specs.Driven.{driven_among, number_if, path_place, is_driver, driver_count}
use Rattle.rig_laws.specs.Output.{Output, number_at}

-- ---- positions

position_step : (n len : ℕ) → cond (nat_lt (1 + n) (suc len)) (Some (1 + n)) None ≡ option_map suc (cond (nat_lt n len) (Some n) None)
position_step n len = by (nat_lt n len) refl
  where
    by : (b : Bool) → nat_lt n len ≡ b → cond (nat_lt (1 + n) (suc len)) (Some (1 + n)) None ≡ option_map suc (cond b (Some n) None)
    by true e =
        ap (λ b. cond b (Some (1 + n)) None) (lt-ltb (1 + n) (suc len) (omega (arith, ltb-true n len e)))
        ∙ ap Some {x = 1 + n} {y = suc n} (omega arith)
    by false e = ap (λ b. cond b (Some (1 + n)) None) (le-ltb (1 + n) (suc len) (omega (arith, ltb-false n len e)))

-- where the first element passes, or else one of the others
pub position_next : {A : Type 0} (p : A → Bool) (x : A) (xs : List A) → position p (x ∷ xs) ≡ cond (p x) (Some 0) (option_map suc (position p xs))
position_next p x xs = by (p x)
  where
    by : (b : Bool) → cond (nat_lt (cond (not b) (1 + position_or_len p xs) 0) (suc (length xs))) (Some (cond (not b) (1 + position_or_len p xs) 0)) None
        ≡ cond b (Some 0) (option_map suc (position p xs))
    by true = ap (λ b. cond b (Some 0) None) (lt-ltb 0 (suc (length xs)) (omega arith))
    by false = position_step (position_or_len p xs) (length xs)

-- ---- inputs

-- whether the operations begin with no driver
abbrev pub BeginsWithout : List OpId → Type 0
BeginsWithout [] = ⊤
BeginsWithout (op ∷ ops) = (is_driver op ≡ false) × ((k : ℕ) (number : ℤ) (later : Option ℤ) → number_if op k number later ≡ None)

abbrev ops_of : List Output → List OpId
ops_of outs = map (λ o. o.op) outs

shifted : (o : Output) (os : List Output) (at : Option ℕ) → option_map (number_at os) at ≡ option_map (number_at (o ∷ os)) (option_map suc at)
shifted o os None = refl
shifted o os (Some k) = refl

module _ (id : AnimId) (rest : List OpId) (none : BeginsWithout rest) where
  -- at what is behind the drivers there is no number
  none_behind : (outs : List Output) (most k : ℕ) → ops_of outs ≡ rest → driven_among most outs k ≡ None
  unfolding driven_among
  none_behind outs zero k is = refl
  none_behind [] (suc most) k is = refl
  none_behind (o ∷ os) (suc most) k is = by rest none is
    where
      by : (ops : List OpId) → BeginsWithout ops → o.op ∷ ops_of os ≡ ops → number_if o.op k (number_in o.value) (driven_among most os k) ≡ None
      by [] h e = absurd cc
      by (op ∷ ops) h e =
          let same : o.op ≡ op = cc in
          ap (λ op. number_if op k (number_in o.value) (driven_among most os k)) same ∙ h.1 k (number_in o.value) (driven_among most os k)

  -- the number of a path is that of its place, where a test of paths tells as much
  pub driven_is : (same : Path → Bool) (k : ℕ) (ps : List Path) (outs : List Output) (most : ℕ) → length ps ≤ most → All (λ p. same p ≡ (path_place p == k)) ps
      → ops_of outs ≡ map (Driver id) ps ++ rest → driven_among most outs k ≡ option_map (number_at outs) (position same ps)
  unfolding driven_among
  driven_is same k [] outs most few agree is = none_behind outs most k is
  driven_is same k (p ∷ ps) [] most few agree is = absurd cc
  driven_is same k (p ∷ ps) (o ∷ os) zero few agree is = absurd (omega arith)
  driven_is same k (p ∷ ps) (o ∷ os) (suc most) few agree is =
      let op : o.op ≡ Driver id p = cc in
      let ops : ops_of os ≡ map (Driver id) ps ++ rest = cc in
      let later : driven_among most os k ≡ option_map (number_at os) (position same ps) =
      driven_is same k ps os most (omega arith) (All-tail (λ p. same p ≡ (path_place p == k)) p ps agree) ops in
      ap (λ op. number_if op k (number_in o.value) (driven_among most os k)) op
      ∙ ap (λ b. cond b (Some (number_in o.value)) (driven_among most os k)) (sym (All-head (λ p. same p ≡ (path_place p == k)) p ps agree))
      ∙ by (same p) later
      ∙ ap (option_map (number_at (o ∷ os))) (sym (position_next same p ps))
    where
      by : (b : Bool) → driven_among most os k ≡ option_map (number_at os) (position same ps)
          → cond b (Some (number_in o.value)) (driven_among most os k) ≡ option_map (number_at (o ∷ os)) (cond b (Some 0) (option_map suc (position same ps)))
      by true later = refl
      by false later = later ∙ shifted o os (position same ps)

  -- as many drivers stand first as there are driven paths
  pub count_is : (ps : List Path) (outs : List Output) (most : ℕ) → length ps ≤ most → ops_of outs ≡ map (Driver id) ps ++ rest → driver_count most outs ≡ length ps
  unfolding driver_count
  count_is [] outs zero few is = refl
  count_is [] [] (suc most) few is = refl
  count_is [] (o ∷ os) (suc most) few is = by rest none is
    where
      by : (ops : List OpId) → BeginsWithout ops → o.op ∷ ops_of os ≡ ops → cond (is_driver o.op) (suc (driver_count most os)) 0 ≡ 0
      by [] h e = absurd cc
      by (op ∷ ops) h e =
          let same : o.op ≡ op = cc in
          ap (λ op. cond (is_driver op) (suc (driver_count most os)) 0) same ∙ ap (λ b. cond b (suc (driver_count most os)) 0) h.0
  count_is (p ∷ ps) [] most few is = absurd cc
  count_is (p ∷ ps) (o ∷ os) zero few is = absurd (omega arith)
  count_is (p ∷ ps) (o ∷ os) (suc most) few is =
      let op : o.op ≡ Driver id p = cc in
      let ops : ops_of os ≡ map (Driver id) ps ++ rest = cc in
      ap (λ op. cond (is_driver op) (suc (driver_count most os)) 0) op ∙ ap suc (count_is ps os most (omega arith) ops)
