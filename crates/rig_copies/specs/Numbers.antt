-- The number of an operation in a list of operations, and what is kept at it.
use Rattle.std.specs.Prelude.{slice_get, Contains, option_and_then}
use Rattle.std.specs.List.{position}
use Rattle.std.proofs.Common.{◌≡◌, ℕ, ◌-◌, ◌<◌, List, length, get_or, replicate, Option, Some, None, unwrap_or, refl, sym, ap, ◌∙◌, arith}
use Rattle.std.proofs.lemmas.Bool.{false_from_ne_true}
use Rattle.std.proofs.lemmas.List.{length-append, length-replicate}
use Rattle.std.proofs.lemmas.List.Quantifiers.{position-Some}
use Rattle.std.proofs.lemmas.Option.{slice_get-get_or, slice_get_within, get_or_from_slice_get, unwrap_or-slice_get}
use Rattle.rig_cut.specs.Positions.{position_at}
use Rattle.rig_laws.specs.Output.{Output}
use Rattle.rig_links.specs.Numbers.{same_operation}
use Rattle.rig_links.specs.SameOperation.{same_operation-Decides}
use Rattle.rig_scene.specs.declared.operation.OpId.{OpId}
use Rattle.rig_scene.specs.Pairs.{NoneTwice}
use Rattle.rig_copies.specs.Copies.{kept_at, kept_for, extended}

-- what is kept at a number is what the list has there, and nothing beyond its end
pub kept_at-get_or : (kept : List (Option Output)) (n : ℕ) → kept_at kept n ≡ get_or kept n None
kept_at-get_or kept n = by (slice_get kept n) ∙ unwrap_or-slice_get kept n None
  where
    by : (o : Option (Option Output)) → option_and_then (λ out. out) o ≡ unwrap_or o None
    by None = refl
    by (Some out) = refl

module _ (ops : List OpId) where
  -- the operation of a number that was found
  pub op_at_number : (op : OpId) (n : ℕ) → position (same_operation op) ops ≡ Some n → slice_get ops n ≡ Some op
  op_at_number op n is =
      let found = position-Some (same_operation op) ops n op is in
      slice_get-get_or ops n op found.0 ∙ ap Some (sym ((same_operation-Decides op (get_or ops n op)).0 found.1))

  -- the first number at which an operation stands
  pub number_first : (op : OpId) (n : ℕ) → slice_get ops n ≡ Some op → ((k : ℕ) → k < n → slice_get ops k ≡ Some op → ⊥) → position (same_operation op) ops ≡ Some n
  number_first op n at before =
      let within = slice_get_within ops n op at in
      position_at (same_operation op) ops n op within ((same_operation-Decides op (get_or ops n op)).1 (sym (get_or_from_slice_get ops n op op at)))
      (λ k h. false_from_ne_true (same_operation op (get_or ops k op)) (λ t.
      before k h (slice_get-get_or ops k op (omega arith) ∙ ap Some (sym ((same_operation-Decides op (get_or ops k op)).0 t)))))

  -- the number at which it stands, where no operation stands twice
  pub number_once : NoneTwice ops → (op : OpId) (n : ℕ) → slice_get ops n ≡ Some op → position (same_operation op) ops ≡ Some n
  number_once once op n at =
      number_first op n at (λ k h e.
      once k n op h (slice_get_within ops n op at) (get_or_from_slice_get ops k op op e ∙ sym (get_or_from_slice_get ops n op op at)))

  -- an operation that isn't listed has none
  pub number_none : (op : OpId) → (Contains ops op → ⊥) → position (same_operation op) ops ≡ None
  number_none op absent = by (position (same_operation op) ops) refl
    where
      by : (o : Option ℕ) → position (same_operation op) ops ≡ o → o ≡ None
      by None is = refl
      by (Some n) is =
          let found = position-Some (same_operation op) ops n op is in
          absurd (absent (n, found.0, sym ((same_operation-Decides op (get_or ops n op)).0 found.1)))

  -- what is kept of an operation is what is kept at its number
  pub kept_for-number : (kept : List (Option Output)) (op : OpId) (n : ℕ) → position (same_operation op) ops ≡ Some n → kept_for ops kept op ≡ get_or kept n None
  kept_for-number kept op n is = ap (λ o. option_and_then (kept_at kept) o) is ∙ kept_at-get_or kept n

-- a number below a count has a place in what is extended to it
pub within_extended : (kept : List (Option Output)) (count n : ℕ) → n < count → n < length (extended kept count)
within_extended kept count n below =
    omega (arith, length-append kept (replicate (count - length kept) None), length-replicate {A = Option Output} (count - length kept) None)
