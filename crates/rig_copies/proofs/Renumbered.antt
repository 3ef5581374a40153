-- What is kept after the keys were moved to the numbers of a new table.
use Rattle.std.specs.Prelude.{option_and_then, slice_get, is_some, IfNone, Contains}
use Rattle.std.specs.List.{position}
use Rattle.std.proofs.Common.{◌≡◌, ◌⊎◌, inl, inr, ℕ, zero, suc, ◌<◌, List, [], ◌∷◌, length, map, get_or, Option, Some, None, false, refl, sym, ap, ◌∙◌, subst, arith}
use Rattle.std.proofs.lemmas.Bool.{cases_order}
use Rattle.std.proofs.lemmas.Option.{slice_get_within, get_or_from_slice_get}
use Rattle.slab.proofs.SlabLemmas.{Contains-cons}
use Rattle.slab.specs.Slab.{Slab, get}
use Rattle.rig_laws.specs.Output.{Output}
use Rattle.rig_links.specs.Numbers.{same_operation}
use Rattle.rig_scene.specs.declared.operation.OpId.{OpId}
use Rattle.rig_scene.specs.Pairs.{NoneTwice}
use Rattle.rig_copies.specs.Copies.{kept_at, kept_for, renumbered}
use Rattle.rig_copies.specs.Keys.{kept_under, key_for, NoKeyTwice, AreHeld}
use Rattle.rig_copies.specs.Numbers.{kept_for-number, op_at_number}
use Rattle.rig_copies.proofs.Kept.{kept_at-keys}

-- a number whose operation the new table hasn't is that of none of its operations
pub gone_at : (old new : List OpId) (n : ℕ) (found : OpId) → slice_get old n ≡ Some found → (number : Option ℕ) → IfNone number (Contains new found → ⊥) → is_some number ≡ false
    → (op : OpId) → Contains new op → position (same_operation op) old ≡ Some n → ⊥
gone_at old new n found at (Some number) absent none = absurd (cc)
gone_at old new n found at None absent none =
    λ op listed is. absent (subst (λ o. Contains new o) (same (sym (op_at_number old op n is) ∙ at)) listed)
  where
    same : {a b : OpId} → Some a ≡ Some b → a ≡ b
    same h = cc

module _ (old : List OpId) (keys : List (Option ℕ)) where
  -- what is kept of an operation is what is under its key
  pub kept_for-key : (outs : Slab Output) (op : OpId) → kept_for old (map (kept_under outs) keys) op ≡ kept_under outs (key_for old keys op)
  kept_for-key outs op = by (position (same_operation op) old)
    where
      by : (o : Option ℕ) → option_and_then (kept_at (map (kept_under outs) keys)) o ≡ kept_under outs (option_and_then (λ n. get_or keys n None) o)
      by None = refl
      by (Some n) = kept_at-keys outs keys n

  -- the number at which the key of an operation stood
  pub key_number : (op : OpId) (key : ℕ) → key_for old keys op ≡ Some key → (n : ℕ) × (position (same_operation op) old ≡ Some n) × (get_or keys n None ≡ Some key)
  key_number op key is = by (position (same_operation op) old) refl is
    where
      by : (o : Option ℕ) → position (same_operation op) old ≡ o → option_and_then (λ n. get_or keys n None) o ≡ Some key
          → (n : ℕ) × (position (same_operation op) old ≡ Some n) × (get_or keys n None ≡ Some key)
      by None at e = absurd (cc)
      by (Some n) at e = (n, at, e)

  module _ (before after : Slab Output) (new : List OpId) (kept : (op : OpId) → Contains new op → kept_under after (key_for old keys op) ≡ kept_under before (key_for old keys op)) where
    moved_keys : (ops : List OpId) → ((op : OpId) → Contains ops op → kept_under after (key_for old keys op) ≡ kept_under before (key_for old keys op))
        → map (kept_under after) (map (key_for old keys) ops) ≡ map (kept_for old (map (kept_under before) keys)) ops
    moved_keys [] same = refl
    moved_keys (op ∷ ops) same =
        ap (λ o. o ∷ map (kept_under after) (map (key_for old keys) ops)) (same op (0, omega arith, refl) ∙ sym (kept_for-key before op))
        ∙ ap (λ l. kept_for old (map (kept_under before) keys) op ∷ l) (moved_keys ops (λ other listed. same other (Contains-cons op other ops listed)))

    -- what is kept is numbered anew
    pub kept-moved : map (kept_under after) (map (key_for old keys) new) ≡ renumbered old new (map (kept_under before) keys)
    kept-moved = moved_keys new kept

    -- the operation at a number of the new table that has a key
    key_op : (n key : ℕ) → get_or (map (key_for old keys) new) n None ≡ Some key → (op : OpId) × (n < length new) × (slice_get new n ≡ Some op) × (key_for old keys op ≡ Some key)
    key_op n key at = by new n at
      where
        by : (ops : List OpId) (n : ℕ) → get_or (map (key_for old keys) ops) n None ≡ Some key → (op : OpId) × (n < length ops) × (slice_get ops n ≡ Some op) × (key_for old keys op ≡ Some key)
        by [] n e = absurd (cc)
        by (op ∷ ops) zero e = (op, omega arith, refl, e)
        by (op ∷ ops) (suc n) e = let rest = by ops n e in (rest.0, omega (arith, rest.1), rest.2, rest.3)

    pub held-moved : AreHeld before keys → NoneTwice new → AreHeld after (map (key_for old keys) new)
    held-moved held once = record {
      held = λ n key at.
          let found = key_op n key at in
          let stood = key_number found.0 key found.3 in
          let listed : Contains new found.0 = (n, found.1, get_or_from_slice_get new n found.0 found.0 found.2) in
          ap (λ k. is_some (kept_under after k)) (sym found.3) ∙ ap is_some (kept found.0 listed) ∙ ap (λ k. is_some (kept_under before k)) found.3 ∙ held.held stood.0 key stood.2;
      once = λ m n key here there.
          let first = key_op m key here in
          let second = key_op n key there in
          let one = key_number first.0 key first.3 in
          let two = key_number second.0 key second.3 in
          let number : one.0 ≡ two.0 = held.once one.0 two.0 key one.2 two.2 in
          let op : Some first.0 ≡ Some second.0 = sym (op_at_number old first.0 one.0 one.1) ∙ ap (slice_get old) number ∙ op_at_number old second.0 two.0 two.1 in
          same_number m n first.0 first.2 (second.2 ∙ sym op);
    }
      where
        same_number : (m n : ℕ) (op : OpId) → slice_get new m ≡ Some op → slice_get new n ≡ Some op → m ≡ n
        same_number m n op here there =
            elim (cases_order m n) [
              | inl equal ↦ equal
              | inr apart ↦ elim apart [
                | inl less ↦ absurd (once m n op less (slice_get_within new n op there) (get_or_from_slice_get new m op op here ∙ sym (get_or_from_slice_get new n op op there)))
                | inr more ↦ absurd (once n m op more (slice_get_within new m op here) (get_or_from_slice_get new n op op there ∙ sym (get_or_from_slice_get new m op op here)))
              ]
            ]

  -- where the operations of the new table aren't at a number, what was under its key is under none of theirs
  pub kept-without : NoKeyTwice keys → (before after : Slab Output) (n : ℕ) (op : OpId) → (position (same_operation op) old ≡ Some n → ⊥)
      → ((k : ℕ) → (get_or keys n None ≡ Some k → ⊥) → get after k ≡ get before k) → kept_under after (key_for old keys op) ≡ kept_under before (key_for old keys op)
  kept-without once before after n op elsewhere others = by (key_for old keys op) refl
    where
      by : (k : Option ℕ) → key_for old keys op ≡ k → kept_under after k ≡ kept_under before k
      by None is = refl
      by (Some key) is =
          let stood = key_number op key is in
          others key (λ at. elsewhere (stood.1 ∙ ap Some (once stood.0 n key stood.2 at)))
