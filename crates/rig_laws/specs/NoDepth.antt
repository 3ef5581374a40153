-- Why the number of quantities is depth enough: each quantity's value is that of its kind over the values of what it reads.
use Rattle.std.specs.Prelude.{◌≡◌, ℕ, zero, suc, ◌<◌, ◌≤◌, length, Bool, true, false, IsTrue, Option, Some, None, is_some, ℤ, Contains}
use Rattle.std.specs.Option.{option_map_or}
use Rattle.std.proofs.Common.{refl, sym, ap, ◌∙◌, arith, true≢false}
use Rattle.std.proofs.lemmas.List.Elements.{All-contains}
use Rattle.std.proofs.lemmas.Option.{same_Some}
use Rattle.rig_cycles.specs.Cut.{Arrow}
use Rattle.rig_cycles.specs.Depth.{LooksAtSources}
use Rattle.rig_cycles.specs.DepthIsEnough.{one_value, value_by_step}
use Rattle.rig_cycles.specs.RankOrder.{rank_exists}
use Rattle.rig_cycles.specs.Walk.{IsRank}
use Rattle.rig_scene.specs.declared.modifier.Mode.{Mode}
use Rattle.rig_scene.specs.declared.quantity.Quantity.{Quantity}
use Rattle.rig_scene.specs.declared.quantity.Read.{Read}
use Rattle.rig_scene.specs.Scene.{SceneRecord}
use Rattle.rig_scene.specs.WellFormed.{is_scene}
use Rattle.rig_scene.specs.Quantities.{same_quantity, quantities, reads}
use Rattle.rig_scene.specs.Cut.{cuts, is_among, is_cut}
use Rattle.rig_scene.specs.Value.{Value, rest_of, read_value, inputs_at, value_at, val}
use Rattle.rig_laws.specs.Lists.{All-elements}
use Rattle.rig_scene.specs.Same.{same_quantity-Decides}
use Rattle.rig_laws.specs.SameValue.{value_same}
use Rattle.rig_laws.specs.ValueOver.{value_over}
use Rattle.rig_laws.specs.Members.{has_quantity}
use Rattle.rig_laws.specs.HasQuantity.{quantities_are_there}
use Rattle.rig_laws.specs.Kept.{arrow_of, kept_arrows}
use Rattle.rig_laws.specs.KeptReads.{kept_acyclic, kept_closed, uncut_kept}
use Rattle.rig_laws.specs.HasValue.{value_is_some}

some_or : (o : Option Value) (rest : Value) → is_some o ≡ true → o ≡ Some (option_map_or (λ v. v) o rest)
some_or None rest h = absurd (true≢false (sym h))
some_or (Some v) rest h = refl

module _ (s : SceneRecord) (met : IsTrue (is_scene s)) (mode : Mode) (frame : ℤ) where
  -- values that agree at the kept sources of a quantity give it one value
  pub over_same : (f g : Quantity → Value) (q : Quantity) → Contains (quantities s) q → ((a : Arrow Quantity) → Contains (kept_arrows s) a → a.reader ≡ q → f a.source ≡ g a.source) → value_over s mode frame f q ≡ value_over s mode frame g q
  over_same f g q within agree =
      value_same s mode (inputs_at s frame) (λ source. is_cut s source q) (λ source. read_value (is_cut s source q) f source) (λ source. read_value (is_cut s source q) g source) q
      (All-elements (λ r. read_value (is_cut s r.source q) f r.source ≡ read_value (is_cut s r.source q) g r.source) (reads s q)
      (λ r read. by r read (is_cut s r.source q) refl))
    where
      by : (r : Read) → Contains (reads s q) r → (b : Bool) → is_cut s r.source q ≡ b → read_value b f r.source ≡ read_value b g r.source
      by r read true e = refl
      by r read false e = agree (arrow_of q r) (uncut_kept s met q within r read e) refl

  looks : LooksAtSources (quantities s) (kept_arrows s) (λ q values. option_map_or (λ v. v) (value_over s mode frame values q) (rest_of q))
  looks q f g within agree = ap (λ o. option_map_or (λ v. v) o (rest_of q)) (over_same f g q within agree)

  pub val_over : (q : Quantity) → Contains (quantities s) q → value_over s mode frame (val s mode frame) q ≡ Some (val s mode frame q)
  unfolding val
  val_over q within =
      let there = All-contains (λ q. IsTrue (has_quantity s q)) (quantities s) q (quantities_are_there s met) within in
      let step = value_by_step same_quantity same_quantity-Decides (quantities s) (kept_arrows s) (kept_acyclic s met) (λ a kept reader. kept_closed s met a kept)
      (λ q values. option_map_or (λ v. v) (value_over s mode frame values q) (rest_of q))
      (value_at (is_among (cuts s)) s mode frame) (λ depth node. refl) looks (length (quantities s)) q within (omega arith) in
      some_or (value_over s mode frame (val s mode frame) q) (rest_of q)
      (value_is_some s met mode (inputs_at s frame) (λ source. is_cut s source q) (λ source. read_value (is_cut s source q) (val s mode frame) source) q there)
      ∙ ap Some (sym step)

  pub enough_depth : (depth : ℕ) → length (quantities s) ≤ depth → (q : Quantity) → Contains (quantities s) q → value_at (is_among (cuts s)) s mode frame depth q ≡ val s mode frame q
  unfolding val
  enough_depth depth l q within =
      one_value same_quantity same_quantity-Decides (quantities s) (kept_arrows s) (kept_acyclic s met) (λ a kept reader. kept_closed s met a kept)
      (λ q values. option_map_or (λ v. v) (value_over s mode frame values q) (rest_of q))
      (value_at (is_among (cuts s)) s mode frame) (λ depth node. refl) looks depth (length (quantities s)) q within l (omega arith)

  module _ (values : Quantity → Value) (follow : (q : Quantity) → Contains (quantities s) q → value_over s mode frame values q ≡ Some (values q)) where
    below : (rank : Quantity → ℕ) → IsRank rank (kept_arrows s) → (n : ℕ) (q : Quantity) → Contains (quantities s) q → rank q < n → values q ≡ val s mode frame q
    below rank falls zero q within l = absurd (omega arith)
    below rank falls (suc n) q within l =
        let agree : (a : Arrow Quantity) → Contains (kept_arrows s) a → a.reader ≡ q → values a.source ≡ val s mode frame a.source =
        λ a kept e. below rank falls n a.source (kept_closed s met a kept) (let f = falls a kept in let r = ap rank e in omega arith) in
        same_Some (values q) (val s mode frame q) (sym (follow q within) ∙ over_same values (val s mode frame) q within agree ∙ val_over q within)

    -- no other values follow from their sources
    pub only_values : (q : Quantity) → Contains (quantities s) q → values q ≡ val s mode frame q
    only_values q within =
        let ranked = rank_exists same_quantity same_quantity-Decides (kept_arrows s) (kept_acyclic s met) in
        below ranked.0 ranked.1 (suc (ranked.0 q)) q within (omega arith)
