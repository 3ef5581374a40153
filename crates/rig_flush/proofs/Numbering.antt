-- The numbers of tags.
use Rattle.std.specs.Prelude.{slice_get, Contains}
use Rattle.std.specs.Option.{option_map_or}
use Rattle.std.specs.List.{list_any, position, flat_map}
use Rattle.std.proofs.Common.{◌≡◌, ℕ, ◌+◌, ◌<◌, List, [], ◌∷◌, ◌++◌, take, get_or, Some, None, sym, ap, ◌∙◌, subst, arith}
use Rattle.std.proofs.lemmas.Bool.{false_from_ne_true}
use Rattle.std.proofs.lemmas.List.{take_more, append-nil}
use Rattle.std.proofs.lemmas.List.Concat.{flat_map-append}
use Rattle.std.proofs.lemmas.List.Sums.{fold-append}
use Rattle.std.proofs.lemmas.Option.{slice_get-get_or, slice_get_within, get_or_from_slice_get}
use Rattle.rig_cycles.specs.Elements.{element_from_any}
use Rattle.rig_cut.specs.NodeSets.{with_node}
use Rattle.rig_cut.specs.Positions.{position_at, position_none}
use Rattle.rig_links.specs.Numbers.{same_operation}
use Rattle.rig_links.specs.SameOperation.{same_operation-Decides}
use Rattle.rig_scene.specs.declared.operation.OpId.{OpId}
use Rattle.rig_flush.specs.Search.{with_nodes}
use Rattle.rig_flush.specs.Tables.{numbers_of}

module _ (ops : List OpId) where
  pub number_found : (op : OpId) (n : ℕ) → slice_get ops n ≡ Some op → ((k : ℕ) → k < n → slice_get ops k ≡ Some op → ⊥) → position (same_operation op) ops ≡ Some n
  number_found op n at before =
      let within = slice_get_within ops n op at in
      position_at (same_operation op) ops n op within ((same_operation-Decides op (get_or ops n op)).1 (sym (get_or_from_slice_get ops n op op at)))
      (λ k h. false_from_ne_true (same_operation op (get_or ops k op)) (λ t.
      before k h (slice_get-get_or ops k op (omega arith) ∙ ap Some (sym ((same_operation-Decides op (get_or ops k op)).0 t)))))

  pub number_none : (op : OpId) → (Contains ops op → ⊥) → position (same_operation op) ops ≡ None
  number_none op out = position_none (same_operation op) ops op (false_from_ne_true (list_any (same_operation op) ops) (λ t.
      let found = element_from_any (same_operation op) ops t in
      out (subst (λ o. Contains ops o) (sym ((same_operation-Decides op found.0).0 found.2)) found.1)))

  -- the number of one operation, where it is listed
  abbrev number_of : OpId → List ℕ
  number_of tag = option_map_or (λ n. n ∷ []) (position (same_operation tag) ops) []

  pub numbers_more : (tags : List OpId) (i : ℕ) (op : OpId) → slice_get tags i ≡ Some op → with_nodes (with_nodes [] (numbers_of ops (take i tags))) (number_of op) ≡ with_nodes [] (numbers_of ops (take (i + 1) tags))
  numbers_more tags i op at =
      sym (ap (λ l. with_nodes [] (flat_map number_of l)) (take_more tags i op (slice_get_within tags i op at) ∙ ap (λ o. take i tags ++ o ∷ []) (get_or_from_slice_get tags i op op at))
      ∙ ap (with_nodes []) (flat_map-append number_of (take i tags) (op ∷ []) ∙ ap (λ l. numbers_of ops (take i tags) ++ l) (append-nil (number_of op)))
      ∙ fold-append with_node [] (numbers_of ops (take i tags)) (number_of op))
