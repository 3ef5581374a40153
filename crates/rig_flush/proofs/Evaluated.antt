-- One output more that is kept, and all of them.
use Rattle.std.proofs.Common.{◌≡◌, ℕ, suc, ◌+◌, ◌<◌, ◌≤◌, Bool, true, false, List, [], ◌∷◌, ◌++◌, length, map, take, drop, get_or, Option, Some, refl, sym, ap, ◌∙◌, subst, arith}
use Rattle.std.specs.Prelude.{slice_get, option_map, nat_eq, ℤ}
use Rattle.std.proofs.Math.ListN.{set}
use Rattle.std.specs.List.{Contains, range_with_len}
use Rattle.std.proofs.lemmas.Bool.{eqb-true, eqb-false}
use Rattle.std.proofs.lemmas.List.{length-map, same_lists, take_more, take_all}
use Rattle.std.proofs.lemmas.List.Elements.{All-append, All-contains, All-weaker}
use Rattle.std.proofs.lemmas.List.FromFn.{length-range_with_len}
use Rattle.std.proofs.lemmas.List.Sorted.{Contains-permutation, length_permutation}
use Rattle.std.proofs.lemmas.Option.{slice_get-map, get_or_from_slice_get}
use Rattle.rig_io.specs.Faults.{raised}
use Rattle.rig_laws.specs.Output.{Output}
use Rattle.rig_laws.specs.Lists.{All-one, Contains-below}
use Rattle.rig_links.specs.Links.{Links}
use Rattle.rig_scene.specs.Found.{some_slice_get}
use Rattle.rig_scene.specs.Operations.{operations}
use Rattle.rig_scene.specs.Scene.{SceneRecord}
use Rattle.rig_scene.specs.declared.modifier.Mode.{Mode}
use Rattle.rig_scene.specs.declared.operation.OpId.{OpId}
use Rattle.rig_flush.specs.ByNumber.{AreKept, IsNext}
use Rattle.rig_flush.specs.Counted.{raised_by}
use Rattle.rig_flush.specs.Shown.{output_of}
use Rattle.rig_flush.specs.Tables.{AreTablesOf}
use Rattle.rig_flush.specs.Options.{replaced, not_replaced, at_index}

-- a count that rose once more
pub raised_once_more : (i start before after : ℕ) → before ≡ raised_by i start → after ≡ raised before → after ≡ raised_by (i + 1) start
raised_once_more i start before after so_far more = more ∙ ap raised so_far ∙ ap (λ n. raised_by n start) {x = suc i} {y = i + 1} (omega arith)

module _ (s : SceneRecord) (mode : Mode) (frame : ℤ) where
  abbrev IsAt : List (Option Output) → ℕ → Type 0
  IsAt kept n = slice_get kept n ≡ Some (option_map (output_of s mode frame) (slice_get (operations s) n))

  module _ (kept : List (Option Output)) (n : ℕ) (out : Output) (is : option_map (output_of s mode frame) (slice_get (operations s) n) ≡ Some out) (within : n < length kept) where
    here : IsAt (set kept n (Some out)) n
    here = replaced kept n (Some out) within ∙ ap Some (sym is)

    still_there : (m : ℕ) → IsAt kept m → IsAt (set kept n (Some out)) m
    still_there m at = by (nat_eq m n) refl
      where
        by : (b : Bool) → nat_eq m n ≡ b → IsAt (set kept n (Some out)) m
        by true e = subst (IsAt (set kept n (Some out))) (sym (eqb-true m n e)) here
        by false e = not_replaced kept n m (Some out) _ (eqb-false m n e) at

    pub one_more_kept : (items : List ℕ) (i : ℕ) → i < length items → get_or items i 0 ≡ n → AreKept s mode frame kept (take i items) → AreKept s mode frame (set kept n (Some out)) (take (i + 1) items)
    one_more_kept items i l at so_far =
        subst (AreKept s mode frame (set kept n (Some out))) (sym (take_more items i 0 l ∙ ap (λ m. take i items ++ m ∷ []) at))
        (All-append (IsAt (set kept n (Some out))) (take i items) (n ∷ []) (All-weaker (IsAt kept) (IsAt (set kept n (Some out))) still_there (take i items) so_far)
        (All-one (IsAt (set kept n (Some out))) n here))

  module _ (ops : List OpId) (links : Links) (tables : AreTablesOf s ops links) (items : List ℕ) (in_order : items ≡ links.order) where
    -- there are as many numbers as operations
    pub all_counted : (i : ℕ) → i ≤ length items → length items ≤ i → i ≡ length (operations s)
    all_counted i l m =
        let long = length_permutation (range_with_len 0 (length ops)) links.order tables.fit.order.same_nodes in
        omega (arith, long, length-range_with_len 0 (length ops), ap length tables.same, ap length in_order)

    -- the number of an index is next
    pub is_next : (kept : List (Option Output)) (i : ℕ) → i < length items → length kept ≡ length (operations s) → AreKept s mode frame kept (take i items)
        → IsNext s mode frame links.order kept (get_or items i 0)
    is_next kept i l one_each so_far =
        record { before = take i items; after = drop (i + 1) items; order_is = sym in_order ∙ at_index items i 0 l; one_each = one_each; are_kept = so_far }

    -- all are kept in the end
    pub all_kept : (kept : List (Option Output)) (i : ℕ) → length items ≤ i → length kept ≡ length (operations s) → AreKept s mode frame kept (take i items)
        → kept ≡ map (λ op. Some (output_of s mode frame op)) (operations s)
    all_kept kept i l one_each so_far =
        same_lists kept (map (λ op. Some (output_of s mode frame op)) (operations s)) (one_each ∙ sym (length-map (operations s) (λ op. Some (output_of s mode frame op)))) at
      where
        each : AreKept s mode frame kept links.order
        each = subst (AreKept s mode frame kept) (take_all i items l ∙ in_order) so_far

        at : (k : ℕ) (d : Option Output) → k < length kept → get_or kept k d ≡ get_or (map (λ op. Some (output_of s mode frame op)) (operations s)) k d
        at k d l =
            let found = some_slice_get (operations s) k (omega (arith, one_each)) in
            let listed : Contains links.order k =
            Contains-permutation (range_with_len 0 (length ops)) links.order k tables.fit.order.same_nodes (Contains-below (length ops) k (omega (arith, one_each, ap length tables.same))) in
            get_or_from_slice_get kept k (Some (output_of s mode frame found.0)) d (All-contains (IsAt kept) links.order k each listed ∙ ap (λ o. Some (option_map (output_of s mode frame) o)) found.1)
            ∙ sym (get_or_from_slice_get (map (λ op. Some (output_of s mode frame op)) (operations s)) k (Some (output_of s mode frame found.0)) d
            (slice_get-map (λ op. Some (output_of s mode frame op)) (operations s) k ∙ ap (option_map (λ op. Some (output_of s mode frame op))) found.1))
