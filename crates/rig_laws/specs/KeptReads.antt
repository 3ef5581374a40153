-- Why inner reads and kept reads make no cycle, and which of a quantity's reads are kept.
use Rattle.std.specs.Prelude.{◌≡◌, ◌↔◌, ◌<◌, ◌&&◌, ◌||◌, List, [], ◌∷◌, ◌++◌, map, Bool, true, false, not, IsTrue, IsFalse, Contains, All}
use Rattle.std.specs.List.{list_any}
use Rattle.std.proofs.Common.{⊎_elim, inr, refl, sym, ap, ◌∙◌}
use Rattle.std.proofs.lemmas.Bool.{not-true}
use Rattle.std.proofs.lemmas.List.Elements.{All-map, All-contains}
use Rattle.rig_cycles.specs.Cut.{Arrow, cuts_from}
use Rattle.rig_cycles.specs.Pair.{is_cut_at, is_pair_cut}
use Rattle.rig_cycles.specs.Walk.{IsAcyclic, IsRank}
use Rattle.rig_cycles.specs.Elements.{element_kept, element_of_kept, kept_passes, element_map}
use Rattle.rig_cycles.specs.Acyclic.{acyclic_from_rank, acyclic_kept_after}
use Rattle.rig_cycles.specs.CutAlike.{kept_no_pair, kept_where_no_pair, cut_by_pair}
use Rattle.rig_cycles.specs.CutSteps.{kept_stays, kept_is_tested}
use Rattle.rig_scene.specs.Pairs.{All-flat_map}
use Rattle.rig_scene.specs.declared.quantity.Quantity.{Quantity}
use Rattle.rig_scene.specs.declared.quantity.Read.{Read}
use Rattle.rig_scene.specs.Scene.{SceneRecord}
use Rattle.rig_scene.specs.WellFormed.{is_scene}
use Rattle.rig_scene.specs.Quantities.{same_quantity, quantities, reads}
use Rattle.rig_scene.specs.Cut.{arrows, inner_arrows, reference_arrows, cuts, is_cut}
use Rattle.rig_laws.specs.Members.{IsReadOf}
use Rattle.rig_laws.specs.Lists.{All-of_any, All-elements, Contains-flat_map}
use Rattle.rig_scene.specs.Same.{same_quantity-Decides}
use Rattle.rig_laws.specs.Rank.{rank}
use Rattle.rig_laws.specs.RankFalls.{inner_below}
use Rattle.rig_laws.specs.ReadsClosed.{reads_closed}
use Rattle.rig_laws.specs.Kept.{arrow_of, kept_arrows}

list_any-map : {X Y : Type 0} (p : Y → Bool) (f : X → Y) (xs : List X) → list_any p (map f xs) ≡ list_any (λ x. p (f x)) xs
list_any-map p f [] = refl
list_any-map p f (x ∷ xs) = ap (λ b. p (f x) || b) (list_any-map p f xs)

module _ (s : SceneRecord) where
  -- each read of a quantity of the scene is one of the scene's
  pub arrow_is_there : (q : Quantity) → Contains (quantities s) q → (r : Read) → Contains (reads s q) r → Contains (arrows s) (arrow_of q r)
  arrow_is_there q within r read =
      Contains-flat_map (λ q. map (arrow_of q) (reads s q)) (quantities s) q (arrow_of q r) within (element_map (arrow_of q) (reads s q) r read)

  -- whether a read is cut is told by its pair
  pub is_cut-pair : (a : Arrow Quantity) → is_cut s a.source a.reader ≡ is_pair_cut same_quantity (inner_arrows s) (reference_arrows s) a
  unfolding cuts
  is_cut-pair a =
      list_any-map (λ c. same_quantity c.source a.source && same_quantity c.reader a.reader) (λ a. record { source = a.source; reader = a.reader })
      (cuts_from same_quantity (inner_arrows s) (reference_arrows s))

  module _ (met : IsTrue (is_scene s)) where
    arrows_fall : All (λ a. a.is_reference ≡ false → rank a.source < rank a.reader) (arrows s)
    arrows_fall =
        All-flat_map (λ a. a.is_reference ≡ false → rank a.source < rank a.reader) (λ q. map (arrow_of q) (reads s q)) (quantities s)
        (All-of_any (λ q. All (λ a. a.is_reference ≡ false → rank a.source < rank a.reader) (map (arrow_of q) (reads s q))) (quantities s)
        (λ q. All-map (λ a. a.is_reference ≡ false → rank a.source < rank a.reader) (arrow_of q) (reads s q) (inner_below s met q)))

    pub inner_rank : IsRank rank (inner_arrows s)
    inner_rank a e =
        All-contains (λ a. a.is_reference ≡ false → rank a.source < rank a.reader) (arrows s) a arrows_fall
        (element_of_kept (λ a. not a.is_reference) (arrows s) a e) (not-true a.is_reference (kept_passes (λ a. not a.is_reference) (arrows s) a e))

    pub inner_acyclic : IsAcyclic (inner_arrows s)
    inner_acyclic = acyclic_from_rank rank (inner_arrows s) inner_rank

    pub kept_acyclic : IsAcyclic (kept_arrows s)
    kept_acyclic = acyclic_kept_after same_quantity same_quantity-Decides (inner_arrows s) (reference_arrows s) inner_acyclic

    arrows_closed : All (λ a. Contains (quantities s) a.source) (arrows s)
    arrows_closed =
        All-flat_map (λ a. Contains (quantities s) a.source) (λ q. map (arrow_of q) (reads s q)) (quantities s)
        (All-elements (λ q. All (λ a. Contains (quantities s) a.source) (map (arrow_of q) (reads s q))) (quantities s)
        (λ q within. All-map (λ a. Contains (quantities s) a.source) (arrow_of q) (reads s q)
        (All-elements (λ r. Contains (quantities s) r.source) (reads s q) (λ r read. reads_closed s met q r (within, read)))))

    -- each kept read is one of the scene's
    pub kept_arrow : (a : Arrow Quantity) → Contains (kept_arrows s) a → Contains (arrows s) a
    kept_arrow a e =
        ⊎_elim (element_of_kept (λ a. not a.is_reference) (arrows s) a) (element_of_kept (λ a. a.is_reference) (arrows s) a)
        (kept_is_tested same_quantity (inner_arrows s) (reference_arrows s) a e)

    pub kept_closed : (a : Arrow Quantity) → Contains (kept_arrows s) a → Contains (quantities s) a.source
    kept_closed a e = All-contains (λ a. Contains (quantities s) a.source) (arrows s) a arrows_closed (kept_arrow a e)

    -- an inner read of a quantity is kept, and no kept read is cut
    pub inner_kept : (q : Quantity) → Contains (quantities s) q → (r : Read) → Contains (reads s q) r → r.reference ≡ false → Contains (kept_arrows s) (arrow_of q r)
    inner_kept q within r read e =
        kept_stays same_quantity (inner_arrows s) (reference_arrows s) (arrow_of q r)
        (element_kept (λ a. not a.is_reference) (arrows s) (arrow_of q r) (arrow_is_there q within r read) (ap not e))

    pub kept_not_cut : (a : Arrow Quantity) → Contains (kept_arrows s) a → is_cut s a.source a.reader ≡ false
    kept_not_cut a e = is_cut-pair a ∙ kept_no_pair same_quantity same_quantity-Decides (inner_arrows s) (reference_arrows s) a inner_acyclic e

    -- a read of a quantity that isn't cut is kept
    pub uncut_kept : (q : Quantity) → Contains (quantities s) q → (r : Read) → Contains (reads s q) r → is_cut s r.source q ≡ false → Contains (kept_arrows s) (arrow_of q r)
    uncut_kept q within r read f = by r.reference refl
      where
        by : (b : Bool) → r.reference ≡ b → Contains (kept_arrows s) (arrow_of q r)
        by false e = inner_kept q within r read e
        by true e =
            (kept_where_no_pair same_quantity same_quantity-Decides (inner_arrows s) (reference_arrows s) (arrow_of q r) inner_acyclic
            (inr (element_kept (λ a. a.is_reference) (arrows s) (arrow_of q r) (arrow_is_there q within r read) e))).1
            (sym (is_cut-pair (arrow_of q r)) ∙ f)

    -- a read of a quantity is kept exactly where it isn't cut
    pub kept_exactly : (q : Quantity) (r : Read) → IsReadOf s q r → Contains (kept_arrows s) (arrow_of q r) ↔ IsFalse (is_cut s r.source q)
    kept_exactly q r is = (kept_not_cut (arrow_of q r), uncut_kept q is.0 r is.1)

    pub inner_not_cut : (q : Quantity) (r : Read) → IsReadOf s q r → r.reference ≡ false → IsFalse (is_cut s r.source q)
    inner_not_cut q r is e = kept_not_cut (arrow_of q r) (inner_kept q is.0 r is.1 e)

    -- two reads of one source are both cut or both kept
    pub kept_alike : (q : Quantity) (r t : Read) → IsReadOf s q r → IsReadOf s q t → r.source ≡ t.source → Contains (kept_arrows s) (arrow_of q r) ↔ Contains (kept_arrows s) (arrow_of q t)
    kept_alike q r t is its e =
        ((λ k. (kept_exactly q t its).1 (ap (λ x. is_cut s x q) (sym e) ∙ (kept_exactly q r is).0 k)), (λ k. (kept_exactly q r is).1 (ap (λ x. is_cut s x q) e ∙ (kept_exactly q t its).0 k)))

    -- what the test of a reference read finds is what its source and reader tell among the cuts
    pub cut_at_test : (before after : List (Arrow Quantity)) (a : Arrow Quantity) → reference_arrows s ≡ before ++ a ∷ after → is_cut_at same_quantity (inner_arrows s) before a ≡ is_cut s a.source a.reader
    cut_at_test before after a e =
        cut_by_pair same_quantity same_quantity-Decides (inner_arrows s) before after a inner_acyclic
        ∙ ap (λ rest. is_pair_cut same_quantity (inner_arrows s) rest a) (sym e) ∙ sym (is_cut-pair a)
