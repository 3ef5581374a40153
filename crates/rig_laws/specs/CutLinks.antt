-- The in-links that are cut are the cut reads, in order.
use Rattle.std.specs.Prelude.{◌≡◌, ◌&&◌, map, filter, IsTrue}
use Rattle.std.proofs.Common.{sym, ap, ◌∙◌}
use Rattle.std.proofs.lemmas.Simd.{map-map}
use Rattle.rig_cycles.specs.Cut.{cuts_from, kept_after, closes_cycle}
use Rattle.rig_cycles.specs.CutAlike.{pair_in_the_end, split}
use Rattle.rig_scene.specs.Cut.{arrows, inner_arrows, reference_arrows, cuts, is_cut}
use Rattle.rig_scene.specs.Operations.{operation_of}
use Rattle.rig_scene.specs.Quantities.{same_quantity}
use Rattle.rig_scene.specs.Same.{same_quantity-Decides}
use Rattle.rig_scene.specs.Scene.{SceneRecord}
use Rattle.rig_scene.specs.WellFormed.{is_scene}
use Rattle.rig_laws.specs.Kept.{cut_links}
use Rattle.rig_laws.specs.KeptReads.{is_cut-pair, inner_acyclic}
use Rattle.rig_laws.specs.LinkArrows.{reference_link}
use Rattle.rig_laws.specs.LinksAsReads.{cut_links_are_reads}
use Rattle.rig_laws.specs.Lists.{filter_of_filter, filter_same}

module _ (s : SceneRecord) (met : IsTrue (is_scene s)) where
  -- the reads that are cut, by their source and reader, are those that the cut lists
  cuts_are_reads : filter (λ a. a.is_reference && is_cut s a.source a.reader) (arrows s) ≡ cuts_from same_quantity (inner_arrows s) (reference_arrows s)
  cuts_are_reads =
      sym (filter_of_filter (λ a. is_cut s a.source a.reader) (λ a. a.is_reference) (arrows s))
      ∙ filter_same (λ a. is_cut s a.source a.reader) (closes_cycle same_quantity (kept_after same_quantity (inner_arrows s) (reference_arrows s))) (reference_arrows s)
      (λ a e. is_cut-pair s a ∙ pair_in_the_end same_quantity same_quantity-Decides (inner_arrows s) (reference_arrows s) a (inner_acyclic s met) e)
      ∙ sym (split same_quantity same_quantity-Decides (inner_arrows s) (reference_arrows s) (inner_acyclic s met)).0

  pub cut_links_are_cuts : cut_links s ≡ map (λ c. reference_link (operation_of c.reader) (operation_of c.source)) (cuts s)
  unfolding cuts
  cut_links_are_cuts =
      cut_links_are_reads s met
      ∙ ap (map (λ a. reference_link (operation_of a.reader) (operation_of a.source))) cuts_are_reads
      ∙ sym (map-map (λ c. reference_link (operation_of c.reader) (operation_of c.source)) (λ a. record { source = a.source; reader = a.reader }) (cuts_from same_quantity (inner_arrows s) (reference_arrows s)))
