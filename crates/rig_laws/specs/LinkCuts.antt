-- The cut of links between operations that are named by numbers is the cut of the reads between quantities.
use Rattle.std.specs.Prelude.{◌≡◌, ◌⊎◌, ℕ, zero, suc, ◌&&◌, map, Bool, true, false, not, nat_eq, IsTrue, Contains}
use Rattle.std.proofs.Common.{inl, inr, ⊎_elim, refl, sym, ap, ◌∙◌, subst, true≢false}
use Rattle.std.proofs.lemmas.Bool.Decides.{Decides-like, Decides-eqb, same_from_decides}
use Rattle.std.proofs.lemmas.Simd.{map-map}
use Rattle.rig_cycles.specs.Cut.{Arrow, cuts_from}
use Rattle.rig_cycles.specs.CutSteps.{cut_is_tested}
use Rattle.rig_cycles.specs.Elements.{element_kept, element_of_kept, kept_passes, element_map, element_none, any_of_map}
use Rattle.rig_cycles.specs.Names.{arrow_map, TellsApart}
use Rattle.rig_cycles.specs.Pair.{has_pair, is_pair_cut}
use Rattle.rig_cycles.specs.Walk.{IsAcyclic, AreReadsOf}
use Rattle.rig_scene.specs.declared.operation.OpId.{OpId}
use Rattle.rig_scene.specs.declared.quantity.Quantity.{Quantity}
use Rattle.rig_scene.specs.declared.quantity.Quantity.TheVariants as quantity
use Rattle.rig_scene.specs.declared.quantity.Read.{Read}
use Rattle.rig_scene.specs.Cut.{arrows, inner_arrows, reference_arrows, cuts, is_cut}
use Rattle.rig_scene.specs.Operations.{operations, operation_of, ins}
use Rattle.rig_scene.specs.Order.{operation_of-injective}
use Rattle.rig_scene.specs.Quantities.{same_quantity, quantities, reads}
use Rattle.rig_scene.specs.Same.{same_quantity-Decides}
use Rattle.rig_scene.specs.Scene.{SceneRecord}
use Rattle.rig_scene.specs.WellFormed.{is_scene}
use Rattle.rig_laws.specs.InStep.{read_link, step_source, step_links}
use Rattle.rig_laws.specs.Kept.{arrow_of}
use Rattle.rig_laws.specs.KeptReads.{arrow_is_there, is_cut-pair}
use Rattle.rig_laws.specs.LinkArrows.{link_arrows, scene_arrows, inner_links, reference_links, IsNaming}
use Rattle.rig_laws.specs.LinkWalks.{IsReadOf, StandFor, cuts_alike, acyclic_of_names}
use Rattle.rig_laws.specs.LinksAsReads.{one_of, operation_there, reads_between, link_of_read, references_are_reads}
use Rattle.rig_laws.specs.LinksBetween.{reader_there, arrows_between, inner_links_acyclic}
use Rattle.rig_laws.specs.LinksInStep.{is_opening, any, none_cut, quantity_in_step, opening_in_step, ending_in_step}
use Rattle.rig_laws.specs.Lists.{All-elements, map_same, element_of_map}
use Rattle.rig_laws.specs.ReadsClosed.{reads_closed}

not_opening : (q : Quantity) → is_opening (operation_of q) ≡ false
not_opening (quantity.Chan id p) = refl
not_opening (quantity.Local o) = refl
not_opening (quantity.World o) = refl
not_opening (quantity.Bone o b) = refl
not_opening (quantity.Layer p l) = refl
not_opening (quantity.Geom o zero) = refl
not_opening (quantity.Geom o (suc i)) = refl

module _ (s : SceneRecord) (met : IsTrue (is_scene s)) (name : OpId → ℕ) (naming : IsNaming s name) where
  -- the number of a quantity's operation
  abbrev number : Quantity → ℕ
  number q = name (operation_of q)

  injective : (a b : Quantity) → Contains (quantities s) a → Contains (quantities s) b → number a ≡ number b → a ≡ b
  injective a b c d e = operation_of-injective a b (naming (operation_of a) (operation_of b) (operation_there s met a c) (operation_there s met b d) e)

  tells_apart : TellsApart (quantities s) same_quantity nat_eq number
  tells_apart a b c d =
      same_from_decides (nat_eq (number a) (number b)) (same_quantity a b)
      (Decides-like (nat_eq (number a) (number b)) (injective a b c d) (λ e. ap number e) (Decides-eqb (number a) (number b)))
      (same_quantity-Decides a b)

  -- the number of an operation that comes first
  abbrev Opens : ℕ → Type 0
  Opens n = (op : OpId) × Contains (operations s) op × (n ≡ name op) × IsTrue (is_opening op)

  no_quantity_opens : (q : Quantity) → Contains (quantities s) q → Opens (number q) → ⊥
  no_quantity_opens q c o =
      true≢false (sym o.3 ∙ ap is_opening (sym (naming (operation_of q) o.0 (operation_there s met q c) o.1 o.2)) ∙ not_opening q)

  -- an inner link, of which a number's arrow is
  abbrev IsLink : Arrow ℕ → Type 0
  IsLink b = (a : Arrow OpId) × Contains (scene_arrows s) a × (not a.is_reference ≡ true) × (arrow_map name a ≡ b)

  link_there : (b : Arrow ℕ) → Contains (map (arrow_map name) (inner_links s)) b → IsLink b
  link_there b e =
      let at = element_of_map (arrow_map name) (inner_links s) b e in
      (at.0, element_of_kept (λ a. not a.is_reference) (scene_arrows s) at.0 at.1, kept_passes (λ a. not a.is_reference) (scene_arrows s) at.0 at.1, at.2)

  opens_there : (b : Arrow ℕ) (is : IsLink b) → IsTrue (is_opening is.0.source) → Opens b.source
  opens_there b is p = (is.0.source, (arrows_between s met is.0 is.1).1, ap (λ b. b.source) (sym is.3), p)

  named : (a : Arrow Quantity) → Contains (inner_arrows s) a → Contains (map (arrow_map name) (inner_links s)) (arrow_map number a)
  named a e =
      element_map (arrow_map name) (inner_links s) (arrow_map operation_of a)
      (element_kept (λ a. not a.is_reference) (scene_arrows s) (arrow_map operation_of a)
      (link_of_read s met a (element_of_kept (λ a. not a.is_reference) (arrows s) a e)) (kept_passes (λ a. not a.is_reference) (arrows s) a e))

  read_or_opens : (b : Arrow ℕ) → Contains (map (arrow_map name) (inner_links s)) b → (q : Quantity) → Contains (quantities s) q → b.reader ≡ number q → IsReadOf (quantities s) number Opens (inner_arrows s) q b ⊎ Opens b.source
  read_or_opens b e q c r =
      let is = link_there b e in
      let at = reader_there s is.0 is.1 in
      let same : is.0.reader ≡ operation_of q = naming is.0.reader (operation_of q) at.0 (operation_there s met q c) (ap (λ b. b.reader) is.3 ∙ r) in
      ⊎_elim
      (λ of. inl (
        arrow_of q of.0,
        element_kept (λ a. not a.is_reference) (arrows s) (arrow_of q of.0) (arrow_is_there s q c of.0 of.1) (ap (λ a. not a.is_reference) of.2 ∙ is.2),
        refl,
        ap (λ b. b.source) (sym is.3) ∙ ap (λ a. name a.source) (sym of.2),
        reads_closed s met q of.0 (c, of.1),
      ))
      (λ p. inr (opens_there b is p))
      (step_source (operation_of q) (λ r. is_cut s r.source q) is_opening (quantity_in_step s q) is.0 (subst (λ op. Contains (link_arrows s op) is.0) same at.1))

  opens_opens : (b : Arrow ℕ) → Contains (map (arrow_map name) (inner_links s)) b → Opens b.reader → Opens b.source
  opens_opens b e o =
      let is = link_there b e in
      let at = reader_there s is.0 is.1 in
      let same : is.0.reader ≡ o.0 = naming is.0.reader o.0 at.0 o.1 (ap (λ b. b.reader) is.3 ∙ o.2) in
      ⊎_elim (λ of. absurd (element_none of.0 of.1)) (λ p. opens_there b is p)
      (step_source is.0.reader none_cut is_opening (opening_in_step s is.0.reader (ap is_opening same ∙ o.3)) is.0 at.1)

  stand_for : StandFor (quantities s) number Opens (map (arrow_map name) (inner_links s)) (inner_arrows s)
  stand_for = (named, read_or_opens, opens_opens)

  references_between : AreReadsOf (quantities s) (reference_arrows s)
  references_between a e = reads_between s met a (element_of_kept (λ a. a.is_reference) (arrows s) a e)

  -- the links that are cut are the reads that are
  cut_alike : cuts_from nat_eq (map (arrow_map name) (inner_links s)) (map (arrow_map name) (reference_links s)) ≡ map (arrow_map number) (cuts_from same_quantity (inner_arrows s) (reference_arrows s))
  cut_alike =
      ap (cuts_from nat_eq (map (arrow_map name) (inner_links s)))
      (ap (map (arrow_map name)) (references_are_reads s met) ∙ map-map (arrow_map name) (arrow_map operation_of) (reference_arrows s))
      ∙ cuts_alike (quantities s) number Opens no_quantity_opens injective same_quantity same_quantity-Decides nat_eq Decides-eqb
      (map (arrow_map name) (inner_links s)) (inner_arrows s) (reference_arrows s) stand_for references_between

  pub cuts_of_links : cuts_from nat_eq (map (arrow_map name) (inner_links s)) (map (arrow_map name) (reference_links s)) ≡ map (λ c. record { reader = name (operation_of c.reader); source = name (operation_of c.source); is_reference = true }) (cuts s)
  unfolding cuts
  cuts_of_links =
      let cut = cuts_from same_quantity (inner_arrows s) (reference_arrows s) in
      cut_alike
      ∙ map_same (arrow_map number) (λ a. record { reader = number a.reader; source = number a.source; is_reference = true }) cut
      (All-elements (λ a. arrow_map number a ≡ record { reader = number a.reader; source = number a.source; is_reference = true }) cut
      (λ a e.
      let r = kept_passes (λ a. a.is_reference) (arrows s) a (cut_is_tested same_quantity (inner_arrows s) (reference_arrows s) a e) in
      λ i. record { reader = number a.reader; source = number a.source; is_reference = r i }))
      ∙ sym (map-map (λ c. record { reader = name (operation_of c.reader); source = name (operation_of c.source); is_reference = true }) (λ a. record { source = a.source; reader = a.reader }) cut)

  -- ---- the in-links, by the cut of numbers

  abbrev tested : Arrow OpId → Bool
  tested a = is_pair_cut nat_eq (map (arrow_map name) (inner_links s)) (map (arrow_map name) (reference_links s)) (arrow_map name a)

  cut_between : AreReadsOf (quantities s) (cuts_from same_quantity (inner_arrows s) (reference_arrows s))
  cut_between a e = references_between a (cut_is_tested same_quantity (inner_arrows s) (reference_arrows s) a e)

  tested_is : (q : Quantity) → Contains (quantities s) q → (r : Read) → Contains (reads s q) r → tested (read_link (operation_of q) r) ≡ is_cut s r.source q
  tested_is q c r e =
      let cut = cuts_from same_quantity (inner_arrows s) (reference_arrows s) in
      ap (λ l. has_pair nat_eq l (arrow_map number (arrow_of q r))) cut_alike
      ∙ any_of_map (arrow_map number) (λ a. same_quantity a.source r.source && same_quantity a.reader q) (λ a. nat_eq a.source (number r.source) && nat_eq a.reader (number q)) cut
      (λ a k. let b = cut_between a k in
      λ i. tells_apart a.source r.source b.1 (reads_closed s met q r (c, e)) i && tells_apart a.reader q b.0 c i)
      ∙ sym (is_cut-pair s (arrow_of q r))

  abbrev AreIns : OpId → Type 0
  AreIns op = map (λ a. record { op = a.source; cut = a.is_reference && tested a }) (link_arrows s op) ≡ ins s op

  pub links_are_ins : (op : OpId) → Contains (operations s) op → map (λ a. record { op = a.source; cut = a.is_reference && is_pair_cut nat_eq (map (arrow_map name) (inner_links s)) (map (arrow_map name) (reference_links s)) (arrow_map name a) }) (link_arrows s op) ≡ ins s op
  links_are_ins op within =
      ⊎_elim
      (λ is. subst AreIns (sym is.2) (step_links (operation_of is.0) (λ r. is_cut s r.source is.0) is_opening tested (quantity_in_step s is.0) (tested_is is.0 is.1)))
      (λ h. ⊎_elim
      (λ t. step_links op none_cut is_opening tested (opening_in_step s op t) (λ r e. absurd (element_none r e)))
      (λ t. step_links op none_cut any tested (ending_in_step s op t) (λ r e. absurd (element_none r e)))
      h.1)
      (one_of s met op within)

  pub inner_names_acyclic : IsAcyclic (map (arrow_map name) (inner_links s))
  inner_names_acyclic =
      acyclic_of_names (operations s) name naming (inner_links s) (λ a e. arrows_between s met a (element_of_kept (λ a. not a.is_reference) (scene_arrows s) a e)) (inner_links_acyclic s met)
