-- The links between operations that stand for a quantity are the reads between the quantities. Beside them are only links to
-- what needs no quantity.
use Rattle.std.specs.Prelude.{◌≡◌, ◌⊎◌, zero, suc, ◌&&◌, List, [], ◌∷◌, ◌++◌, map, filter, Bool, IsTrue, Option, Some, None, Contains, All}
use Rattle.std.specs.List.{flat_map, filter_map, cons_option}
use Rattle.std.proofs.Common.{inl, inr, ⊎_elim, refl, sym, ap, ◌∙◌, subst, true≢false}
use Rattle.std.proofs.lemmas.Simd.{map-map}
use Rattle.std.proofs.lemmas.List.Elements.{All-contains, All-contains_itself, All-head, All-tail}
use Rattle.rig_cycles.specs.Cut.{Arrow}
use Rattle.rig_cycles.specs.Names.{arrow_map}
use Rattle.rig_cycles.specs.Walk.{AreReadsOf}
use Rattle.rig_scene.specs.declared.operation.OpId.{OpId}
use Rattle.rig_scene.specs.declared.operation.OpId.TheVariants.{Time, Animation, Driver, Local, World, PoseInit, Bone, PoseDone, Layer, Geometry, ModifierOp, GeometryDone}
use Rattle.rig_scene.specs.declared.quantity.Quantity.{Quantity}
use Rattle.rig_scene.specs.declared.quantity.Read.{Read}
use Rattle.rig_scene.specs.Cut.{arrows, reference_arrows, is_cut}
use Rattle.rig_scene.specs.Operations.{operations, operation_of, ins}
use Rattle.rig_scene.specs.Order.{quantities_in_order, quantity_of-is}
use Rattle.rig_scene.specs.Quantities.{quantities, reads}
use Rattle.rig_scene.specs.Scene.{SceneRecord}
use Rattle.rig_scene.specs.StandsFor.{quantity_of}
use Rattle.rig_scene.specs.WellFormed.{is_scene}
use Rattle.rig_laws.specs.HasOperation.{operation_has, quantity_operation}
use Rattle.rig_laws.specs.HasQuantity.{quantities_are_there}
use Rattle.rig_laws.specs.InStep.{read_link, step_read, step_references, step_cuts}
use Rattle.rig_laws.specs.Kept.{arrow_of, cut_links}
use Rattle.rig_laws.specs.LinkArrows.{reference_link, link_arrows, scene_arrows, reference_links}
use Rattle.rig_laws.specs.LinksInStep.{is_opening, is_ending, any, none_cut, quantity_in_step, opening_in_step, ending_in_step}
use Rattle.rig_laws.specs.Lists.{Contains-flat_map, Contains-filter_map, element_of_flat_map, element_of_map, filter_of_map, filter_of_flat_map, map_of_flat_map}
use Rattle.rig_laws.specs.Members.{has_quantity, has_operation}
use Rattle.rig_laws.specs.ReadsClosed.{reads_closed}

module _ (s : SceneRecord) (met : IsTrue (is_scene s)) where
  -- ---- which operations there are

  -- an operation stands for a quantity of the scene, comes first, or ends
  abbrev pub IsOneOf : OpId → Type 0
  IsOneOf op = ((q : Quantity) × Contains (quantities s) q × (op ≡ operation_of q)) ⊎ ((quantity_of op ≡ None) × (IsTrue (is_opening op) ⊎ IsTrue (is_ending op)))

  other_one : (op : OpId) → quantity_of op ≡ None → IsTrue (has_operation s op) → IsTrue (is_opening op) ⊎ IsTrue (is_ending op)
  other_one Time e h = inl refl
  other_one (Animation id) e h = inl refl
  other_one (Driver id p) e h = absurd (cc)
  other_one (Local o) e h = absurd (cc)
  other_one (World o) e h = absurd (cc)
  other_one (PoseInit o) e h = inl refl
  other_one (Bone o b) e h = absurd (cc)
  other_one (PoseDone o) e h = inr refl
  other_one (Layer p l) e h = absurd (cc)
  other_one (Geometry o) e h = absurd (cc)
  other_one (ModifierOp o zero) e h = absurd (true≢false (sym h))
  other_one (ModifierOp o (suc i)) e h = absurd (cc)
  other_one (GeometryDone o) e h = inr refl

  pub one_of : (op : OpId) → Contains (operations s) op → IsOneOf op
  one_of op within = by (quantity_of op) refl
    where
      by : (o : Option Quantity) → quantity_of op ≡ o → IsOneOf op
      by None e = inr (e, other_one op e (operation_has s met op within))
      by (Some q) e = inl (q, subst (λ l. Contains l q) (quantities_in_order s) (Contains-filter_map quantity_of (operations s) op q within e), (quantity_of-is op q).0 e)

  pub operation_there : (q : Quantity) → Contains (quantities s) q → Contains (operations s) (operation_of q)
  operation_there q within = quantity_operation s met q (All-contains (λ q. IsTrue (has_quantity s q)) (quantities s) q (quantities_are_there s met) within)

  -- ---- the reads, as links

  -- a read of the scene, by one of its quantities
  abbrev pub IsRead : Arrow Quantity → Type 0
  IsRead a = (q : Quantity) × Contains (quantities s) q × ((r : Read) × Contains (reads s q) r × (arrow_of q r ≡ a))

  pub read_there : (a : Arrow Quantity) → Contains (arrows s) a → IsRead a
  read_there a e =
      let at = element_of_flat_map (λ q. map (arrow_of q) (reads s q)) (quantities s) a e in
      (at.0, at.1, element_of_map (arrow_of at.0) (reads s at.0) a at.2)

  pub reads_between : AreReadsOf (quantities s) (arrows s)
  reads_between a e =
      let is = read_there a e in
      subst (λ a. Contains (quantities s) a.reader × Contains (quantities s) a.source) is.2.2 (is.1, reads_closed s met is.0 is.2.0 (is.1, is.2.1))

  -- each read is one between the operations
  pub link_of_read : (a : Arrow Quantity) → Contains (arrows s) a → Contains (scene_arrows s) (arrow_map operation_of a)
  link_of_read a e =
      let is = read_there a e in
      let q = is.0 in
      subst (λ a. Contains (scene_arrows s) (arrow_map operation_of a)) is.2.2
      (Contains-flat_map (link_arrows s) (operations s) (operation_of q) (read_link (operation_of q) is.2.0) (operation_there q is.1)
      (step_read (operation_of q) (λ r. is_cut s r.source q) is_opening (quantity_in_step s q) is.2.0 is.2.1))

  -- ---- the reads that pass a test are, in order, those of the operations

  -- what the operations give in order is what the quantities give, where those that stand for none give nothing
  module _ {X : Type 0} (f : OpId → List X) (g : Quantity → List X) (of_quantity : (q : Quantity) → f (operation_of q) ≡ g q) (of_other : (op : OpId) → IsTrue (is_opening op) ⊎ IsTrue (is_ending op) → f op ≡ []) where
    one_first : (op : OpId) (qs : List Quantity) → IsOneOf op → f op ++ flat_map g qs ≡ flat_map g (cons_option (quantity_of op) qs)
    one_first op qs is =
        ⊎_elim
        (λ is. ap (λ l. l ++ flat_map g qs) (ap f is.2 ∙ of_quantity is.0)
        ∙ ap (λ o. flat_map g (cons_option o qs)) (sym ((quantity_of-is op is.0).1 is.2)))
        (λ h. ap (λ l. l ++ flat_map g qs) (of_other op h.1) ∙ ap (λ o. flat_map g (cons_option o qs)) (sym h.0))
        is

    in_order : (ops : List OpId) → All (Contains (operations s)) ops → flat_map f ops ≡ flat_map g (filter_map quantity_of ops)
    in_order [] all = refl
    in_order (op ∷ ops) all =
        ap (λ l. f op ++ l) (in_order ops (All-tail (Contains (operations s)) op ops all))
        ∙ one_first op (filter_map quantity_of ops) (one_of op (All-head (Contains (operations s)) op ops all))

    by_quantities : flat_map f (operations s) ≡ flat_map g (quantities s)
    by_quantities = in_order (operations s) (All-contains_itself (operations s)) ∙ ap (flat_map g) (quantities_in_order s)

  module _ (passes : Arrow Quantity → Bool) (link : Arrow Quantity → Arrow OpId) where
    -- the links of the reads of a quantity that pass
    abbrev pub passing_links : Quantity → List (Arrow OpId)
    passing_links q = map (λ r. link (arrow_of q r)) (filter (λ r. passes (arrow_of q r)) (reads s q))

    links_by : (q : Quantity) → passing_links q ≡ map link (filter passes (map (arrow_of q) (reads s q)))
    links_by q =
        sym (ap (map link) (filter_of_map passes (arrow_of q) (reads s q)) ∙ map-map link (arrow_of q) (filter (λ r. passes (arrow_of q r)) (reads s q)))

    pub links_of_reads : (f : OpId → List (Arrow OpId)) → ((q : Quantity) → f (operation_of q) ≡ passing_links q) → ((op : OpId) → IsTrue (is_opening op) ⊎ IsTrue (is_ending op) → f op ≡ []) → flat_map f (operations s) ≡ map link (filter passes (arrows s))
    links_of_reads f of_quantity of_other =
        by_quantities f (λ q. map link (filter passes (map (arrow_of q) (reads s q)))) (λ q. of_quantity q ∙ links_by q) of_other
        ∙ sym (ap (map link) (filter_of_flat_map passes (λ q. map (arrow_of q) (reads s q)) (quantities s))
        ∙ map_of_flat_map link (λ q. filter passes (map (arrow_of q) (reads s q))) (quantities s))

  -- ---- the reference reads

  no_references : (op : OpId) → IsTrue (is_opening op) ⊎ IsTrue (is_ending op) → filter (λ a. a.is_reference) (link_arrows s op) ≡ []
  no_references op h = ⊎_elim (λ t. step_references op none_cut is_opening (opening_in_step s op t)) (λ t. step_references op none_cut any (ending_in_step s op t)) h

  pub references_are_reads : reference_links s ≡ map (arrow_map operation_of) (reference_arrows s)
  references_are_reads =
      filter_of_flat_map (λ a. a.is_reference) (link_arrows s) (operations s)
      ∙ links_of_reads (λ a. a.is_reference) (arrow_map operation_of) (λ op. filter (λ a. a.is_reference) (link_arrows s op))
      (λ q. step_references (operation_of q) (λ r. is_cut s r.source q) is_opening (quantity_in_step s q)) no_references

  -- ---- the in-links that are cut

  no_cuts : (op : OpId) → IsTrue (is_opening op) ⊎ IsTrue (is_ending op) → map (λ link. reference_link op link.op) (filter (λ link. link.cut) (ins s op)) ≡ []
  no_cuts op h = ⊎_elim (λ t. step_cuts op none_cut is_opening (opening_in_step s op t)) (λ t. step_cuts op none_cut any (ending_in_step s op t)) h

  pub cut_links_are_reads : cut_links s ≡ map (λ a. reference_link (operation_of a.reader) (operation_of a.source)) (filter (λ a. a.is_reference && is_cut s a.source a.reader) (arrows s))
  cut_links_are_reads =
      links_of_reads (λ a. a.is_reference && is_cut s a.source a.reader) (λ a. reference_link (operation_of a.reader) (operation_of a.source))
      (λ op. map (λ link. reference_link op link.op) (filter (λ link. link.cut) (ins s op)))
      (λ q. step_cuts (operation_of q) (λ r. is_cut s r.source q) is_opening (quantity_in_step s q)) no_cuts
