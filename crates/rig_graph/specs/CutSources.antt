-- A cut in-link of a scene's tables is from an operation that stands for a quantity, so that it has a rest value.
use Rattle.std.specs.Prelude.{◌≡◌, ℕ, List, map, filter, length, slice_get, true, Some, option_map, option_and_then, is_some, IsSome, IsTrue, Contains}
use Rattle.std.proofs.Common.{sym, ap, ◌∙◌, subst, arith}
use Rattle.std.proofs.lemmas.Option.{slice_get-map, slice_get_within, same_Some}
use Rattle.rig_cycles.specs.Cut.{Arrow}
use Rattle.rig_cycles.specs.Elements.{element_kept, element_map}
use Rattle.rig_flush.specs.Tables.{AreTablesOf}
use Rattle.rig_laws.specs.CutLinks.{cut_links_are_cuts}
use Rattle.rig_laws.specs.Kept.{cut_links}
use Rattle.rig_laws.specs.LinkArrows.{reference_link}
use Rattle.rig_laws.specs.Lists.{Contains-flat_map, element_of_map, option_map-Some}
use Rattle.rig_links.specs.declared.table.In.{In}
use Rattle.rig_links.specs.Links.{Links, link_named}
use Rattle.rig_scene.specs.Cut.{cuts}
use Rattle.rig_scene.specs.declared.operation.OpId.{OpId}
use Rattle.rig_scene.specs.declared.quantity.CutRead.{CutRead}
use Rattle.rig_scene.specs.Found.{Contains-slice_get, some_slice_get}
use Rattle.rig_scene.specs.Operations.{InLink, operations, operation_of, ins}
use Rattle.rig_scene.specs.Order.{quantity_of-operation_of}
use Rattle.rig_scene.specs.Scene.{SceneRecord}
use Rattle.rig_scene.specs.StandsFor.{quantity_of}
use Rattle.rig_scene.specs.WellFormed.{is_scene}

module _ (s : SceneRecord) (met : IsTrue (is_scene s)) where
  -- a cut in-link is a read that is cut, and what is read then is a quantity
  cut_source : (op : OpId) (link : InLink) → Contains (operations s) op → Contains (ins s op) link → link.cut ≡ true
      → IsSome (quantity_of link.op)
  cut_source op link here within cut =
      let listed : Contains (cut_links s) (reference_link op link.op) =
      Contains-flat_map (λ op. map (λ link. reference_link op link.op) (filter (λ link. link.cut) (ins s op))) (operations s) op
      (reference_link op link.op) here
      (element_map (λ (link : InLink). reference_link op link.op) (filter (λ link. link.cut) (ins s op)) link
      (element_kept (λ (link : InLink). link.cut) (ins s op) link within cut)) in
      let read = element_of_map (λ (c : CutRead). reference_link (operation_of c.reader) (operation_of c.source)) (cuts s)
      (reference_link op link.op)
      (subst (λ l. Contains l (reference_link op link.op)) (cut_links_are_cuts s met) listed) in
      let same : operation_of read.0.source ≡ link.op = ap (λ (a : Arrow OpId). a.source) read.2 in
      subst (λ o. IsSome (quantity_of o)) same (ap is_some (quantity_of-operation_of read.0.source))

  module _ (ops : List OpId) (links : Links) (tables : AreTablesOf s ops links) where
    -- the source of each cut in-link stands for a quantity
    pub cut_sources : (n : ℕ) (row : List In) → slice_get links.ins n ≡ Some row → (l : In) → Contains row l → l.cut ≡ true
        → IsSome (option_and_then quantity_of (slice_get ops l.source))
    cut_sources n row is_row l within cut =
        subst (λ os. IsSome (option_and_then quantity_of (slice_get os l.source))) (sym tables.same)
        (subst (λ o. IsSome (option_and_then quantity_of o)) (sym source_is)
        (cut_source own.0 found.0 (Contains-slice_get (operations s) n own.0 own.1) found.1
        (sym (ap (λ (k : InLink). k.cut) source.2) ∙ cut)))
      where
        own : (op : OpId) × (slice_get (operations s) n ≡ Some op)
        own =
            let below = slice_get_within links.ins n row is_row in
            some_slice_get (operations s) n (omega (arith, below, tables.fit.rows, ap length tables.same))

        -- a row has the in-links of its operation
        row_is : map (link_named (operations s)) row ≡ map Some (ins s own.0)
        row_is =
            same_Some (map (link_named (operations s)) row) (map Some (ins s own.0))
            (sym (slice_get-map (map (link_named (operations s))) links.ins n ∙ ap (option_map (map (link_named (operations s)))) is_row)
            ∙ ap (λ rows. slice_get rows n) tables.ins
            ∙ slice_get-map (λ op. map Some (ins s op)) (operations s) n
            ∙ ap (option_map (λ op. map Some (ins s op))) own.1)

        found : (link : InLink) × Contains (ins s own.0) link × (Some link ≡ link_named (operations s) l)
        found =
            element_of_map Some (ins s own.0) (link_named (operations s) l)
            (subst (λ ls. Contains ls (link_named (operations s) l)) row_is (element_map (link_named (operations s)) row l within))

        source : (op : OpId) × (slice_get (operations s) l.source ≡ Some op) × (record { op = op; cut = l.cut } ≡ found.0)
        source = option_map-Some (λ op. record { op = op; cut = l.cut }) (slice_get (operations s) l.source) found.0 (sym found.2)

        source_is : slice_get (operations s) l.source ≡ Some found.0.op
        source_is = source.1 ∙ ap (λ (k : InLink). Some k.op) source.2
