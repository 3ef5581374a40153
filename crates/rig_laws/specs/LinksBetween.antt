-- The links of a scene's operations as reads are between its operations, few, and make no cycle where they are inner ones.
use Rattle.std.specs.Prelude.{◌≡◌, ◌<◌, List, [], ◌∷◌, map, length, filter, false, not, IsTrue, Contains, All}
use Rattle.std.specs.List.{flat_map}
use Rattle.std.proofs.Common.{refl, sym, ap, subst, arith}
use Rattle.std.proofs.lemmas.Bool.{not-true}
use Rattle.std.proofs.lemmas.List.{length-append}
use Rattle.std.proofs.lemmas.List.Elements.{All-contains}
use Rattle.rig_cycles.specs.Cut.{Arrow}
use Rattle.rig_cycles.specs.Elements.{element_kept, element_of_kept, kept_passes, element_map}
use Rattle.rig_cycles.specs.Leads.{walk_within}
use Rattle.rig_cycles.specs.Walk.{IsAcyclic, IsPart, AreReadsOf}
use Rattle.rig_scene.specs.declared.operation.OpId.{OpId}
use Rattle.rig_scene.specs.Operations.{operations, ins}
use Rattle.rig_scene.specs.Scene.{SceneRecord}
use Rattle.rig_scene.specs.WellFormed.{is_scene}
use Rattle.rig_laws.specs.FewLinks.{links_count}
use Rattle.rig_laws.specs.InStep.{step_readers, step_length, step_link}
use Rattle.rig_laws.specs.Kept.{kept_links}
use Rattle.rig_laws.specs.LinkArrows.{link_arrows, scene_arrows, inner_links}
use Rattle.rig_laws.specs.LinksAcyclic.{links_acyclic}
use Rattle.rig_laws.specs.LinksClosed.{ins_closed}
use Rattle.rig_laws.specs.LinksInStep.{in_step}
use Rattle.rig_laws.specs.Lists.{Contains-flat_map, element_of_flat_map}

module _ (s : SceneRecord) where
  -- each is read by its operation
  pub readers_are : (op : OpId) → All (λ a. a.reader ≡ op) (link_arrows s op)
  readers_are op = let h = in_step s op in step_readers op h.0 h.1 h.3

  -- an operation has as many as it has in-links
  pub as_many : (op : OpId) → length (link_arrows s op) ≡ length (ins s op)
  as_many op = let h = in_step s op in step_length op h.0 h.1 h.3

  all_as_many : (ops : List OpId) → length (flat_map (link_arrows s) ops) ≡ length (flat_map (ins s) ops)
  all_as_many [] = refl
  all_as_many (op ∷ ops) =
      omega (
        arith,
        length-append (link_arrows s op) (flat_map (link_arrows s) ops),
        length-append (ins s op) (flat_map (ins s) ops),
        as_many op,
        all_as_many ops,
      )

  -- each is a read of its reader, which is an operation of the scene
  pub reader_there : (a : Arrow OpId) → Contains (scene_arrows s) a → Contains (operations s) a.reader × Contains (link_arrows s a.reader) a
  reader_there a e =
      let at = element_of_flat_map (link_arrows s) (operations s) a e in
      subst (λ op. Contains (operations s) op × Contains (link_arrows s op) a)
      (sym (All-contains (λ a. a.reader ≡ at.0) (link_arrows s at.0) a (readers_are at.0) at.2)) (at.1, at.2)

  -- each inner one is an in-link that isn't cut
  inner_part : IsPart (inner_links s) (kept_links s)
  inner_part a e =
      let f = not-true a.is_reference (kept_passes (λ a. not a.is_reference) (scene_arrows s) a e) in
      let at = reader_there a (element_of_kept (λ a. not a.is_reference) (scene_arrows s) a e) in
      let h = in_step s a.reader in
      let link = step_link a.reader h.0 h.1 h.3 a at.1 in
      let kept = element_kept (λ link. not link.cut) (ins s a.reader) link.0 link.1 (ap not (link.3 f)) in
      let same : record { reader = a.reader; source = link.0.op; is_reference = false } ≡ a = λ i. record { reader = a.reader; source = link.2 i; is_reference = sym f i } in
      subst (Contains (kept_links s)) same
      (Contains-flat_map (λ op. map (λ link. record { reader = op; source = link.op; is_reference = false }) (filter (λ link. not link.cut) (ins s op))) (operations s) a.reader
      (record { reader = a.reader; source = link.0.op; is_reference = false }) at.0
      (element_map (λ link. record { reader = a.reader; source = link.op; is_reference = false }) (filter (λ link. not link.cut) (ins s a.reader)) link.0 kept))

  module _ (met : IsTrue (is_scene s)) where
    -- they are between operations of the scene
    pub arrows_between : AreReadsOf (operations s) (scene_arrows s)
    arrows_between a e =
        let at = reader_there a e in
        let h = in_step s a.reader in
        let link = step_link a.reader h.0 h.1 h.3 a at.1 in
        (at.0, subst (Contains (operations s)) link.2 (ins_closed s met a.reader link.0 (at.0, link.1)))

    pub arrows_count : length (scene_arrows s) < 262144
    arrows_count = omega (arith, all_as_many (operations s), links_count s met)

    pub inner_links_acyclic : IsAcyclic (inner_links s)
    inner_links_acyclic a e w = links_acyclic s met a (inner_part a e) (walk_within (inner_links s) (kept_links s) inner_part w)
