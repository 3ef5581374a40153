-- The links of a scene by number: what `cut` asks of them, and that in rows they are the in-links of the scene.
use Rattle.std.proofs.Common.{◌≡◌, ℕ, zero, suc, ◌+◌, ◌<◌, ◌&&◌, not, List, [], ◌∷◌, ◌++◌, length, map, filter, slice_get, Some, refl, sym, ap, ◌∙◌, subst, arith}
use Rattle.std.specs.Prelude.{◌^◌, nat_eq, option_map, IsTrue, Contains}
use Rattle.std.specs.List.{All, flat_map, range_with_len}
use Rattle.std.proofs.lemmas.List.{length-map, map-append}
use Rattle.std.proofs.lemmas.List.Elements.{All-contains_itself, All-map, All-weaker}
use Rattle.std.proofs.lemmas.Option.{slice_get_within}
use Rattle.rig_cycles.specs.Cut.{Arrow}
use Rattle.rig_cycles.specs.Names.{arrow_map}
use Rattle.rig_cycles.specs.Pair.{is_pair_cut}
use Rattle.rig_cycles.specs.Walk.{IsAcyclic}
use Rattle.rig_cut.specs.declared.links.Link.{Link}
use Rattle.rig_cut.specs.Links.{arrow_of, inner_of, references_of, is_cut}
use Rattle.rig_scene.specs.declared.operation.OpId.{OpId}
use Rattle.rig_scene.specs.Operations.{InLink, operations, ins}
use Rattle.rig_scene.specs.Scene.{SceneRecord}
use Rattle.rig_scene.specs.WellFormed.{is_scene}
use Rattle.rig_laws.specs.LinkArrows.{link_arrows, scene_arrows, inner_links, reference_links, IsNaming}
use Rattle.rig_laws.specs.LinkCuts.{links_are_ins, inner_names_acyclic}
use Rattle.rig_laws.specs.LinksBetween.{arrows_between, readers_are, arrows_count}
use Rattle.rig_laws.specs.Lists.{Contains-flat_map, filter_of_map}
use Rattle.rig_links.specs.ByKey.{in_of, links_by, in_rows}
use Rattle.rig_links.specs.Links.{link_named, AreInsOf}
use Rattle.rig_links.specs.Numbers.{number_of, link_to, numbered_links, all_links}
use Rattle.rig_links.proofs.ByKey.{map_alike_at, map_twice, rows_are, AreKeyed}
use Rattle.rig_links.proofs.Numbers.{number_at}

-- what is at an index of a list is so of each element, where it holds at each index
elements_at : {A : Type 0} (xs : List A) (x : A) → Contains xs x → (k : ℕ) × (slice_get xs k ≡ Some x)
elements_at [] x e = absurd (let h : e.0 < 0 = e.1 in omega arith)
elements_at (y ∷ ys) x (zero, h, e) = (0, ap Some e)
elements_at (y ∷ ys) x (suc k, h, e) = let at = elements_at ys x (k, omega arith, e) in (suc at.0, at.1)

module _ (s : SceneRecord) (met : IsTrue (is_scene s)) where
  -- ---- numbers

  pub named : (op : OpId) → Contains (operations s) op → slice_get (operations s) (number_of s op) ≡ Some op
  named op e =
      let at = elements_at (operations s) op e in
      ap (slice_get (operations s)) (number_at s met at.0 op at.1) ∙ at.1

  pub naming : IsNaming s (number_of s)
  naming a b there here same =
      let e : Some a ≡ Some b = sym (named a there) ∙ ap (slice_get (operations s)) same ∙ named b here in cc

  number_below : (op : OpId) → Contains (operations s) op → number_of s op < length (operations s)
  number_below op e = slice_get_within (operations s) (number_of s op) op (named op e)

  -- ---- the links as reads

  -- a link of an operation is a read between numbers
  abbrev link_of_arrow : Arrow OpId → Link
  link_of_arrow a = link_to s (number_of s a.reader) a.is_reference a.source

  links_of_arrows : (op : OpId) → numbered_links s op ≡ map link_of_arrow (link_arrows s op)
  unfolding numbered_links
  links_of_arrows op = by (link_arrows s op) (readers_are s op)
    where
      by : (arrows : List (Arrow OpId)) → All (λ a. a.reader ≡ op) arrows → map (λ a. link_to s (number_of s op) a.is_reference a.source) arrows ≡ map link_of_arrow arrows
      by arrows h = map_alike_at (λ (a : Arrow OpId). link_to s (number_of s op) a.is_reference a.source) link_of_arrow (λ a. a.reader ≡ op) (λ a e. ap (λ o. link_to s (number_of s o) a.is_reference a.source) (sym e)) arrows h

  pub links_length : (op : OpId) → length (numbered_links s op) ≡ length (link_arrows s op)
  links_length op = ap length (links_of_arrows op) ∙ length-map (link_arrows s op) link_of_arrow

  all_of_arrows : (ops : List OpId) → flat_map (numbered_links s) ops ≡ map link_of_arrow (flat_map (link_arrows s) ops)
  all_of_arrows [] = refl
  all_of_arrows (op ∷ ops) =
      ap (λ l. l ++ flat_map (numbered_links s) ops) (links_of_arrows op)
      ∙ ap (λ l. map link_of_arrow (link_arrows s op) ++ l) (all_of_arrows ops)
      ∙ sym (map-append link_of_arrow (link_arrows s op) (flat_map (link_arrows s) ops))

  reads_of_links : map arrow_of (all_links s) ≡ map (arrow_map (number_of s)) (scene_arrows s)
  reads_of_links = ap (map arrow_of) (all_of_arrows (operations s)) ∙ map_twice arrow_of link_of_arrow (scene_arrows s)

  inner_reads : inner_of (all_links s) ≡ map (arrow_map (number_of s)) (inner_links s)
  inner_reads = ap (filter (λ a. not a.is_reference)) reads_of_links ∙ filter_of_map (λ a. not a.is_reference) (arrow_map (number_of s)) (scene_arrows s)

  reference_reads : references_of (all_links s) ≡ map (arrow_map (number_of s)) (reference_links s)
  reference_reads = ap (filter (λ a. a.is_reference)) reads_of_links ∙ filter_of_map (λ a. a.is_reference) (arrow_map (number_of s)) (scene_arrows s)

  -- ---- what the cut asks

  pub within : All (λ l. (l.source < length (operations s)) × (l.reader < length (operations s))) (all_links s)
  within =
      subst (λ links. All (λ l. (l.source < length (operations s)) × (l.reader < length (operations s))) links) (sym (all_of_arrows (operations s)))
      (All-map (λ (l : Link). (l.source < length (operations s)) × (l.reader < length (operations s))) link_of_arrow (scene_arrows s)
      (All-weaker (Contains (scene_arrows s)) (λ a. (number_of s a.source < length (operations s)) × (number_of s a.reader < length (operations s)))
      (λ a e. let ends = arrows_between s met a e in (number_below a.source ends.1, number_below a.reader ends.0))
      (scene_arrows s) (All-contains_itself (scene_arrows s))))

  pub acyclic : IsAcyclic (inner_of (all_links s))
  acyclic = subst IsAcyclic (sym inner_reads) (inner_names_acyclic s met (number_of s) naming)

  pub few : length (all_links s) < 2 ^ 32
  few = omega (arith, ap length (all_of_arrows (operations s)), length-map (scene_arrows s) link_of_arrow, arrows_count s met)

  -- ---- rows

  pub keyed : AreKeyed (λ (l : Link). l.reader) (numbered_links s) 0 (operations s)
  keyed k op at =
      subst (λ links. All (λ l. l.reader ≡ 0 + k) links) (sym (links_of_arrows op))
      (All-map (λ (l : Link). l.reader ≡ 0 + k) link_of_arrow (link_arrows s op)
      (All-weaker (λ a. a.reader ≡ op) (λ a. number_of s a.reader ≡ 0 + k) (λ a e. ap (number_of s) e ∙ number_at s met k op at ∙ omega arith) (link_arrows s op) (readers_are s op)))

  pub rows_of_operations : in_rows (all_links s) (length (operations s)) ≡ map (λ op. map (in_of (all_links s)) (numbered_links s op)) (operations s)
  rows_of_operations =
      sym (map_twice (map (in_of (all_links s))) (links_by (all_links s)) (range_with_len 0 (length (operations s))))
      ∙ ap (map (map (in_of (all_links s)))) (rows_are (λ (l : Link). l.reader) (numbered_links s) 0 (operations s) keyed)
      ∙ map_twice (map (in_of (all_links s))) (numbered_links s) (operations s)

  -- the in-link of a read
  abbrev marked : Arrow OpId → InLink
  marked a = record {
    op = a.source;
    cut = a.is_reference && is_pair_cut nat_eq (map (arrow_map (number_of s)) (inner_links s)) (map (arrow_map (number_of s)) (reference_links s)) (arrow_map (number_of s) a);
  }

  one_named : (a : Arrow OpId) → Contains (operations s) a.source → link_named (operations s) (in_of (all_links s) (link_of_arrow a)) ≡ Some (marked a)
  one_named a e =
      ap (λ o. option_map (λ op. record { op = op; cut = is_cut (all_links s) (link_of_arrow a) }) o) (named a.source e)
      ∙ ap (λ inner. Some (record { op = a.source; cut = a.is_reference && is_pair_cut nat_eq inner (references_of (all_links s)) (arrow_map (number_of s) a) })) inner_reads
      ∙ ap (λ references. Some (record { op = a.source; cut = a.is_reference && is_pair_cut nat_eq (map (arrow_map (number_of s)) (inner_links s)) references (arrow_map (number_of s) a) })) reference_reads

  sources_there : (op : OpId) → Contains (operations s) op → All (λ a. Contains (operations s) a.source) (link_arrows s op)
  sources_there op e =
      All-weaker (Contains (link_arrows s op)) (λ a. Contains (operations s) a.source)
      (λ a at. (arrows_between s met a (Contains-flat_map (link_arrows s) (operations s) op a e at)).1) (link_arrows s op) (All-contains_itself (link_arrows s op))

  row_named : (op : OpId) → Contains (operations s) op → map (link_named (operations s)) (map (in_of (all_links s)) (numbered_links s op)) ≡ map Some (ins s op)
  row_named op e =
      ap (λ links. map (link_named (operations s)) (map (in_of (all_links s)) links)) (links_of_arrows op)
      ∙ map_twice (link_named (operations s)) (in_of (all_links s)) (map link_of_arrow (link_arrows s op))
      ∙ map_twice (λ l. link_named (operations s) (in_of (all_links s) l)) link_of_arrow (link_arrows s op)
      ∙ map_alike_at (λ a. link_named (operations s) (in_of (all_links s) (link_of_arrow a))) (λ a. Some (marked a)) (λ a. Contains (operations s) a.source) one_named (link_arrows s op) (sources_there op e)
      ∙ sym (map_twice Some marked (link_arrows s op))
      ∙ ap (map Some) (links_are_ins s met (number_of s) naming op e)

  pub rows_are_ins : AreInsOf s (in_rows (all_links s) (length (operations s)))
  rows_are_ins =
      ap (map (map (link_named (operations s)))) rows_of_operations
      ∙ map_twice (map (link_named (operations s))) (λ op. map (in_of (all_links s)) (numbered_links s op)) (operations s)
      ∙ map_alike_at (λ op. map (link_named (operations s)) (map (in_of (all_links s)) (numbered_links s op))) (λ op. map Some (ins s op)) (Contains (operations s)) row_named (operations s) (All-contains_itself (operations s))
