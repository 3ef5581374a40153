-- What follows from the rows of in-links: their number, the readers of each operation, and an order of evaluation.
use Rattle.std.proofs.Common.{◌≡◌, ℕ, ◌+◌, ◌<◌, ◌&&◌, Bool, false, not, List, [], ◌∷◌, ◌++◌, length, map, filter, refl, sym, ap, ◌∙◌, subst, arith}
use Rattle.std.specs.Prelude.{◌==◌, IsTrue, Contains}
use Rattle.std.specs.List.{All, flat_map, range_with_len, enumerate_from}
use Rattle.std.proofs.lemmas.List.{length-append, length-map, map-append}
use Rattle.std.proofs.lemmas.List.Elements.{All-filter, All-map, All-weaker, filter-append}
use Rattle.std.proofs.lemmas.List.FromFn.{length-map-range_with_len}
use Rattle.rig_cycles.specs.Cut.{Arrow}
use Rattle.rig_cycles.specs.Elements.{element_map}
use Rattle.rig_cycles.specs.Order.{IsTopologicalOrder}
use Rattle.rig_cut.specs.declared.links.Link.{Link}
use Rattle.rig_cut.specs.Links.{arrow_of, is_cut, kept_of}
use Rattle.rig_rows.specs.Rows.{joined}
use Rattle.rig_scene.specs.declared.operation.OpId.{OpId}
use Rattle.rig_scene.specs.Operations.{operations, ins}
use Rattle.rig_scene.specs.Scene.{SceneRecord}
use Rattle.rig_scene.specs.WellFormed.{is_scene}
use Rattle.rig_laws.specs.FewLinks.{links_count}
use Rattle.rig_laws.specs.LinksBetween.{as_many}
use Rattle.rig_laws.specs.Lists.{All-of_any, element_of_map, filter_of_filter, filter_of_map}
use Rattle.rig_links.specs.declared.table.In.{In}
use Rattle.rig_links.specs.ByKey.{in_of, links_by, in_rows, uncut, reader_rows}
use Rattle.rig_links.specs.Links.{kept_reads, readers_of}
use Rattle.rig_links.specs.Numbers.{numbered_links, all_links}
use Rattle.rig_links.specs.Tables.{IsTable, ArePlaces}
use Rattle.rig_links.proofs.ByKey.{map_alike, map_alike_at, map_twice, AreKeyed, keyed_head, keyed_tail}
use Rattle.rig_links.proofs.SceneLinks.{within, keyed, links_length, rows_of_operations}

-- ---- what a function gives of the in-links of each row, and of the number of the row

module _ {X B : Type 0} (links : List Link) (of : X → List Link) (give : ℕ → In → B) (test : In → Bool) where
  one_row : (n : ℕ) (ls : List Link) → All (λ l. l.reader ≡ n) ls
      → map (give n) (filter test (map (in_of links) ls)) ≡ map (λ l. give l.reader (in_of links l)) (filter (λ l. test (in_of links l)) ls)
  one_row n ls same =
      ap (map (give n)) (filter_of_map test (in_of links) ls)
      ∙ map_twice (give n) (in_of links) (filter (λ l. test (in_of links l)) ls)
      ∙ map_alike_at (λ l. give n (in_of links l)) (λ l. give l.reader (in_of links l)) (λ l. l.reader ≡ n) (λ l e. ap (λ m. give m (in_of links l)) (sym e))
      (filter (λ l. test (in_of links l)) ls) (All-filter (λ l. test (in_of links l)) (λ l. l.reader ≡ n) ls same)

  given_of_rows : (a : ℕ) (xs : List X) → AreKeyed (λ (l : Link). l.reader) of a xs
      → flat_map (λ e. map (give e.0) (filter test e.1)) (enumerate_from a (map (λ x. map (in_of links) (of x)) xs))
      ≡ map (λ l. give l.reader (in_of links l)) (filter (λ l. test (in_of links l)) (flat_map of xs))
  given_of_rows a [] key = refl
  given_of_rows a (x ∷ xs) key =
      ap (λ l. l ++ flat_map (λ e. map (give e.0) (filter test e.1)) (enumerate_from (a + 1) (map (λ x. map (in_of links) (of x)) xs)))
      (one_row a (of x) (keyed_head (λ (l : Link). l.reader) of a x xs key))
      ∙ ap (λ l. map (λ l. give l.reader (in_of links l)) (filter (λ l. test (in_of links l)) (of x)) ++ l) (given_of_rows (a + 1) xs (keyed_tail (λ (l : Link). l.reader) of a x xs key))
      ∙ sym (map-append (λ l. give l.reader (in_of links l)) (filter (λ l. test (in_of links l)) (of x)) (filter (λ l. test (in_of links l)) (flat_map of xs)))
      ∙ sym (ap (map (λ l. give l.reader (in_of links l))) (filter-append (λ l. test (in_of links l)) (of x) (flat_map of xs)))

-- ---- the rows of a scene

module _ (s : SceneRecord) (met : IsTrue (is_scene s)) where
  abbrev rows : List (List In)
  rows = in_rows (all_links s) (length (operations s))

  given : {B : Type 0} (give : ℕ → In → B) (test : In → Bool)
      → flat_map (λ e. map (give e.0) (filter test e.1)) (enumerate_from 0 rows)
      ≡ map (λ l. give l.reader (in_of (all_links s) l)) (filter (λ l. test (in_of (all_links s) l)) (all_links s))
  given give test =
      ap (λ rs. flat_map (λ e. map (give e.0) (filter test e.1)) (enumerate_from 0 rs)) (rows_of_operations s met)
      ∙ given_of_rows (all_links s) (numbered_links s) give test 0 (operations s) (keyed s met)

  -- ---- lengths

  pub rows_length : length rows ≡ length (operations s)
  rows_length = length-map-range_with_len (λ n. map (in_of (all_links s)) (links_by (all_links s) n)) 0 (length (operations s))

  joined_length : (ops : List OpId) → length (joined (map (λ op. map (in_of (all_links s)) (numbered_links s op)) ops)) ≡ length (flat_map (ins s) ops)
  joined_length [] = refl
  joined_length (op ∷ ops) =
      omega (
        arith,
        length-append (map (in_of (all_links s)) (numbered_links s op)) (joined (map (λ op. map (in_of (all_links s)) (numbered_links s op)) ops)),
        length-append (ins s op) (flat_map (ins s) ops),
        length-map (numbered_links s op) (in_of (all_links s)),
        links_length s met op,
        as_many s op,
        joined_length ops,
      )

  pub rows_count : length (joined rows) ≡ length (flat_map (ins s) (operations s))
  rows_count = ap (λ rs. length (joined rs)) (rows_of_operations s met) ∙ joined_length (operations s)

  -- ---- a table

  sources_within : All (λ row. All (λ (l : In). l.source < length (operations s)) row) rows
  sources_within =
      All-map (λ row. All (λ (l : In). l.source < length (operations s)) row) (λ n. map (in_of (all_links s)) (links_by (all_links s) n)) (range_with_len 0 (length (operations s)))
      (All-of_any (λ n. All (λ (l : In). l.source < length (operations s)) (map (in_of (all_links s)) (links_by (all_links s) n))) (range_with_len 0 (length (operations s)))
      (λ n. All-map (λ (l : In). l.source < length (operations s)) (in_of (all_links s)) (links_by (all_links s) n)
      (All-filter (λ (l : Link). l.reader == n) (λ l. l.source < length (operations s)) (all_links s)
      (All-weaker (λ (l : Link). (l.source < length (operations s)) × (l.reader < length (operations s))) (λ l. l.source < length (operations s)) (λ l h. h.0) (all_links s) (within s met)))))

  readers_given : (n : ℕ) → map (λ (l : Link). l.reader) (filter (λ l. l.source == n) (uncut (all_links s))) ≡ readers_of n rows
  readers_given n =
      ap (map (λ (l : Link). l.reader)) (filter_of_filter (λ (l : Link). l.source == n) (λ l. not (is_cut (all_links s) l)) (all_links s))
      ∙ sym (given (λ m l. m) (λ l. not l.cut && (l.source == n)))

  pub is_table : (order places : List ℕ) → length order ≡ length (operations s) → ArePlaces order places → IsTable rows (reader_rows (all_links s) (length (operations s))) order places
  is_table order places once standing = record {
    readers_are =
        map_alike (λ n. map (λ (l : Link). l.reader) (filter (λ l. l.source == n) (uncut (all_links s)))) (λ n. readers_of n rows) readers_given (range_with_len 0 (length (operations s)))
        ∙ ap (λ count. map (λ n. readers_of n rows) (range_with_len 0 count)) (sym rows_length);
    sources_within = subst (λ count. All (λ row. All (λ (l : In). l.source < count) row) rows) (sym rows_length) sources_within;
    few = omega (arith, rows_count, links_count s met);
    one_each = once ∙ sym rows_length;
    places_are = standing;
  }

  -- ---- an order

  abbrev as_read : Link → Arrow ℕ
  as_read l = record { reader = l.reader; source = l.source; is_reference = false }

  kept_given : kept_reads rows ≡ map as_read (uncut (all_links s))
  kept_given = given (λ n l. record { reader = n; source = l.source; is_reference = false }) (λ l. not l.cut)

  pub order_of_rows : (order : List ℕ) → IsTopologicalOrder (range_with_len 0 (length (operations s))) (kept_of (all_links s)) order → IsTopologicalOrder (range_with_len 0 (length (operations s))) (kept_reads rows) order
  order_of_rows order ordered = record {
    same_nodes = ordered.same_nodes;
    sources_first = λ before after node is read e at.
        let l = element_of_map as_read (uncut (all_links s)) read (subst (λ rs. Contains rs read) kept_given e) in
        let reader : l.0.reader ≡ node = ap (λ (r : Arrow ℕ). r.reader) l.2 ∙ at in
        subst (Contains before) (ap (λ (r : Arrow ℕ). r.source) l.2)
        (ordered.sources_first before after node is (arrow_of l.0) (element_map arrow_of (uncut (all_links s)) l.0 l.1) reader);
  }
