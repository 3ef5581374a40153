-- The cut reads that a scene's cut in-links stand for are its cut reads.
use Rattle.std.proofs.Common.{◌≡◌, ℕ, suc, ◌+◌, ◌<◌, ◌≤◌, Bool, true, false, List, [], ◌∷◌, ◌++◌, length, map, filter, drop, Option, Some, None, refl, sym, ap, ◌∙◌, arith, cond}
use Rattle.std.specs.Prelude.{slice_get, option_map, IsTrue, if◌then◌else◌}
use Rattle.std.specs.Option.{option_map_or}
use Rattle.std.specs.List.{flat_map, enumerate_from}
use Rattle.std.proofs.lemmas.List.{append_assoc, append-nil, at_drop_more, drop_all}
use Rattle.std.proofs.lemmas.Grind.{flat_map-append}
use Rattle.std.proofs.lemmas.Option.{get_or_from_slice_get}
use Rattle.rig_cycles.specs.Cut.{Arrow}
use Rattle.rig_scene.specs.declared.operation.OpId.{OpId}
use Rattle.rig_scene.specs.declared.quantity.CutRead.{CutRead}
use Rattle.rig_scene.specs.Cut.{cuts}
use Rattle.rig_scene.specs.Operations.{InLink, operations, operation_of, ins}
use Rattle.rig_scene.specs.Order.{quantity_of-operation_of}
use Rattle.rig_scene.specs.Scene.{SceneRecord}
use Rattle.rig_scene.specs.StandsFor.{quantity_of}
use Rattle.rig_scene.specs.WellFormed.{is_scene}
use Rattle.rig_laws.specs.CutLinks.{cut_links_are_cuts}
use Rattle.rig_laws.specs.LinkArrows.{reference_link}
use Rattle.rig_links.specs.declared.table.In.{In}
use Rattle.rig_links.specs.Links.{link_named, AreInsOf}
use Rattle.rig_links.specs.Report.{read_between, cut_read, read_of_link, reads_of_row, reads_of_rows}

-- ---- one row more

abbrev reads_from : List OpId → ℕ → List (List In) → List CutRead
reads_from ops n rows = flat_map (λ e. option_map_or (λ reader. reads_of_row ops reader e.1) (slice_get ops e.0) []) (enumerate_from n rows)

pub one_row_more : (ops : List OpId) (rows : List (List In)) (n : ℕ) (reader : OpId) (row : List In) (list more all : List CutRead) → n < length rows → slice_get rows n ≡ Some row → slice_get ops n ≡ Some reader
    → list ++ reads_from ops n (drop n rows) ≡ all → more ≡ list ++ reads_of_row ops reader row → more ++ reads_from ops (n + 1) (drop (n + 1) rows) ≡ all
one_row_more ops rows n reader row list more all h at there all_is more_is =
    ap (λ l. l ++ reads_from ops (n + 1) (drop (n + 1) rows)) more_is
    ∙ append_assoc list (reads_of_row ops reader row) (reads_from ops (n + 1) (drop (n + 1) rows))
    ∙ ap (λ o. list ++ (option_map_or (λ reader. reads_of_row ops reader row) o [] ++ reads_from ops (n + 1) (drop (n + 1) rows))) (sym there)
    ∙ ap (λ r. list ++ reads_from ops n (r ∷ drop (n + 1) rows)) (sym (get_or_from_slice_get rows n row [] at))
    ∙ sym (at_drop_more (λ l. list ++ reads_from ops n l) rows n [] h)
    ∙ all_is

pub all_rows : (ops : List OpId) (rows : List (List In)) (n : ℕ) (list all : List CutRead) → length rows ≤ n → list ++ reads_from ops n (drop n rows) ≡ all → list ≡ all
all_rows ops rows n list all h is = sym (append-nil list) ∙ ap (λ l. list ++ reads_from ops n l) (sym (drop_all n rows h)) ∙ is

-- ---- a row of named links

-- the read that an in-link of an operation stands for, where it is cut
abbrev read_of_in : OpId → InLink → List CutRead
read_of_in reader l = if l.cut then cut_read l.op reader else []

some_named : (ops : List OpId) (l : In) (link : InLink) → link_named ops l ≡ Some link → (source : Option OpId) → slice_get ops l.source ≡ source → (slice_get ops l.source ≡ Some link.op) × (l.cut ≡ link.cut)
some_named ops l link is None e = absurd (let no : Some link ≡ None = sym is ∙ ap (option_map (λ op. record { op = op; cut = l.cut })) e in cc)
some_named ops l link is (Some op) e =
    let same : Some (record { op = op; cut = l.cut }) ≡ Some link = sym (ap (option_map (λ op. record { op = op; cut = l.cut })) e) ∙ is in
    let link_is : record { op = op; cut = l.cut } ≡ link = cc in
    (e ∙ ap (λ (k : InLink). Some k.op) link_is, ap (λ (k : InLink). k.cut) link_is)

one_read : (ops : List OpId) (reader : OpId) (l : In) (link : InLink) → link_named ops l ≡ Some link → read_of_link ops reader l ≡ read_of_in reader link
one_read ops reader l link is =
    let parts = some_named ops l link is (slice_get ops l.source) refl in
    ap (λ o. if l.cut then option_map_or (λ source. cut_read source reader) o [] else []) parts.0 ∙ ap (λ b. if b then cut_read link.op reader else []) parts.1

first_of : {A : Type 0} (x y : A) (xs ys : List A) → x ∷ xs ≡ y ∷ ys → (x ≡ y) × (xs ≡ ys)
first_of x y xs ys e = (cc, cc)

row_reads : (ops : List OpId) (reader : OpId) (row : List In) (links : List InLink) → map (link_named ops) row ≡ map Some links → reads_of_row ops reader row ≡ flat_map (read_of_in reader) links
row_reads ops reader [] [] e = refl
row_reads ops reader [] (link ∷ links) e = absurd (cc)
row_reads ops reader (l ∷ row) [] e = absurd (cc)
row_reads ops reader (l ∷ row) (link ∷ links) e =
    let parts = first_of (link_named ops l) (Some link) (map (link_named ops) row) (map Some links) e in
    ap (λ r. r ++ reads_of_row ops reader row) (one_read ops reader l link parts.0) ∙ ap (λ r. read_of_in reader link ++ r) (row_reads ops reader row links parts.1)

-- ---- the rows of a scene

module _ (s : SceneRecord) where
  named_reads : (ops : List OpId) (n : ℕ) (xs : List OpId) (rows : List (List In)) → ((k : ℕ) → k < length xs → slice_get ops (n + k) ≡ slice_get xs k)
      → map (map (link_named ops)) rows ≡ map (λ op. map Some (ins s op)) xs → reads_from ops n rows ≡ flat_map (λ op. flat_map (read_of_in op) (ins s op)) xs
  named_reads ops n [] [] at e = refl
  named_reads ops n [] (row ∷ rows) at e = absurd (cc)
  named_reads ops n (op ∷ xs) [] at e = absurd (cc)
  named_reads ops n (op ∷ xs) (row ∷ rows) at e =
      let parts = first_of (map (link_named ops) row) (map Some (ins s op)) (map (map (link_named ops)) rows) (map (λ op. map Some (ins s op)) xs) e in
      let there : slice_get ops n ≡ Some op = ap (slice_get ops) {y = n + 0} (omega arith) ∙ at 0 (omega arith) in
      ap (λ o. option_map_or (λ reader. reads_of_row ops reader row) o [] ++ reads_from ops (n + 1) rows) there
      ∙ ap (λ r. r ++ reads_from ops (n + 1) rows) (row_reads ops op row (ins s op) parts.0)
      ∙ ap (λ r. flat_map (read_of_in op) (ins s op) ++ r) (named_reads ops (n + 1) xs rows (λ k h. ap (slice_get ops) {y = n + suc k} (omega arith) ∙ at (suc k) (omega arith)) parts.1)

  -- ---- the cut links of a scene

  abbrev read_of_arrow : Arrow OpId → List CutRead
  read_of_arrow a = cut_read a.source a.reader

  cut_ones : (op : OpId) (links : List InLink) → flat_map (read_of_in op) links ≡ flat_map read_of_arrow (map (λ l. reference_link op l.op) (filter (λ l. l.cut) links))
  cut_ones op [] = refl
  cut_ones op (l ∷ links) = by l.cut (cut_ones op links)
    where
      by : (b : Bool) → flat_map (read_of_in op) links ≡ flat_map read_of_arrow (map (λ l. reference_link op l.op) (filter (λ l. l.cut) links))
          → (if b then cut_read l.op op else []) ++ flat_map (read_of_in op) links ≡ flat_map read_of_arrow (map (λ l. reference_link op l.op) (cond b (l ∷ filter (λ l. l.cut) links) (filter (λ l. l.cut) links)))
      by true rest = ap (λ r. cut_read l.op op ++ r) rest
      by false rest = rest

  all_cut_ones : (xs : List OpId) → flat_map (λ op. flat_map (read_of_in op) (ins s op)) xs ≡ flat_map read_of_arrow (flat_map (λ op. map (λ l. reference_link op l.op) (filter (λ l. l.cut) (ins s op))) xs)
  all_cut_ones [] = refl
  all_cut_ones (op ∷ xs) =
      ap (λ r. r ++ flat_map (λ op. flat_map (read_of_in op) (ins s op)) xs) (cut_ones op (ins s op))
      ∙ ap (λ r. flat_map read_of_arrow (map (λ l. reference_link op l.op) (filter (λ l. l.cut) (ins s op))) ++ r) (all_cut_ones xs)
      ∙ sym (flat_map-append read_of_arrow (map (λ l. reference_link op l.op) (filter (λ l. l.cut) (ins s op))) (flat_map (λ op. map (λ l. reference_link op l.op) (filter (λ l. l.cut) (ins s op))) xs))

  of_cuts : (list : List CutRead) → flat_map read_of_arrow (map (λ c. reference_link (operation_of c.reader) (operation_of c.source)) list) ≡ list
  of_cuts [] = refl
  of_cuts (c ∷ list) =
      ap (λ o. read_between o (quantity_of (operation_of c.reader)) ++ flat_map read_of_arrow (map (λ c. reference_link (operation_of c.reader) (operation_of c.source)) list)) (quantity_of-operation_of c.source)
      ∙ ap (λ o. read_between (Some c.source) o ++ flat_map read_of_arrow (map (λ c. reference_link (operation_of c.reader) (operation_of c.source)) list)) (quantity_of-operation_of c.reader)
      ∙ ap (λ r. c ∷ r) (of_cuts list)

  pub reads_are_cuts : IsTrue (is_scene s) → (rows : List (List In)) → AreInsOf s rows → reads_of_rows (operations s) rows ≡ cuts s
  reads_are_cuts met rows are =
      named_reads (operations s) 0 (operations s) rows (λ k h. ap (slice_get (operations s)) {x = 0 + k} (omega arith)) are
      ∙ all_cut_ones (operations s)
      ∙ ap (flat_map read_of_arrow) (cut_links_are_cuts s met)
      ∙ of_cuts (cuts s)
