use Rattle.std.proofs.Common.{◌≡◌, ◌<◌, ◌∙◌, ℕ, List, length, subst, sym, ap, arith}
use Rattle.std.specs.Prelude.{◌^◌, IsTrue, IsPermutation}
use Rattle.std.specs.List.{All, range_with_len}
use Rattle.std.proofs.lemmas.List.Elements.{All-weaker}
use Rattle.rig_cycles.specs.Order.{IsTopologicalOrder}
use Rattle.rig_cycles.specs.Walk.{IsAcyclic}
use Rattle.rig_cut.specs.declared.links.Link.{Link}
use Rattle.rig_cut.specs.Links.{inner_of, kept_of}
use Rattle.rig_rows.specs.Rows.{joined}
use Rattle.rig_scene.specs.declared.operation.OpId.{OpId}
use Rattle.rig_scene.specs.Operations.{operations}
use Rattle.rig_scene.specs.Scene.{SceneRecord}
use Rattle.rig_scene.specs.WellFormed.{is_scene}
use Rattle.rig_links.specs.declared.table.In.{In}
use Rattle.rig_links.specs.Links.{AreInsOf, kept_reads}
use Rattle.rig_links.specs.Tables.{IsTable, ArePlaces}
use Rattle.rig_links.specs.Numbers.{all_links}
use Rattle.rig_links.specs.ByKey.{in_rows, reader_rows}
use Rattle.rig_links.proofs.InPlace.{each_once, as_many_as}
use Rattle.rig_links.proofs.SceneLinks.{within, acyclic, few, rows_are_ins}
use Rattle.rig_links.proofs.Tables.{rows_length, rows_count, is_table, order_of_rows}
use Rattle.rig_links.specs.Report.{reads_of_rows}
use Rattle.rig_links.proofs.CutReads.{reads_are_cuts}
use Rattle.rig_links.proofs.builder.links.Goals as goal

pub cut-requires-clause-in_range : goal.cut-requires-clause-in_range
cut-requires-clause-in_range c =
    subst (λ count. All (λ (l : Link). (l.source < count) × (l.reader < count)) c.as_slice.result.now) (sym (c.len-count.ensures ∙ ap length c.requires))
    (subst (λ links. All (λ (l : Link). (l.source < length (operations c.args.scene.now)) × (l.reader < length (operations c.args.scene.now))) links) (sym (c.as_slice.ensures.value ∙ c.in_ok-links.ensures.links))
    (within c.args.scene.now c.in_ok-links.ensures.met))

pub cut-requires-clause-inner : goal.cut-requires-clause-inner
cut-requires-clause-inner c =
    subst (λ links. IsAcyclic (inner_of links)) (sym (c.as_slice.ensures.value ∙ c.in_ok-links.ensures.links)) (acyclic c.args.scene.now c.in_ok-links.ensures.met)

pub cut-requires-clause-few : goal.cut-requires-clause-few
cut-requires-clause-few c =
    subst (λ links. length links < 2 ^ 32) (sym (c.as_slice.ensures.value ∙ c.in_ok-links.ensures.links)) (few c.args.scene.now c.in_ok-links.ensures.met)

pub in_rows-requires-clause-in_range : goal.in_rows-requires-clause-in_range
in_rows-requires-clause-in_range c =
    subst (λ count. All (λ (l : Link). l.reader < count) c.as_slice-2.result.now) (sym (c.len-count.ensures ∙ ap length c.requires))
    (subst (λ links. All (λ (l : Link). l.reader < length (operations c.args.scene.now)) links) (sym (c.as_slice-2.ensures.value ∙ c.in_ok-links.ensures.links))
    (All-weaker (λ (l : Link). (l.source < length (operations c.args.scene.now)) × (l.reader < length (operations c.args.scene.now))) (λ l. l.reader < length (operations c.args.scene.now)) (λ l h. h.1) (all_links c.args.scene.now)
    (within c.args.scene.now c.in_ok-links.ensures.met)))

pub in_rows-requires-clause-few : goal.in_rows-requires-clause-few
in_rows-requires-clause-few c =
    subst (λ links. length links < 2 ^ 32) (sym (c.as_slice-2.ensures.value ∙ c.in_ok-links.ensures.links)) (few c.args.scene.now c.in_ok-links.ensures.met)

pub reader_rows-requires-clause-in_range : goal.reader_rows-requires-clause-in_range
reader_rows-requires-clause-in_range c =
    subst (λ count. All (λ (l : Link). l.source < count) c.as_slice-4.result.now) (sym (c.len-count.ensures ∙ ap length c.requires))
    (subst (λ links. All (λ (l : Link). l.source < length (operations c.args.scene.now)) links) (sym (c.as_slice-4.ensures.value ∙ c.in_ok-links.ensures.links))
    (All-weaker (λ (l : Link). (l.source < length (operations c.args.scene.now)) × (l.reader < length (operations c.args.scene.now))) (λ l. l.source < length (operations c.args.scene.now)) (λ l h. h.0) (all_links c.args.scene.now)
    (within c.args.scene.now c.in_ok-links.ensures.met)))

pub reader_rows-requires-clause-few : goal.reader_rows-requires-clause-few
reader_rows-requires-clause-few c =
    subst (λ links. length links < 2 ^ 32) (sym (c.as_slice-4.ensures.value ∙ c.in_ok-links.ensures.links)) (few c.args.scene.now c.in_ok-links.ensures.met)

ins_are : (s : SceneRecord) (rows : List (List In)) (links : List Link) (count : ℕ) (ops : List OpId) → rows ≡ in_rows links count → links ≡ all_links s → count ≡ length ops → ops ≡ operations s
    → rows ≡ in_rows (all_links s) (length (operations s))
ins_are s rows links count ops is l n o = is ∙ ap (λ ls. in_rows ls count) l ∙ ap (in_rows (all_links s)) (n ∙ ap length o)

readers_are : (s : SceneRecord) (rows : List (List ℕ)) (links : List Link) (count : ℕ) (ops : List OpId) → rows ≡ reader_rows links count → links ≡ all_links s → count ≡ length ops → ops ≡ operations s
    → rows ≡ reader_rows (all_links s) (length (operations s))
readers_are s rows links count ops is l n o = is ∙ ap (λ ls. reader_rows ls count) l ∙ ap (reader_rows (all_links s)) (n ∙ ap length o)

ordered : (s : SceneRecord) (met : IsTrue (is_scene s)) (rows : List (List In)) (links : List Link) (count : ℕ) (ops : List OpId) (order : List ℕ) → rows ≡ in_rows (all_links s) (length (operations s)) → links ≡ all_links s → count ≡ length ops → ops ≡ operations s
    → IsTopologicalOrder (range_with_len 0 count) (kept_of links) order → IsTopologicalOrder (range_with_len 0 (length (operations s))) (kept_reads rows) order
ordered s met rows links count ops order is l n o h =
    subst (λ rs. IsTopologicalOrder (range_with_len 0 (length (operations s))) (kept_reads rs) order) (sym is)
    (order_of_rows s met order
    (subst (λ m. IsTopologicalOrder (range_with_len 0 m) (kept_of (all_links s)) order) (n ∙ ap length o)
    (subst (λ ls. IsTopologicalOrder (range_with_len 0 count) (kept_of ls) order) l h)))

pub places_in-requires-clause-same : goal.places_in-requires-clause-same
places_in-requires-clause-same c =
    subst (λ order. IsPermutation (range_with_len 0 (length order)) order) (sym c.as_slice-6.ensures) (each_once c.len-count.result c.in_ok-cut.cut.order c.in_ok-cut.ensures.order.same_nodes)

pub places_in-requires-clause-few : goal.places_in-requires-clause-few
places_in-requires-clause-few c =
    omega (arith, ap length c.as_slice-6.ensures, as_many_as c.len-count.result c.in_ok-cut.cut.order c.in_ok-cut.ensures.order.same_nodes)

pub invariant_of-result : goal.invariant_of-result
invariant_of-result c =
    let s = c.args.scene.now in
    let order = c.in_ok-cut.cut.order in
    let places = c.in_ok-places.places.items in
    subst (λ readers. IsTable c.in_ok-ins.ins readers order places)
    (sym (readers_are s c.in_ok-readers.readers c.as_slice-4.result.now c.len-count.result c.args.nodes.now c.in_ok-readers.ensures (c.as_slice-4.ensures.value ∙ c.in_ok-links.ensures.links) c.len-count.ensures c.requires))
    (subst (λ ins. IsTable ins (reader_rows (all_links s) (length (operations s))) order places)
    (sym (ins_are s c.in_ok-ins.ins c.as_slice-2.result.now c.len-count.result c.args.nodes.now c.in_ok-ins.ensures (c.as_slice-2.ensures.value ∙ c.in_ok-links.ensures.links) c.len-count.ensures c.requires))
    (is_table s c.in_ok-links.ensures.met order places
    (as_many_as c.len-count.result order c.in_ok-cut.ensures.order.same_nodes ∙ c.len-count.ensures ∙ ap length c.requires)
    (subst (λ os. ArePlaces os places) c.as_slice-6.ensures c.in_ok-places.ensures)))

pub returns-clause-ins : goal.returns-clause-ins
returns-clause-ins c =
    let s = c.args.scene.now in
    subst (AreInsOf s)
    (sym (ins_are s c.in_ok-ins.ins c.as_slice-2.result.now c.len-count.result c.args.nodes.now c.in_ok-ins.ensures (c.as_slice-2.ensures.value ∙ c.in_ok-links.ensures.links) c.len-count.ensures c.requires))
    (rows_are_ins s c.in_ok-links.ensures.met)

pub returns-clause-rows : goal.returns-clause-rows
returns-clause-rows c =
    let s = c.args.scene.now in
    ap length (ins_are s c.in_ok-ins.ins c.as_slice-2.result.now c.len-count.result c.args.nodes.now c.in_ok-ins.ensures (c.as_slice-2.ensures.value ∙ c.in_ok-links.ensures.links) c.len-count.ensures c.requires)
    ∙ rows_length s c.in_ok-links.ensures.met

pub returns-clause-count : goal.returns-clause-count
returns-clause-count c =
    let s = c.args.scene.now in
    ap (λ (rows : List (List In)). length (joined rows)) (ins_are s c.in_ok-ins.ins c.as_slice-2.result.now c.len-count.result c.args.nodes.now c.in_ok-ins.ensures (c.as_slice-2.ensures.value ∙ c.in_ok-links.ensures.links) c.len-count.ensures c.requires)
    ∙ rows_count s c.in_ok-links.ensures.met

pub returns-clause-cuts : goal.returns-clause-cuts
returns-clause-cuts c =
    let s = c.args.scene.now in
    ap (reads_of_rows (operations s)) (ins_are s c.in_ok-ins.ins c.as_slice-2.result.now c.len-count.result c.args.nodes.now c.in_ok-ins.ensures (c.as_slice-2.ensures.value ∙ c.in_ok-links.ensures.links) c.len-count.ensures c.requires)
    ∙ reads_are_cuts s c.in_ok-links.ensures.met (in_rows (all_links s) (length (operations s))) (rows_are_ins s c.in_ok-links.ensures.met)

pub returns-clause-order : goal.returns-clause-order
returns-clause-order c =
    let s = c.args.scene.now in
    ordered s c.in_ok-links.ensures.met c.in_ok-ins.ins c.as_slice.result.now c.len-count.result c.args.nodes.now c.in_ok-cut.cut.order
    (ins_are s c.in_ok-ins.ins c.as_slice-2.result.now c.len-count.result c.args.nodes.now c.in_ok-ins.ensures (c.as_slice-2.ensures.value ∙ c.in_ok-links.ensures.links) c.len-count.ensures c.requires)
    (c.as_slice.ensures.value ∙ c.in_ok-links.ensures.links) c.len-count.ensures c.requires c.in_ok-cut.ensures.order
