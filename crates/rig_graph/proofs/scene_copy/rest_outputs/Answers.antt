use Rattle.std.proofs.Common.{◌≡◌, ◌≢◌, ℕ, ◌+◌, ◌<◌, List, true, Some, sym, ap, ◌∙◌, subst, arith, ⊎_elim}
use Rattle.std.specs.Prelude.{slice_get, option_map}
use Rattle.std.specs.List.{All, Contains}
use Rattle.std.proofs.lemmas.Bool.{cases_eq}
use Rattle.std.proofs.lemmas.Option.{same_Some}
use Rattle.rig_copies.specs.Copies.{kept_at}
use Rattle.rig_laws.specs.Output.{rest_output}
use Rattle.rig_links.specs.declared.table.In.{In}
use Rattle.rig_graph.specs.CutSources.{cut_sources}
use Rattle.rig_graph.proofs.scene_copy.rest_outputs.Goals as goal

-- what holds of the in-links in the rows before one, and in that one, holds of all up to it
one_row_more : (P : In → Type 0) (rows : List (List In)) (n : ℕ) (row : List In) → slice_get rows n ≡ Some row
    → ((k : ℕ) (r : List In) → k < n → slice_get rows k ≡ Some r → (l : In) → Contains r l → P l) → ((l : In) → Contains row l → P l)
    → (k : ℕ) (r : List In) → k < n + 1 → slice_get rows k ≡ Some r → (l : In) → Contains r l → P l
one_row_more P rows n row is before here k r h at = ⊎_elim
    (λ (same : k ≡ n). subst (λ (r : List In). (l : In) → Contains r l → P l)
    (same_Some row r (sym is ∙ ap (slice_get rows) (sym same) ∙ at)) here)
    (λ (apart : k ≢ n). before k r (omega arith) at)
    (cases_eq k n)

pub add_rests-requires-clause-within : goal.add_rests-requires-clause-within
add_rests-requires-clause-within c =
    subst (λ (count : ℕ). All (λ l. l.source < count) c.ins.result.now) c.requires.tables.fit.rows c.ins.ensures.within

pub add_rests-requires-clause-quantities : goal.add_rests-requires-clause-quantities
add_rests-requires-clause-quantities c =
    cut_sources c.args.scene.now c.requires.scene c.args.nodes.now c.args.links.now c.requires.tables c.loop-n.n c.ins.result.now
    c.ins.ensures.row

pub loop-n-preserved : goal.loop-n-preserved
loop-n-preserved c = record {
  one_each = c.in_ok-add_rests.ensures.one_each;
  added = one_row_more
      (λ l. l.cut ≡ true → kept_at c.add_rests.new.rests.items l.source ≡ option_map rest_output (slice_get c.args.nodes.now l.source))
      c.args.links.now.ins c.loop-n.n c.ins.result.now c.ins.ensures.row
      (λ k r h at l within cut. c.in_ok-add_rests.ensures.others l.source (c.loop-n.invariant.added k r h at l within cut))
      c.in_ok-add_rests.ensures.added;
}
