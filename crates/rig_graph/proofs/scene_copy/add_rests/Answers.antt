use Rattle.std.proofs.Common.{◌≡◌, ◌≢◌, ℕ, ◌+◌, ◌<◌, List, length, get_or, true, false, sym, ap, ◌∙◌, subst, arith, ⊎_elim}
use Rattle.std.specs.Prelude.{slice_get, option_map}
use Rattle.std.proofs.lemmas.Bool.{cases_eq}
use Rattle.std.proofs.lemmas.List.{get_or_default}
use Rattle.rig_copies.specs.Copies.{kept_at}
use Rattle.rig_laws.specs.Output.{rest_output}
use Rattle.rig_links.specs.declared.table.In.{In}
use Rattle.rig_graph.proofs.scene_copy.add_rests.Goals as goal

-- what holds of the in-links before one, and of that one, holds of all up to it
one_link_more : (P : In → Type 0) (row : List In) (i : ℕ) (e : In) → i < length row
    → ((d : In) (k : ℕ) → k < i → P (get_or row k d)) → P (get_or row i e)
    → (d : In) (k : ℕ) → k < i + 1 → P (get_or row k d)
one_link_more P row i e l before here d k h = ⊎_elim
    (λ (same : k ≡ i). subst P (get_or_default row i e d l ∙ ap (λ n. get_or row n d) (sym same)) here)
    (λ (apart : k ≢ i). before d k (omega arith))
    (cases_eq k i)

pub loop-link-preserved : goal.loop-link-preserved
loop-link-preserved c = record {
  one_each = c.in_ok-add_rest.ensures.one_each;
  added = one_link_more
      (λ l. l.cut ≡ true → kept_at c.add_rest.new.rests.items l.source ≡ option_map rest_output (slice_get c.args.nodes.now l.source))
      c.args.row.now c.loop-link.link-index (record { source = 0; cut = false }) c.loop-link-test.true
      (λ d k h cut. c.in_ok-add_rest.ensures.others (get_or c.args.row.now k d).source (c.loop-link.invariant.added d k h cut))
      c.in_ok-add_rest.ensures.added;
  others = λ n at. c.in_ok-add_rest.ensures.others n (c.loop-link.invariant.others n at);
}
