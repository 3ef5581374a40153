use Rattle.std.proofs.Common.{◌≡◌, ◌<◌, ◌+◌, ℕ, length, take, ap, sym, subst, ◌∙◌, arith}
use Rattle.std.specs.Prelude.{slice_index, slice_set}
use Rattle.std.specs.List.{count_by, range_with_len}
use Rattle.rig_cut.specs.Release.{is_kept_into}
use Rattle.std.proofs.lemmas.List.{get_or_read, length-set}
use Rattle.rig_cut.proofs.Releases.{count_fits, counted_cut, counted_kept, counted_all}
use Rattle.rig_cut.proofs.order.pending_counts.Goals as goal
use Rattle.rig_cut.proofs.order.pending_counts.Goals.{then-not-cuts-link, else-not-cuts-link}

pub overflow_add-index_mut : goal.overflow_add-index_mut
overflow_add-index_mut c =
    let g = c.args.graph.now in
    let i = c.loop-link.link in
    let readers = c.readers-readers.result.now in
    let len = c.readers-readers.ensures.len in
    let h : i < length g.sources = omega arith in
    let r = slice_index readers i in
    let reader = c.readers-readers.ensures.below i 0 c.loop-link-test.true in
    let all = c.loop-link.invariant.len in
    let is = get_or_read c.loop-link.pending.items r c.index_mut.result.now (omega arith) c.index_mut.ensures.value 0 in
    let fits = count_fits g c.args.cuts.now i h c.loop-link.pending.items all c.loop-link.invariant.counts r reader in
    let few = c.readers-readers.ensures.few in
    omega arith

pub loop-link-preserved : goal.loop-link-preserved
loop-link-preserved c =
    let g = c.args.graph.now in
    let i = c.loop-link.link in
    let readers = c.readers-readers.result.now in
    let len = c.readers-readers.ensures.len in
    let h : i < length g.sources = omega arith in
    let r = slice_index readers i in
    let reader = c.readers-readers.ensures.below i 0 c.loop-link-test.true in
    let all = c.loop-link.invariant.len in
    let counts = c.loop-link.invariant.counts in
    let old = c.loop-link.pending.items in
    let whole = range_with_len 0 (length g.sources) in
    elim c.if-not-cuts-link.branch [
      | then-not-cuts-link w ↦
          let within : r < length old = omega arith in
          let is = get_or_read old r w.index_mut.result.now within w.index_mut.ensures.value 0 in
          let items : c.if-not-cuts-link.pending.items ≡ slice_set old r (slice_index old r + 1) = ap (λ v. v.items) w.pending-is ∙ ap (λ x. slice_set old r (x + 1)) is in
          record {
            len = ap length items ∙ length-set old r (slice_index old r + 1) ∙ all;
            counts = subst (λ q. (n : ℕ) → n < g.nodes → slice_index q n ≡ count_by (is_kept_into g c.args.cuts.now n) (take (i + 1) whole)) (sym items)
                (counted_kept g c.args.cuts.now i h old all counts r (ap (λ l. slice_index l i) (sym c.readers-readers.ensures.readers)) reader w.if-not-cuts-link.true);
          }
      | else-not-cuts-link w ↦
          let items = ap (λ v. v.items) w.pending-is in
          record {
            len = ap length items ∙ all;
            counts = subst (λ q. (n : ℕ) → n < g.nodes → slice_index q n ≡ count_by (is_kept_into g c.args.cuts.now n) (take (i + 1) whole)) (sym items)
                (counted_cut g c.args.cuts.now i h old all counts w.if-not-cuts-link.false);
          }
    ]

pub returns-clause-counts : goal.returns-clause-counts
returns-clause-counts c n node =
    let g = c.args.graph.now in
    let len = c.readers-readers.ensures.len in
    let end : c.loop-link.link ≡ length g.sources = omega arith in
    c.loop-link.invariant.counts n node
    ∙ ap (λ i. count_by (is_kept_into g c.args.cuts.now n) (take i (range_with_len 0 (length g.sources)))) end
    ∙ counted_all g c.args.cuts.now n
