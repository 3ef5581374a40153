use Rattle.std.proofs.Common.{◌≡◌, ◌<◌, ◌+◌, ◌-◌, ℕ, refl, length, take, ap, sym, subst, ◌∙◌, arith}
use Rattle.std.specs.Prelude.{slice_index}
use Rattle.std.specs.List.{count_by}
use Rattle.std.proofs.lemmas.List.{get_or-set_same}
use Rattle.rig_cut.specs.NodeSets.{Begins, with_node}
use Rattle.rig_cut.specs.Release.{is_kept_into, AreReady}
use Rattle.rig_cut.specs.MemberTests.{begins_then, with_node_begins}
use Rattle.rig_cut.proofs.Releases.{counts_kept, counts_cut, is_pending, ready_none, ready_some}
use Rattle.rig_cut.proofs.order.release.Goals as goal
use Rattle.rig_cut.proofs.order.release.Goals.{then-not-cuts-link+then-pending-reader-eq0, then-not-cuts-link+else-pending-reader-eq0, else-not-cuts-link}

pub overflow_sub-pending : goal.overflow_sub-pending
overflow_sub-pending c =
    let g = c.args.graph.now in
    let links = c.args.links.now in
    let i = c.loop-link.link-index in
    let j = slice_index links i in
    let pending = c.loop-link.pending in
    let all : length pending ≡ g.nodes = omega arith in
    let readers = c.readers-readers.ensures.readers in
    let below : j < length c.readers-readers.result.now = omega (arith, c.requires.in_range i 0 c.loop-link-test.true) in
    is_pending g c.args.cuts.now links i j c.loop-link-test.true refl pending c.args.pending.now all c.loop-link.invariant.pending
    (slice_index c.readers-readers.result.now j) (ap (λ l. slice_index l j) (sym readers)) (c.readers-readers.ensures.below j 0 below) c.if-not-cuts-link.true c.requires.pending

pub loop-link-preserved : goal.loop-link-preserved
loop-link-preserved c =
    let g = c.args.graph.now in
    let cuts = c.args.cuts.now in
    let links = c.args.links.now in
    let i = c.loop-link.link-index in
    let j = slice_index links i in
    let h : i < length links = c.loop-link-test.true in
    let pending = c.loop-link.pending in
    let all : length pending ≡ g.nodes = omega arith in
    let before = c.loop-link.invariant in
    let at = ap (λ l. slice_index l j) (sym c.readers-readers.ensures.readers) in
    let below : j < length c.readers-readers.result.now = omega (arith, c.requires.in_range i 0 h) in
    let r = slice_index c.readers-readers.result.now j in
    let reader = c.readers-readers.ensures.below j 0 below in
    let within : r < length pending = omega arith in
    let p = slice_index pending r - 1 in
    elim c.if-not-cuts-link.branch [
      | then-not-cuts-link+then-pending-reader-eq0 w ↦
          let kept = w.if-not-cuts-link.true in
          let positive = is_pending g cuts links i j h refl pending c.args.pending.now all before.pending r at reader kept c.requires.pending in
          let order = ap (λ o. o.members) w.order-is ∙ w.add.ensures.members in
          record {
            count = ap (λ o. o.count) w.order-is ∙ w.add.ensures.count ∙ before.count;
            pending = subst (λ q. (n : ℕ) → n < g.nodes → slice_index q n + count_by (is_kept_into g cuts n) (take (i + 1) links) ≡ slice_index c.args.pending.now n) (sym w.pending-is)
                (counts_kept g cuts links i j h refl pending c.args.pending.now all before.pending r at reader kept positive);
            ready = subst (λ m. AreReady g.nodes c.if-not-cuts-link.pending m) (sym order)
                (subst (λ q. AreReady g.nodes q (with_node c.loop-link.order.members r)) (sym w.pending-is)
                (ready_none g.nodes pending c.loop-link.order.members r p within before.ready (sym (get_or-set_same pending r p 0 within) ∙ w.if-pending-reader-eq0.true)));
            first = subst (λ m. Begins c.args.order.now.members m) (sym order)
                (begins_then c.args.order.now.members c.loop-link.order.members (with_node c.loop-link.order.members r) before.first (with_node_begins c.loop-link.order.members r));
          }
      | then-not-cuts-link+else-pending-reader-eq0 w ↦
          let kept = w.if-not-cuts-link.true in
          let positive = is_pending g cuts links i j h refl pending c.args.pending.now all before.pending r at reader kept c.requires.pending in
          let order = ap (λ o. o.members) w.order-is in
          record {
            count = ap (λ o. o.count) w.order-is ∙ before.count;
            pending = subst (λ q. (n : ℕ) → n < g.nodes → slice_index q n + count_by (is_kept_into g cuts n) (take (i + 1) links) ≡ slice_index c.args.pending.now n) (sym w.pending-is)
                (counts_kept g cuts links i j h refl pending c.args.pending.now all before.pending r at reader kept positive);
            ready = subst (λ m. AreReady g.nodes c.if-not-cuts-link.pending m) (sym order)
                (subst (λ q. AreReady g.nodes q c.loop-link.order.members) (sym w.pending-is)
                (ready_some g.nodes pending c.loop-link.order.members r p within before.ready reader positive (λ e. w.if-pending-reader-eq0.false (get_or-set_same pending r p 0 within ∙ e))));
            first = subst (λ m. Begins c.args.order.now.members m) (sym order) before.first;
          }
      | else-not-cuts-link w ↦
          let order = ap (λ o. o.members) w.order-is in
          record {
            count = ap (λ o. o.count) w.order-is ∙ before.count;
            pending = subst (λ q. (n : ℕ) → n < g.nodes → slice_index q n + count_by (is_kept_into g cuts n) (take (i + 1) links) ≡ slice_index c.args.pending.now n) (sym w.pending-is)
                (counts_cut g cuts links i j h refl pending c.args.pending.now all before.pending w.if-not-cuts-link.false);
            ready = subst (λ m. AreReady g.nodes c.if-not-cuts-link.pending m) (sym order) (subst (λ q. AreReady g.nodes q c.loop-link.order.members) (sym w.pending-is) before.ready);
            first = subst (λ m. Begins c.args.order.now.members m) (sym order) before.first;
          }
    ]
