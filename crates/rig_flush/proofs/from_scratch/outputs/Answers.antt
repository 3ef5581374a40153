use Rattle.std.proofs.Common.{Some, length, map, slice_index_or, refl, sym, ap, ◌∙◌, subst, arith, w32, to_z, of_z}
use Rattle.std.proofs.lemmas.Int.{to_z-of_z}
use Rattle.std.proofs.lemmas.List.{length-set}
use Rattle.rig_scene.specs.Operations.{operations}
use Rattle.rig_flush.specs.ByNumber.{IsNext}
use Rattle.rig_flush.specs.Counted.{raised_by}
use Rattle.rig_flush.specs.Shown.{output_of}
use Rattle.rig_flush.proofs.Evaluated.{raised_once_more, one_more_kept, all_counted, is_next, all_kept}
use Rattle.rig_flush.specs.Inputs.{next_within}
use Rattle.rig_flush.proofs.from_scratch.outputs.Goals as goal

pub output-requires-clause-next : goal.output-requires-clause-next
output-requires-clause-next g c =
    let s = c.args.scene.now in
    let n = slice_index_or c.order-n-items.result.now c.loop-n.n-index 0 in
    subst (λ kept. IsNext s c.args.mode (to_z w32 (of_z w32 c.args.frame)) c.args.links.now.order kept n) (sym c.as_slice.ensures.value)
    (is_next s c.args.mode (to_z w32 (of_z w32 c.args.frame)) c.args.nodes.now c.args.links.now c.requires.links c.order-n-items.result.now c.order-n-items.ensures
    c.loop-n.kept.items c.loop-n.n-index c.loop-n-test.true c.loop-n.invariant.0 c.loop-n.invariant.1)

pub index_mut-requires : goal.index_mut-requires
index_mut-requires g c =
    let s = c.args.scene.now in
    let next = is_next s c.args.mode (to_z w32 (of_z w32 c.args.frame)) c.args.nodes.now c.args.links.now c.requires.links c.order-n-items.result.now c.order-n-items.ensures
    c.loop-n.kept.items c.loop-n.n-index c.loop-n-test.true c.loop-n.invariant.0 c.loop-n.invariant.1 in
    let within = next_within s c.requires.scene c.args.nodes.now c.args.links.now c.requires.links c.args.mode (to_z w32 (of_z w32 c.args.frame)) c.loop-n.kept.items
    (slice_index_or c.order-n-items.result.now c.loop-n.n-index 0) next in
    omega (arith, within, c.loop-n.invariant.0, c.as_slice.ensures.len, ap length c.as_slice.ensures.value)

pub loop-n-preserved : goal.loop-n-preserved
loop-n-preserved g c =
    let s = c.args.scene.now in
    let n = slice_index_or c.order-n-items.result.now c.loop-n.n-index 0 in
    let next = is_next s c.args.mode (to_z w32 (of_z w32 c.args.frame)) c.args.nodes.now c.args.links.now c.requires.links c.order-n-items.result.now c.order-n-items.ensures
    c.loop-n.kept.items c.loop-n.n-index c.loop-n-test.true c.loop-n.invariant.0 c.loop-n.invariant.1 in
    let within = next_within s c.requires.scene c.args.nodes.now c.args.links.now c.requires.links c.args.mode (to_z w32 (of_z w32 c.args.frame)) c.loop-n.kept.items n next in (
      length-set c.loop-n.kept.items n (Some c.in_ok-out.out) ∙ c.loop-n.invariant.0,
      one_more_kept s c.args.mode (to_z w32 (of_z w32 c.args.frame)) c.loop-n.kept.items n c.in_ok-out.out c.in_ok-out.ensures.value (omega (arith, within, c.loop-n.invariant.0)) c.order-n-items.result.now c.loop-n.n-index c.loop-n-test.true refl
          c.loop-n.invariant.1,
      raised_once_more c.loop-n.n-index (g.Y.Tally.count c.args.tally.now) (g.Y.Tally.count c.loop-n.tally) _ c.loop-n.invariant.2 c.in_ok-out.ensures.tick,
    )

pub returns-clause-kept : goal.returns-clause-kept
returns-clause-kept g c =
    let s = c.args.scene.now in
    all_kept s c.args.mode (to_z w32 (of_z w32 c.args.frame)) c.args.nodes.now c.args.links.now c.requires.links c.order-n-items.result.now c.order-n-items.ensures
    c.loop-n.kept.items c.loop-n.n-index c.loop-n-test.false c.loop-n.invariant.0 c.loop-n.invariant.1
    ∙ ap (λ f. map (λ op. Some (output_of s c.args.mode f op)) (operations s)) (to_z-of_z w32 c.args.frame c.ranges.frame)

pub returns-clause-tally : goal.returns-clause-tally
returns-clause-tally g c =
    c.loop-n.invariant.2
    ∙ ap (λ i. raised_by i (g.Y.Tally.count c.args.tally.now))
    (all_counted c.args.scene.now c.args.mode (to_z w32 (of_z w32 c.args.frame)) c.args.nodes.now c.args.links.now c.requires.links c.order-n-items.result.now c.order-n-items.ensures
    c.loop-n.n-index c.loop-n.auto.n-index-end c.loop-n-test.false)
