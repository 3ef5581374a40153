use Rattle.std.specs.Prelude.{IsPermutation}
use Rattle.std.specs.List.{range_with_len}
use Rattle.std.proofs.Common.{◌≡◌, ℕ, suc, ◌+◌, ◌<◌, ◌++◌, List, [], ◌∷◌, length, map, take, get_or, Some, sym, ap, ◌∙◌, subst, arith, w32, to_z, of_z}
use Rattle.std.proofs.lemmas.Int.{to_z-of_z}
use Rattle.std.proofs.lemmas.List.{map-append, map_more, take_all}
use Rattle.rig_flush.specs.ByNumber.{IsNext}
use Rattle.rig_flush.specs.Counted.{raised_by}
use Rattle.rig_io.specs.Faults.{raised}
use Rattle.rig_scene.specs.declared.operation.OpId.{OpId}
use Rattle.rig_scene.specs.Operations.{operations}
use Rattle.rig_graph.specs.Given.{next_given}
use Rattle.rig_graph.specs.Parts.{IsPlanned, given, output_at_number}
use Rattle.rig_graph.proofs.run.run_reached.Goals as goal

-- a count that rose once more
raised_once_more : (i start before after : ℕ) → before ≡ raised_by i start → after ≡ raised before → after ≡ raised_by (i + 1) start
raised_once_more i start before after so_far more =
    more ∙ ap raised so_far ∙ ap (λ n. raised_by n start) {x = suc i} {y = i + 1} (omega arith)

pub run_node-requires-clause-next : goal.run_node-requires-clause-next
run_node-requires-clause-next g c =
    let copy = c.args.copy.now in
    let frame = to_z w32 (of_z w32 c.args.frame) in
    let members = c.args.reached.now.members in
    let same = c.requires.copy.tables.same in
    let place = c.loop-place.place in
    let within : place < length members = omega (arith, c.loop-place-test.true, c.len-place-end.ensures.len) in
    let planned =
    subst (λ f. IsPlanned copy.scene c.args.mode f copy.links.order members c.args.copies.now.kept)
    (sym (to_z-of_z w32 c.args.frame c.ranges.frame)) c.requires.planned in
    let permutes =
    subst (λ (ops : List OpId). IsPermutation (range_with_len 0 (length ops)) copy.links.order) same
    c.requires.copy.tables.fit.order.same_nodes in
    let next =
    next_given copy.scene c.args.mode frame copy.links.order members c.args.copies.now.kept planned permutes
    c.loop-place.results.items place within c.loop-place.invariant.results in
    let count = ap length same in
    let results = c.as_slice.ensures.value in
    let kept = ap (λ copies. copies.kept) c.loop-place.invariant.copies in
    let now = given (length copy.nodes) members c.as_slice.result.now c.loop-place.copies.kept in
    let all : given (length (operations copy.scene)) members c.loop-place.results.items c.args.copies.now.kept ≡ now =
    λ i. given (sym count i) members (sym results i) (sym kept i) in
    subst (λ n. IsNext copy.scene c.args.mode frame copy.links.order now n) (sym c.get-n.ensures.member)
    (subst (λ all. IsNext copy.scene c.args.mode frame copy.links.order all (get_or members place 0)) all next)

pub loop-place-preserved : goal.loop-place-preserved
loop-place-preserved g c =
    let scratch = output_at_number c.args.copy.now.scene c.args.mode (to_z w32 (of_z w32 c.args.frame)) in
    let members = c.args.reached.now.members in
    let place = c.loop-place.place in
    let within : place < length members = omega (arith, c.loop-place-test.true, c.len-place-end.ensures.len) in
    let out = c.in_ok-out.out in
    record {
      results = ap (map Some) c.push_reserved.ensures.items
          ∙ map-append Some c.loop-place.results.items (out ∷ [])
          ∙ ap (λ l. l ++ Some out ∷ []) c.loop-place.invariant.results
          ∙ ap (λ o. map scratch (take place members) ++ o ∷ []) (sym c.in_ok-out.ensures.value ∙ ap scratch c.get-n.ensures.member)
          ∙ sym (map_more scratch members place 0 within);
      copies = c.in_ok-out.ensures.copies ∙ c.loop-place.invariant.copies;
      tally = raised_once_more place (g.Y.Tally.count c.args.tally.now) (g.Y.Tally.count c.loop-place.tally) _
          c.loop-place.invariant.tally c.in_ok-out.ensures.tick;
      len = omega (arith, c.push_reserved.ensures.len, c.loop-place.invariant.len);
      room = omega (arith, c.push_reserved.ensures.capacity, c.loop-place.invariant.room);
    }

pub returns-clause-results : goal.returns-clause-results
returns-clause-results g c =
    let members = c.args.reached.now.members in
    c.loop-place.invariant.results
    ∙ ap (map (output_at_number c.args.copy.now.scene c.args.mode (to_z w32 (of_z w32 c.args.frame))))
    (take_all c.loop-place.place members (omega (arith, c.loop-place-test.false, c.len-place-end.ensures.len)))
    ∙ ap (λ f. map (output_at_number c.args.copy.now.scene c.args.mode f) members) (to_z-of_z w32 c.args.frame c.ranges.frame)
