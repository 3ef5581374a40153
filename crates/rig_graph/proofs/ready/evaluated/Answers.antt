use Rattle.std.specs.Prelude.{IsSome}
use Rattle.std.specs.List.{All}
use Rattle.std.proofs.Common.{◌≡◌, map, Some, sym, subst, w32}
use Rattle.std.proofs.lemmas.Int.{to_z-of_z}
use Rattle.rig_copies.specs.Copies.{KeptOutputs}
use Rattle.rig_graph.specs.Parts.{given_at, output_at_number}
use Rattle.rig_graph.specs.ToShow.{all_to_show}
use Rattle.rig_graph.proofs.ready.evaluated.Goals as goal

pub next_frame-requires-clause-there : goal.next_frame-requires-clause-there
next_frame-requires-clause-there g c =
    let copy = c.args.copy.now in
    let numbers = c.args.reached.now.members in
    let results = c.in_ok-results.results.items in
    let ran = subst (λ f. map Some results ≡ map (output_at_number copy.scene c.args.mode f) numbers) (to_z-of_z w32 c.args.frame c.ranges.frame)
    c.in_ok-results.ensures.results in
    subst (λ (copies : KeptOutputs). All (λ n. IsSome (given_at numbers c.as_slice.result.now copies.kept n)) copy.shown.members) (sym c.run_reached.ensures.copies)
    (subst (λ outs. All (λ n. IsSome (given_at numbers outs c.args.copies.now.kept n)) copy.shown.members) (sym c.as_slice.ensures.value)
    (all_to_show copy c.args.mode c.args.frame numbers c.args.copies.now.kept results c.requires.copy c.requires.planned ran))
