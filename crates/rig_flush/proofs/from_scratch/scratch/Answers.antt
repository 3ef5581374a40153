use Rattle.std.proofs.Common.{◌++◌, map, Some, ap, ◌∙◌, w32}
use Rattle.std.specs.Prelude.{slice_get}
use Rattle.std.proofs.lemmas.Int.{to_z-of_z}
use Rattle.rig_scene.specs.Operations.{operations}
use Rattle.rig_flush.specs.ByNumber.{kept_at}
use Rattle.rig_flush.specs.Shown.{output_of}
use Rattle.rig_flush.proofs.ShownOf.{all_there, outs_shown}
use Rattle.rig_flush.proofs.from_scratch.scratch.Goals as goal

pub add_kept-requires : goal.add_kept-requires
add_kept-requires g c =
    let s = c.args.scene.now in
    let kept = c.as_slice.ensures.value ∙ c.in_ok-kept.ensures.kept ∙ ap (λ f. map (λ op. Some (output_of s c.args.mode f op)) (operations s)) (to_z-of_z w32 c.args.frame c.ranges.frame) in
    all_there s c.args.mode c.args.frame c.as_slice.result.now kept c.in_ok-nodes.nodes c.in_ok-nodes.ensures.tables.same c.as_slice-2.result.now
    (ap (map (slice_get c.in_ok-nodes.nodes)) c.as_slice-2.ensures.value ∙ c.in_ok-shown.ensures)

pub returns-clause-outs : goal.returns-clause-outs
returns-clause-outs g c =
    let s = c.args.scene.now in
    let kept = c.as_slice.ensures.value ∙ c.in_ok-kept.ensures.kept ∙ ap (λ f. map (λ op. Some (output_of s c.args.mode f op)) (operations s)) (to_z-of_z w32 c.args.frame c.ranges.frame) in
    outs_shown s c.args.mode c.args.frame c.as_slice.result.now kept c.in_ok-nodes.nodes c.in_ok-nodes.ensures.tables.same c.as_slice-2.result.now
    (ap (map (slice_get c.in_ok-nodes.nodes)) c.as_slice-2.ensures.value ∙ c.in_ok-shown.ensures) c.add_kept.new.done.outs
    (c.in_ok-add_kept.ensures.outs ∙ ap (λ d. map Some d.outs ++ map (kept_at c.as_slice.result.now) c.as_slice-2.result.now) c.new-done.ensures)
