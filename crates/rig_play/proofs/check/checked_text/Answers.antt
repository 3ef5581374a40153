use Rattle.std.proofs.Common.{◌≡◌, ◌∙◌, length, ap}
use Rattle.std.proofs.lemmas.Result.{IfOk-weaker}
use Rattle.std.specs.List.{flat_map}
use Rattle.rig_links.specs.Report.{reads_of_rows}
use Rattle.rig_scene.specs.Cut.{cuts}
use Rattle.rig_scene.specs.Operations.{ins, operations}
use Rattle.rig_text.specs.Check.{check_lines}
use Rattle.rig_play.specs.Check.{check_text_of}
use Rattle.rig_play.proofs.check.checked_text.Goals as goal

pub returns : goal.returns
unfolding check_text_of
returns c =
    let scene = c.args.scene.now in
    let found = c.in_ok-cuts.cuts in
    let count : c.len.result ≡ length (operations scene) = c.len.ensures ∙ ap length c.in_ok-nodes.ensures in
    let links : c.links-3.result ≡ length (flat_map (ins scene) (operations scene)) = c.links-3.ensures ∙ c.in_ok-links.ensures.count in
    let reads : found ≡ cuts scene =
    c.in_ok-cuts.ensures.reads ∙ (ap (λ ops. reads_of_rows ops c.in_ok-links.links.ins) c.in_ok-nodes.ensures ∙ c.in_ok-links.ensures.cuts) in
    IfOk-weaker c.check_text.result _ _
    (λ text is. is ∙ (ap (λ n. check_lines scene n c.links-3.result found) count
    ∙ (ap (λ n. check_lines scene (length (operations scene)) n found) links
    ∙ ap (check_lines scene (length (operations scene)) (length (flat_map (ins scene) (operations scene)))) reads)))
    c.check_text.ensures
