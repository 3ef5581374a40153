use Rattle.std.proofs.Common.{◌≡◌, ◌∙◌, ap, sym, length, IfOk, List, ℕ, subst, w32}
use Rattle.std.proofs.lemmas.Int.{to_z-of_z}
use Rattle.rig_text.specs.Frame.{frame_lines}
use Rattle.rig_play.specs.Output.{worlds_at}
use Rattle.rig_play.proofs.play.evaluated_text.Goals as goal

pub returns : goal.returns
returns c =
    let s = c.args.engine.now.scene in
    let mode = c.args.mode in
    let frame = to_z-of_z w32 c.args.frame c.ranges.frame in
    let objects : c.as_slice-objects.result.now ≡ s.objects = c.as_slice-objects.ensures ∙ ap (λ t. t.objects) c.behind-engine.view_is ∙ ap (λ t. t.objects) c.scene.ensures in
    let worlds = c.worlds.ensures.worlds mode c.args.frame c.requires.last c.requires.unset in
    let cut = ap length c.worlds.ensures.uncut in
    let P : List ℕ → Type 0 = λ t. IfOk c.frame_text.result (λ text. text.items ≡ t) in
    subst P (ap (λ f. frame_lines mode f 0 c.as_slice-objects.result.now c.worlds.result.now) frame
    ∙ ap (λ os. frame_lines mode c.args.frame 0 os c.worlds.result.now) objects
    ∙ ap (λ ws. frame_lines mode c.args.frame 0 s.objects ws) worlds
    ∙ ap (λ n. frame_lines mode c.args.frame n s.objects (worlds_at s mode c.args.frame)) (sym cut)) c.frame_text.ensures
