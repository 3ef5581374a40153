use Rattle.std.proofs.Common.{◌++◌, length, map, false, ap, ◌∙◌, sym, w32}
use Rattle.std.proofs.lemmas.Int.{to_z-of_z}
use Rattle.rig_text.specs.Track.{frame_step_line}
use Rattle.rig_play.specs.Flush.{flushed}
use Rattle.rig_play.specs.Output.{frame_of}
use Rattle.rig_play.proofs.Passes.{unmarked-twice}
use Rattle.rig_play.proofs.Replies.{took-frame}
use Rattle.rig_play.proofs.play.take_frame.Goals as goal

pub evaluated_text-requires-clause-unset : goal.evaluated_text-requires-clause-unset
evaluated_text-requires-clause-unset g c =
    ap (λ e. e.set) c.evaluate-ran.ensures.state ∙ unmarked-twice c.args.engine.now.set
    ∙ sym (ap (λ e. map (λ _. false) e.set) c.evaluate-ran.ensures.state)

pub returns-clause-taken : goal.returns-clause-taken
returns-clause-taken g c = λ full.
    let f = c.args.frame in
    let e = c.args.engine.now in
    let k = c.args.number in
    let ran = c.evaluate-ran.result in
    let all = c.operation_count-all.result in
    let same = to_z-of_z w32 f c.ranges.frame in
    took-frame c.args.mode k e f full c.args.output.now c.add_text-2.new.self ran all c.in_ok-line.line.items c.in_ok-text.text.items
    (c.in_ok-add_text-2.ensures.turns ∙ c.in_ok-add_text.ensures.turns ∙ c.in_ok-add_turn.ensures.turn)
    (c.in_ok-add_text-2.ensures.text ∙ ap (λ t. t ++ c.in_ok-text.text.items) (c.in_ok-add_text.ensures.text ∙ ap (λ t. t ++ c.in_ok-line.line.items) c.in_ok-add_turn.ensures.text))
    (c.in_ok-line.ensures ∙ ap (λ x. frame_step_line k x k ran all) same)
    (c.evaluate-ran.ensures.ran ∙ ap (λ x. length (flushed e x)) same)
    c.operation_count-all.ensures
    (c.in_ok-text.ensures ∙ ap (λ x. frame_of c.evaluate-ran.new.self.scene c.args.mode x) same ∙ ap (λ s. frame_of s.scene c.args.mode f) c.evaluate-ran.ensures.state)
