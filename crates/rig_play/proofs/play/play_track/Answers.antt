use Rattle.std.proofs.Common.{◌≡◌, ℕ, List, length, ap, ◌∙◌, subst, IfOk, arith}
use Rattle.rig_play.specs.Made.{whole_text}
use Rattle.rig_play.specs.State.{opening}
use Rattle.rig_play.proofs.Replies.{track-text, track-turns, turns-few}
use Rattle.rig_play.proofs.play.play_track.Goals as goal

pub into_texts-requires : goal.into_texts-requires
into_texts-requires g c =
    let track = c.args.track.now in
    let turns = track-turns c.args.scene track c.mode_of-mode.result c.in_ok-engine.engine c.as_slice.result.now c.in_ok-output.output c.play_steps.new.output
    c.in_ok-output.ensures c.in_ok-play_steps.ensures.taken c.in_ok-engine.ensures c.as_slice.ensures in
    let many : length c.play_steps.new.output.turns.items ≡ length track.steps = ap length turns ∙ turns-few 0 (opening c.args.scene) track.steps in
    omega (arith, many, c.requires.steps)

pub returns-clause-text : goal.returns-clause-text
returns-clause-text g c =
    let P : List ℕ → Type 0 = λ t. IfOk c.into_texts.result (λ texts. whole_text texts.items ≡ t) in
    subst P (track-text c.args.scene c.args.track.now c.mode_of-mode.result c.in_ok-engine.engine c.as_slice.result.now c.in_ok-output.output c.play_steps.new.output
    c.in_ok-output.ensures c.in_ok-play_steps.ensures.taken c.mode_of-mode.ensures c.in_ok-engine.ensures c.as_slice.ensures) c.into_texts.ensures
