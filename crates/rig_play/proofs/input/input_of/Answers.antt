use Rattle.std.proofs.Common.{subst, sym}
use Rattle.std.proofs.lemmas.Result.{err_from_is_err_and}
use Rattle.rig_play.specs.Input.{by_reading, contents_to_play, played_in}
use Rattle.rig_play.specs.Made.{Gives}
use Rattle.rig_play.proofs.Contents.{reading-stops}
use Rattle.rig_play.proofs.input.input_of.Goals as goal

pub returns-in_err-value : goal.returns-in_err-value
unfolding contents_to_play
returns-in_err-value c =
    let p = err_from_is_err_and c.from_residual.result c.from_residual.ensures.1 in
    rw (p.1, p.2) (reading-stops played_in _ _ c.in_err-value.ensures)

pub returns : goal.returns
unfolding contents_to_play
returns c = subst (λ r. Gives c.input_in.result (by_reading played_in r)) (sym c.in_ok-value.ensures) c.input_in.ensures
