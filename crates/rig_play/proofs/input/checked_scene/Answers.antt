use Rattle.std.proofs.Common.{subst, sym}
use Rattle.std.proofs.lemmas.Result.{err_from_is_err_and}
use Rattle.rig_play.specs.Input.{by_reading, checked_in, contents_to_check}
use Rattle.rig_play.specs.Made.{GivesScene}
use Rattle.rig_play.proofs.Contents.{reading-stops, scene-gives}
use Rattle.rig_play.proofs.input.checked_scene.Goals as goal

pub returns-in_err-value : goal.returns-in_err-value
unfolding contents_to_check
returns-in_err-value c =
    let p = err_from_is_err_and c.from_residual.result c.from_residual.ensures.1 in
    rw (p.1, p.2) (reading-stops checked_in _ _ c.in_err-value.ensures)

pub returns : goal.returns
unfolding contents_to_check
returns c =
    subst (λ r. GivesScene c.scene_in.result (by_reading checked_in r)) (sym c.in_ok-value.ensures) (scene-gives _ _ _ c.scene_in.ensures)
