-- The scripts that the plain engine plays: at most one track, of frames that aren't full and of edits that set a number of a
-- location.
use Rattle.std.specs.Prelude.{◌&&◌, length, Bool, false, not, nat_le}
use Rattle.std.specs.List.{list_all}
use Rattle.rig_edits.specs.declared.edit.Edit.{Edit as AnEdit}
use Rattle.rig_edits.specs.declared.edit.Edit.TheVariants.{SetValue}
use Rattle.rig_scriptjson.specs.declared.script.Script.{Script}
use Rattle.rig_scriptjson.specs.declared.script.Step.{Step}
use Rattle.rig_scriptjson.specs.declared.script.Step.TheVariants.{Edit, Frame}
use Rattle.rig_scriptjson.specs.declared.script.Track.{Track}
use Rattle.rig_play.specs.Plain.{is_own_location}

abbrev pub is_plain_edit : AnEdit → Bool
is_plain_edit (SetValue id path value) = is_own_location path
is_plain_edit edit = false

abbrev pub is_plain_step : Step → Bool
is_plain_step (Edit edit) = is_plain_edit edit
is_plain_step (Frame frame full) = not full

abbrev pub is_plain_track : Track → Bool
is_plain_track t = list_all is_plain_step t.steps

abbrev pub is_plain_script : Script → Bool
is_plain_script s = nat_le (length s.tracks) 1 && list_all is_plain_track s.tracks
