-- What a call of an edit answers.
use Rattle.std.specs.Prelude.{◌≡◌, None, Some, Result, Ok, Err}
use Rattle.rig_scene.specs.Scene.{SceneRecord}
use Rattle.rig_edits.specs.declared.cause.EditStop.{EditStop}
use Rattle.rig_edits.specs.declared.cause.EditStop.TheVariants.{NoMemory, Refused}
use Rattle.rig_edits.specs.declared.edit.Edit.{Edit}
use Rattle.rig_edits.specs.Conditions.{first_cause}
use Rattle.rig_edits.specs.Edited.{edited}

-- Ok has the scene that the edit makes, and no cause holds; a refusal has the first cause that holds, and want of memory comes where
-- none does. After both the scene is the same.
abbrev pub Applies : Result (Unit {0}) EditStop → SceneRecord → SceneRecord → Edit → Type 0
Applies (Ok done) old new edit = (first_cause old edit ≡ None) × (new ≡ edited old edit)
Applies (Err (Refused cause)) old new edit = (first_cause old edit ≡ Some cause) × (new ≡ old)
Applies (Err NoMemory) old new edit = (first_cause old edit ≡ None) × (new ≡ old)
