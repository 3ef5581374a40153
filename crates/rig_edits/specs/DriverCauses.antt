-- The causes against the names of a driver: those of its channel and of its variables, and the first of them all.
use Rattle.std.proofs.Common.{◌≡◌, Bool, false, not, List, Option, None, Some, Result, Ok, Err, nat_lt, if◌then◌else◌}
use Rattle.std.specs.Prelude.{⊤}
use Rattle.std.specs.Option.{option_or}
use Rattle.std.specs.List.{list_any}
use Rattle.rig_scene.specs.declared.path.Path.{Path}
use Rattle.rig_scene.specs.Scene.{SceneRecord}
use Rattle.rig_edits.specs.declared.cause.EditCause.{EditCause}
use Rattle.rig_edits.specs.declared.cause.EditCause.TheVariants.{UnknownId, WrongKind, UnknownPath, UnknownPart}
use Rattle.rig_edits.specs.declared.cause.EditStop.{EditStop}
use Rattle.rig_edits.specs.declared.cause.EditStop.TheVariants.{NoMemory, Refused}
use Rattle.rig_edits.specs.declared.edit.IdName.{IdName}
use Rattle.rig_edits.specs.declared.edit.NewVariable.{NewVariable}
use Rattle.rig_edits.specs.Cause.{rank_of}
use Rattle.rig_edits.specs.Conditions.{when, lacks_id, can_have, lacks_path, lacks_variable, is_variable_wrong, lacks_property, lacks_transform}

-- the first of the four causes that names can have
abbrev pub first_of_four : Bool → Bool → Bool → Bool → Option EditCause
first_of_four id kind path part =
    option_or (when UnknownId id) (option_or (when WrongKind kind) (option_or (when UnknownPath path) (when UnknownPart part)))

abbrev pub channel_causes : SceneRecord → IdName → Path → Option EditCause
channel_causes s id path = first_of_four (lacks_id s id) (not (can_have s id path)) (lacks_path s id path) false

abbrev pub variable_causes : SceneRecord → NewVariable → Option EditCause
variable_causes s v = first_of_four (lacks_variable s v) (is_variable_wrong s v) (lacks_property s v) (lacks_transform s v)

abbrev pub variables_causes : SceneRecord → List NewVariable → Option EditCause
variables_causes s vs =
    first_of_four (list_any (lacks_variable s) vs) (list_any (is_variable_wrong s) vs) (list_any (lacks_property s) vs) (list_any (lacks_transform s) vs)

-- the one of two causes that comes first
abbrev pub earlier : Option EditCause → Option EditCause → Option EditCause
earlier None d = d
earlier (Some c) None = Some c
earlier (Some c) (Some d) = if nat_lt (rank_of d) (rank_of c) then Some d else Some c

-- what a name means is built, or a cause is against it; want of memory apart
abbrev pub Builds : {T : Type 0} → Result T EditStop → Option EditCause → Option T → Type 0
Builds (Ok x) cause value = value ≡ Some x
Builds (Err (Refused stop)) cause value = cause ≡ Some stop
Builds (Err NoMemory) cause value = ⊤
