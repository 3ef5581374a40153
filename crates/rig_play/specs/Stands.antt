-- How the plain engine stands, and what one pass over the objects does.
use Rattle.std.specs.Prelude.{◌≡◌, ℕ, ◌+◌, ◌<◌, ℤ, ◌&&◌, ◌||◌, List, [], ◌∷◌, length, slice_get, Bool, false, IsTrue, Option, Some, is_some, option_and_then, unwrap_or, if◌then◌else◌}
use Rattle.std.specs.List.{find}
use Rattle.rig_fixed.specs.Transform.{Transform, identity}
use Rattle.rig_fixed.specs.declared.vector.V3.{V3}
use Rattle.rig_scene.specs.declared.action.Action.{Action}
use Rattle.rig_scene.specs.declared.channel.Channel.{Channel}
use Rattle.rig_scene.specs.declared.channel.Channel.TheVariants.{LocX, LocY, LocZ}
use Rattle.rig_scene.specs.declared.object.Object.{Object}
use Rattle.rig_scene.specs.declared.path.Path.TheVariants.{Own}
use Rattle.rig_scene.specs.Curve.{curve_value}
use Rattle.rig_scene.specs.Path.{same_path}
use Rattle.rig_scene.specs.Scene.{SceneRecord}
use Rattle.rig_scene.specs.WellFormed.{is_scene}
use Rattle.rig_edits.specs.declared.change.TheConstants.{MAX_NEXT}
use Rattle.rig_play.specs.Plain.{is_plain_scene}

-- ---- where a plain object stands

abbrev pub object_action : SceneRecord → Object → Option Action
object_action scene object = option_and_then (slice_get scene.actions) object.action

-- what the curve of an own channel gives at a frame, where an action has one with a key
abbrev pub own_number : Action → Channel → ℤ → Option ℤ
own_number action channel frame =
    option_and_then (λ c. curve_value c frame) (find (λ c. same_path c.path (Own channel)) action.curves)

-- the number of an own channel: what its curve gives, else the original
abbrev pub plain_number : SceneRecord → Object → Channel → ℤ → ℤ → ℤ
plain_number scene object channel original frame =
    unwrap_or (option_and_then (λ a. own_number a channel frame) (object_action scene object)) original

abbrev pub plain_location : SceneRecord → Object → ℤ → V3
plain_location scene object frame = record {
  x = plain_number scene object LocX object.own.loc.x frame;
  y = plain_number scene object LocY object.own.loc.y frame;
  z = plain_number scene object LocZ object.own.loc.z frame;
}

-- an object of a plain scene in the world
abbrev pub plain_world : SceneRecord → ℤ → Object → Transform
plain_world scene frame object = record { loc = plain_location scene object frame; rot = identity.rot; scale = identity.scale }

-- ---- one pass

-- whether a pass evaluates the transforms of an object, by whether it is the first, the frame moved, and the object has a mark
abbrev pub is_reached : Bool → Bool → Object → Bool → Bool
is_reached first moved object mark = first || (moved && is_some object.action) || mark

-- how many operations of an object run in a pass
abbrev pub object_ran : Bool → Bool → Object → Bool → ℕ
object_ran first moved object mark =
    (if moved && is_some object.action then 1 else 0) + (if is_reached first moved object mark then 2 else 0)

-- how many operations of objects with these marks run in a pass
abbrev pub objects_ran : Bool → Bool → List Object → List Bool → ℕ
objects_ran first moved [] marks = 0
objects_ran first moved (object ∷ objects) [] = 0
objects_ran first moved (object ∷ objects) (mark ∷ marks) = object_ran first moved object mark + objects_ran first moved objects marks

-- how many operations an object has
abbrev pub object_count : Object → ℕ
object_count object = if is_some object.action then 3 else 2

-- where an object stands after a pass at a frame
abbrev pub stand : SceneRecord → Bool → Bool → ℤ → Object → Bool → Transform → Transform
stand scene first moved frame object mark world =
    if is_reached first moved object mark then plain_world scene frame object else world

-- where objects stand after a pass at a frame, by their marks and where they stood
abbrev pub all_stand : SceneRecord → Bool → Bool → ℤ → List Object → List Bool → List Transform → List Transform
all_stand scene first moved frame [] marks worlds = []
all_stand scene first moved frame (object ∷ objects) [] worlds = []
all_stand scene first moved frame (object ∷ objects) (mark ∷ marks) [] = []
all_stand scene first moved frame (object ∷ objects) (mark ∷ marks) (world ∷ worlds) =
    stand scene first moved frame object mark world ∷ all_stand scene first moved frame objects marks worlds

-- ---- between two steps

-- The engine of a plain scene that can still be edited has a mark and a transform for each object, and each object without a mark
-- stands where it does at the last frame.
pub record Stands (scene : SceneRecord) (marks : List Bool) (worlds : List Transform) (last : Option ℤ) : Type 0 where
  pub is_scene : IsTrue (is_scene scene)
  pub plain : IsTrue (is_plain_scene scene)
  pub next : scene.next < MAX_NEXT
  pub marks_length : length marks ≡ length scene.objects
  pub worlds_length : length worlds ≡ length scene.objects
  pub kept : (frame : ℤ) → last ≡ Some frame → (index : ℕ) (object : Object) → slice_get scene.objects index ≡ Some object →
      slice_get marks index ≡ Some false → slice_get worlds index ≡ Some (plain_world scene frame object)
