-- Which operations run at a frame step.
use Rattle.std.specs.Prelude.{ℤ, ◌&&◌, ◌||◌, List, filter, position, slice_get, Bool, true, false, not, Option, Some, None, unwrap_or}
use Rattle.std.specs.Option.{option_map_or}
use Rattle.std.specs.Ordering.{int_eq}
use Rattle.rig_scene.specs.declared.id.AnimId.TheVariants as anim
use Rattle.rig_scene.specs.declared.id.ObjectId.{ObjectId}
use Rattle.rig_scene.specs.declared.operation.OpId.{OpId}
use Rattle.rig_scene.specs.declared.operation.OpId.TheVariants.{Time, Animation, Local, World}
use Rattle.rig_scene.specs.Drivers.{has_action}
use Rattle.rig_scene.specs.Id.{same_object}
use Rattle.rig_scene.specs.Operations.{operations}
use Rattle.rig_scene.specs.Scene.{SceneRecord}
use Rattle.rig_play.specs.State.{PlayState}

-- whether the time leads to an operation: itself, each animation, and the transforms of objects with an action
abbrev pub follows_time : SceneRecord → OpId → Bool
follows_time scene Time = true
follows_time scene (Animation id) = true
follows_time scene (Local o) = has_action scene (anim.Object o)
follows_time scene (World o) = has_action scene (anim.Object o)
follows_time scene operation = false

-- whether the object of an id was set since the last frame step
abbrev pub was_set : PlayState → ObjectId → Bool
was_set state id =
    option_map_or (λ index. unwrap_or (slice_get state.set index) false) (position (λ o. same_object o.id id) state.scene.objects) false

-- whether an edit since the last frame step leads to an operation: the transforms of the objects that were set
abbrev pub follows_edit : PlayState → OpId → Bool
follows_edit state (Local o) = was_set state o
follows_edit state (World o) = was_set state o
follows_edit state operation = false

-- whether a frame is another one than the last, as the first one is
abbrev pub is_moved : Option ℤ → ℤ → Bool
is_moved None frame = true
is_moved (Some last) frame = not (int_eq last frame)

-- whether a frame is the first one
abbrev pub is_first : Option ℤ → Bool
is_first None = true
is_first (Some last) = false

-- Whether an operation runs at a frame step: at the first one each does; at a later one those that an edit since the
-- frame step before leads to, and where the frame is another one, those that the time leads to.
abbrev pub is_flushed : PlayState → ℤ → OpId → Bool
is_flushed state frame operation =
    is_first state.last || (is_moved state.last frame && follows_time state.scene operation) || follows_edit state operation

-- the operations that run at a frame step, in order
abbrev pub flushed : PlayState → ℤ → List OpId
flushed state frame = filter (is_flushed state frame) (operations state.scene)
