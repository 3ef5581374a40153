-- Short ways to write edits, and what is looked at of an edited scene, for the worked examples.
use Rattle.std.specs.Prelude.{ℕ, ℤ, pos, List, [], ◌∷◌, map, codes, true, Option, Some, None}
use Rattle.rig_scene.specs.declared.action.Key.{Key}
use Rattle.rig_scene.specs.declared.channel.Channel.TheVariants.{LocX}
use Rattle.rig_scene.specs.declared.driver.DriverKind.{DriverKind}
use Rattle.rig_scene.specs.declared.path.Path.TheVariants.{Bone}
use Rattle.rig_scene.specs.Examples.{channels_at, empty_object, parent_of, scene_of}
use Rattle.rig_scene.specs.Scene.{SceneRecord}
use Rattle.rig_edits.specs.declared.edit.IdName.TheVariants as named
use Rattle.rig_edits.specs.declared.edit.NewEffect.{NewEffect}
use Rattle.rig_edits.specs.declared.edit.NewEffect.TheVariants.{Array}
use Rattle.rig_edits.specs.declared.edit.NewParent.{NewParent}
use Rattle.rig_edits.specs.declared.edit.NewVariable.{NewVariable}
use Rattle.rig_edits.specs.declared.edit.NewVariable.TheVariants.{Property, Transform}
use Rattle.rig_edits.specs.DriverByNames.{DriverByNames}

-- ---- edits

-- an object A that is its own parent
abbrev pub own_parent : SceneRecord
own_parent = scene_of [] (empty_object 0 (codes "A") (channels_at (pos 0) (pos 0) (pos 0)) None (parent_of 0) ∷ []) []

-- a parent by the names of its object and of a bone of it
abbrev pub bone_named : List ℕ → List ℕ → Option NewParent
bone_named object bone = Some (record { object = object; bone = Some bone })

-- a driver of one kind
abbrev pub driver_of : DriverKind → List NewVariable → DriverByNames
driver_of kind variables = record { kind = kind; variables = variables }

-- the x of an object's location in the world
abbrev pub world_x : List ℕ → NewVariable
world_x object = Transform object None true LocX

-- the x of the location of an object's bone
abbrev pub bone_x : List ℕ → List ℕ → NewVariable
bone_x object bone = Transform object (Some bone) true LocX

-- the number of the x of a bone's location in the pose of an object
abbrev pub pose_x : List ℕ → List ℕ → NewVariable
pose_x object bone = Property (named.Object object) (Bone bone LocX)

-- one copy
abbrev pub one_copy : NewEffect
one_copy = Array (pos 1) (record { x = pos 0; y = pos 0; z = pos 0 })

-- ---- what is looked at

-- the kinds of the drivers, in their order
abbrev pub kinds_of : SceneRecord → List DriverKind
kinds_of scene = map (λ d. d.kind) scene.drivers

-- the keys of each curve of each action
abbrev pub keys_of : SceneRecord → List (List (List Key))
keys_of scene = map (λ a. map (λ c. c.keys) a.curves) scene.actions

-- the frames of the keys of each curve of each action
abbrev pub frames_of : SceneRecord → List (List (List ℤ))
frames_of scene = map (map (map (λ k. k.frame))) (keys_of scene)
