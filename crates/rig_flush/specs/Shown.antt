-- What a frame shows of a scene: the world transform of each object, its bones, and its finished geometry.
use Rattle.std.specs.Prelude.{List, [], ◌∷◌, length, map, false, ℤ}
use Rattle.std.specs.List.{flat_map, range_with_len}
use Rattle.rig_laws.specs.Output.{Output}
use Rattle.rig_laws.specs.OperationValue.{operation_value}
use Rattle.rig_scene.specs.declared.id.ObjectId.{ObjectId}
use Rattle.rig_scene.specs.declared.modifier.Mode.{Mode}
use Rattle.rig_scene.specs.declared.object.Kind.{Kind}
use Rattle.rig_scene.specs.declared.object.Kind.TheVariants as kind
use Rattle.rig_scene.specs.declared.operation.OpId.{OpId}
use Rattle.rig_scene.specs.declared.operation.OpId.TheVariants.{World, Bone, GeometryDone}
use Rattle.rig_scene.specs.Scene.{SceneRecord}

-- what an object's kind shows: the bones of an armature object, the finished geometry of a pencil object
abbrev pub shown_of_kind : ObjectId → Kind → List OpId
shown_of_kind o kind.Empty = []
shown_of_kind o (kind.Armature armature pose) = map (Bone o) (range_with_len 0 (length pose))
shown_of_kind o (kind.Pencil pencil modifiers) = GeometryDone o ∷ []

-- the operations that a frame shows, object after object
abbrev pub shown_operations : SceneRecord → List OpId
shown_operations s = flat_map (λ o. World o.id ∷ shown_of_kind o.id o.kind) s.objects

-- an operation with its value from scratch
abbrev pub output_of : SceneRecord → Mode → ℤ → OpId → Output
output_of s mode frame op = record { op = op; value = operation_value s mode frame op; is_rest = false }

-- what a frame shows
unfoldable pub shown : SceneRecord → Mode → ℤ → List Output
shown s mode frame = map (output_of s mode frame) (shown_operations s)
