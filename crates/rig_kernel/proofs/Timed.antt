-- The frame that the time gives, and the end of a pose.
use Rattle.std.proofs.Common.{◌≡◌, List, [], Some, true, ℤ, refl, sym, ap, subst, ◌∙◌}
use Rattle.std.specs.Prelude.{IsTrue, option_map, Contains}
use Rattle.std.proofs.lemmas.Option.{same_Some}
use Rattle.rig_scene.specs.declared.id.ObjectId.{ObjectId}
use Rattle.rig_scene.specs.declared.modifier.Mode.{Mode}
use Rattle.rig_scene.specs.declared.object.Object.{Object}
use Rattle.rig_scene.specs.declared.operation.OpId.{OpId}
use Rattle.rig_scene.specs.declared.operation.OpId.TheVariants.{Time, Animation, Driver, Local, World, PoseInit, Bone, PoseDone, Layer, Geometry, ModifierOp, GeometryDone}
use Rattle.rig_scene.specs.Operations.{operations}
use Rattle.rig_scene.specs.Scene.{SceneRecord, object_of}
use Rattle.rig_scene.specs.Value.{Value, Numbers}
use Rattle.rig_scene.specs.WellFormed.{is_frame, is_scene}
use Rattle.rig_laws.specs.HasOperation.{operation_has}
use Rattle.rig_laws.specs.Lists.{some_where}
use Rattle.rig_laws.specs.Members.{is_posed}
use Rattle.rig_laws.specs.Kernel.{kernel}
use Rattle.rig_laws.specs.Output.{Output, time_value, is_timed}

-- the time gives a frame within the limits
pub timed : (s : SceneRecord) (mode : Mode) (frame : ℤ) (op : OpId) (inputs : List Output) (v : Value) → IsTrue (is_frame frame) → kernel s mode frame op inputs ≡ Some v → IsTrue (is_timed op v)
unfolding kernel
timed s mode frame Time inputs v within is = subst (λ v. is_timed Time v ≡ true) (same_Some (time_value frame) v is) within
timed s mode frame (Animation id) inputs v within is = refl
timed s mode frame (Driver id path) inputs v within is = refl
timed s mode frame (Local o) inputs v within is = refl
timed s mode frame (World o) inputs v within is = refl
timed s mode frame (PoseInit o) inputs v within is = refl
timed s mode frame (Bone o b) inputs v within is = refl
timed s mode frame (PoseDone o) inputs v within is = refl
timed s mode frame (Layer p l) inputs v within is = refl
timed s mode frame (Geometry o) inputs v within is = refl
timed s mode frame (ModifierOp o i) inputs v within is = refl
timed s mode frame (GeometryDone o) inputs v within is = refl

pub time_is : (s : SceneRecord) (mode : Mode) (frame passed : ℤ) (op : OpId) (inputs : List Output) (v : Value) → op ≡ Time → passed ≡ frame → v ≡ time_value passed → kernel s mode frame op inputs ≡ Some v
unfolding kernel
time_is s mode frame passed op inputs v is same given = ap (λ op. kernel s mode frame op inputs) is ∙ ap (λ frame. Some (time_value frame)) (sym same) ∙ ap Some (sym given)

pub pose_done_is : (s : SceneRecord) → IsTrue (is_scene s) → (mode : Mode) (frame : ℤ) (o : ObjectId) (inputs : List Output) → Contains (operations s) (PoseDone o) → kernel s mode frame (PoseDone o) inputs ≡ Some (Numbers [])
unfolding kernel
pose_done_is s met mode frame o inputs within =
    let found = some_where (λ (object : Object). is_posed object.kind) (object_of s o) (operation_has s met (PoseDone o) within) in
    ap (option_map (λ (object : Object). Numbers [])) found.1
