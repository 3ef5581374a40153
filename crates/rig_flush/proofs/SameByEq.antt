-- The derived comparison of operations is `same_operation`.
use Rattle.std.specs.Prelude.{◌≡◌, ◌&&◌}
use Rattle.std.proofs.Common.{refl, ap, ◌∙◌}
use Rattle.std.proofs.Math.Path.{fun_ext}
use Rattle.rig_scene.specs.contracts.channel.ChannelPartialEq.TheImpl as channel
use Rattle.rig_scene.specs.contracts.channel.AxisPartialEq.TheImpl as axis
use Rattle.rig_scene.specs.contracts.id.AnimIdPartialEq.TheImpl as id
use Rattle.rig_scene.specs.contracts.path.PathPartialEq.TheImpl as path
use Rattle.rig_scene.specs.contracts.operation.OpIdPartialEq.TheImpl as op
use Rattle.rig_scene.specs.declared.channel.Axis.{Axis}
use Rattle.rig_scene.specs.declared.channel.Axis.TheVariants.{X, Y, Z}
use Rattle.rig_scene.specs.declared.channel.Channel.{Channel}
use Rattle.rig_scene.specs.declared.channel.Channel.TheVariants.{LocX, LocY, LocZ, RotW, RotX, RotY, RotZ, Scale}
use Rattle.rig_scene.specs.declared.id.AnimId.{AnimId}
use Rattle.rig_scene.specs.declared.id.AnimId.TheVariants as anim
use Rattle.rig_scene.specs.declared.operation.OpId.{OpId}
use Rattle.rig_scene.specs.declared.operation.OpId.TheVariants.{Time, Animation, Driver, Local, World, PoseInit, Bone, PoseDone, Layer, Geometry, ModifierOp, GeometryDone}
use Rattle.rig_scene.specs.declared.path.Path.{Path}
use Rattle.rig_scene.specs.declared.path.Path.TheVariants as paths
use Rattle.rig_scene.specs.Channel.{same_channel, same_axis}
use Rattle.rig_scene.specs.Id.{same_id}
use Rattle.rig_scene.specs.Path.{same_path}
use Rattle.rig_scene.specs.Text.{same_text}
use Rattle.rig_links.specs.Numbers.{same_operation}

equal-channel : (a b : Channel) → channel.eq-value.it a b ≡ same_channel a b
equal-channel LocX LocX = refl
equal-channel LocY LocY = refl
equal-channel LocZ LocZ = refl
equal-channel RotW RotW = refl
equal-channel RotX RotX = refl
equal-channel RotY RotY = refl
equal-channel RotZ RotZ = refl
equal-channel Scale Scale = refl
equal-channel a b = refl

equal-axis : (a b : Axis) → axis.eq-value.it a b ≡ same_axis a b
equal-axis X X = refl
equal-axis Y Y = refl
equal-axis Z Z = refl
equal-axis a b = refl

equal-path : (p q : Path) → path.eq-value.it p q ≡ same_path p q
equal-path (paths.Own a) (paths.Own b) = equal-channel a b
equal-path (paths.Bone m a) (paths.Bone n b) = ap (λ same. same_text m n && same) (equal-channel a b)
equal-path (paths.Layer m a) (paths.Layer n b) = ap (λ same. same_text m n && same) (equal-axis a b)
equal-path p q = refl

equal-id : (a b : AnimId) → id.eq-value.it a b ≡ same_id a b
equal-id (anim.Object a) (anim.Object b) = refl
equal-id (anim.Pencil a) (anim.Pencil b) = refl
equal-id a b = refl

equal-operation : (a b : OpId) → op.eq-value.it a b ≡ same_operation a b
equal-operation Time Time = refl
equal-operation (Animation a) (Animation b) = equal-id a b
equal-operation (Driver a p) (Driver b q) = ap (λ same. same && path.eq-value.it p q) (equal-id a b) ∙ ap (λ same. same_id a b && same) (equal-path p q)
equal-operation (Local a) (Local b) = refl
equal-operation (World a) (World b) = refl
equal-operation (PoseInit a) (PoseInit b) = refl
equal-operation (Bone a i) (Bone b j) = refl
equal-operation (PoseDone a) (PoseDone b) = refl
equal-operation (Layer p i) (Layer q j) = refl
equal-operation (Geometry a) (Geometry b) = refl
equal-operation (ModifierOp a i) (ModifierOp b j) = refl
equal-operation (GeometryDone a) (GeometryDone b) = refl
equal-operation a b = refl

pub by_eq : op.eq-value.it ≡ same_operation
by_eq = fun_ext (λ a. fun_ext (λ b. equal-operation a b))
