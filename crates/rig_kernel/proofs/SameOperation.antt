-- Operations that compare as equal are equal.
use Rattle.std.proofs.Common.{◌≡◌, ◌&&◌, ℕ, true, refl, sym, ap, ◌∙◌}
use Rattle.std.specs.Prelude.{◌==◌}
use Rattle.std.proofs.lemmas.Bool.{and_parts, and_from, eqb-true, eq-eqb}
use Rattle.rig_scene.specs.contracts.channel.ChannelPartialEq.TheImpl as channel
use Rattle.rig_scene.specs.contracts.channel.AxisPartialEq.TheImpl as axis
use Rattle.rig_scene.specs.contracts.id.AnimIdPartialEq.TheImpl as id
use Rattle.rig_scene.specs.contracts.id.ObjectIdPartialEq.TheImpl as object
use Rattle.rig_scene.specs.contracts.path.PathPartialEq.TheImpl as path
use Rattle.rig_scene.specs.contracts.operation.OpIdPartialEq.TheImpl as op
use Rattle.rig_scene.specs.declared.channel.Axis.{Axis}
use Rattle.rig_scene.specs.declared.channel.Axis.TheVariants.{X, Y, Z}
use Rattle.rig_scene.specs.declared.channel.Channel.{Channel}
use Rattle.rig_scene.specs.declared.channel.Channel.TheVariants.{LocX, LocY, LocZ, RotW, RotX, RotY, RotZ, Scale}
use Rattle.rig_scene.specs.declared.id.AnimId.{AnimId}
use Rattle.rig_scene.specs.declared.id.AnimId.TheVariants as anim
use Rattle.rig_scene.specs.declared.id.ObjectId.{ObjectId}
use Rattle.rig_scene.specs.declared.operation.OpId.{OpId}
use Rattle.rig_scene.specs.declared.operation.OpId.TheVariants.{Time, Animation, Driver, Local, World, PoseInit, Bone, PoseDone, Layer, Geometry, ModifierOp, GeometryDone}
use Rattle.rig_scene.specs.declared.path.Path.{Path}
use Rattle.rig_scene.specs.declared.path.Path.TheVariants as paths
use Rattle.rig_scene.specs.Channel.{same_channel, same_axis}
use Rattle.rig_scene.specs.Path.{same_path}
use Rattle.rig_scene.specs.Same.{same_object-equal, same_object-itself, same_path-equal, same_path-itself}
use Rattle.rig_scene.specs.Text.{same_text}

equal-channel : (a b : Channel) → channel.eq-value.it a b ≡ same_channel a b
equal-channel LocX LocX = refl
equal-channel LocY LocY = refl
equal-channel LocZ LocZ = refl
equal-channel RotW RotW = refl
equal-channel RotX RotX = refl
equal-channel RotY RotY = refl
equal-channel RotZ RotZ = refl
equal-channel Scale Scale = refl
equal-channel a b = refl

equal-axis : (a b : Axis) → axis.eq-value.it a b ≡ same_axis a b
equal-axis X X = refl
equal-axis Y Y = refl
equal-axis Z Z = refl
equal-axis a b = refl

equal-path : (p q : Path) → path.eq-value.it p q ≡ same_path p q
equal-path (paths.Own a) (paths.Own b) = equal-channel a b
equal-path (paths.Bone m a) (paths.Bone n b) = ap (λ same. same_text m n && same) (equal-channel a b)
equal-path (paths.Layer m a) (paths.Layer n b) = ap (λ same. same_text m n && same) (equal-axis a b)
equal-path p q = refl

same-object : (a b : ObjectId) → object.eq-value.it a b ≡ true → a ≡ b
same-object a b e = same_object-equal a b e

same-id : (a b : AnimId) → id.eq-value.it a b ≡ true → a ≡ b
same-id (anim.Object a) (anim.Object b) e = ap anim.Object (same-object a b e)
same-id (anim.Pencil a) (anim.Pencil b) e = ap anim.Pencil (eqb-true a b e)
same-id a b e = cc

-- an object and a number beside it
same-pair : (f : ObjectId → ℕ → OpId) (a b : ObjectId) (i j : ℕ) → (object.eq-value.it a b && (i == j)) ≡ true → f a i ≡ f b j
same-pair f a b i j e =
    let parts = and_parts (object.eq-value.it a b) (i == j) e in
    let object : a ≡ b = same-object a b parts.0 in
    let number : i ≡ j = eqb-true i j parts.1 in
    cc

pub same-operation : (a b : OpId) → op.eq-value.it a b ≡ true → a ≡ b
same-operation Time Time e = refl
same-operation (Animation a) (Animation b) e = ap Animation (same-id a b e)
same-operation (Driver a p) (Driver b q) e =
    let parts = and_parts (id.eq-value.it a b) (path.eq-value.it p q) e in
    let same : a ≡ b = same-id a b parts.0 in
    let path : p ≡ q = same_path-equal p q (sym (equal-path p q) ∙ parts.1) in
    cc
same-operation (Local a) (Local b) e = ap Local (same-object a b e)
same-operation (World a) (World b) e = ap World (same-object a b e)
same-operation (PoseInit a) (PoseInit b) e = ap PoseInit (same-object a b e)
same-operation (Bone a i) (Bone b j) e = same-pair Bone a b i j e
same-operation (PoseDone a) (PoseDone b) e = ap PoseDone (same-object a b e)
same-operation (Layer p i) (Layer q j) e =
    let parts = and_parts (p == q) (i == j) e in
    let pencil : p ≡ q = eqb-true p q parts.0 in
    let layer : i ≡ j = eqb-true i j parts.1 in
    cc
same-operation (Geometry a) (Geometry b) e = ap Geometry (same-object a b e)
same-operation (ModifierOp a i) (ModifierOp b j) e = same-pair ModifierOp a b i j e
same-operation (GeometryDone a) (GeometryDone b) e = ap GeometryDone (same-object a b e)
same-operation a b e = cc

-- ---- each is equal to itself

object-itself : (a : ObjectId) → object.eq-value.it a a ≡ true
object-itself a = same_object-itself a

id-itself : (a : AnimId) → id.eq-value.it a a ≡ true
id-itself (anim.Object a) = object-itself a
id-itself (anim.Pencil a) = eq-eqb a a refl

pair-itself : (a : ObjectId) (i : ℕ) → (object.eq-value.it a a && (i == i)) ≡ true
pair-itself a i = and_from (object.eq-value.it a a) (i == i) (object-itself a) (eq-eqb i i refl)

pub operation-itself : (a : OpId) → op.eq-value.it a a ≡ true
operation-itself Time = refl
operation-itself (Animation a) = id-itself a
operation-itself (Driver a p) = and_from (id.eq-value.it a a) (path.eq-value.it p p) (id-itself a) (equal-path p p ∙ same_path-itself p)
operation-itself (Local a) = object-itself a
operation-itself (World a) = object-itself a
operation-itself (PoseInit a) = object-itself a
operation-itself (Bone a i) = pair-itself a i
operation-itself (PoseDone a) = object-itself a
operation-itself (Layer p i) = and_from (p == p) (i == i) (eq-eqb p p refl) (eq-eqb i i refl)
operation-itself (Geometry a) = object-itself a
operation-itself (ModifierOp a i) = pair-itself a i
operation-itself (GeometryDone a) = object-itself a
