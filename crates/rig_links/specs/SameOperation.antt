-- What `same_operation` takes for the same is equal.
use Rattle.std.specs.Prelude.{◌==◌}
use Rattle.std.proofs.Common.{◌≡◌, ℕ, ◌&&◌, true, refl, ap}
use Rattle.std.proofs.lemmas.Bool.{and_parts}
use Rattle.std.proofs.lemmas.Bool.Decides.{Decides-eqb}
use Rattle.rig_cycles.specs.Cut.{IsEquality}
use Rattle.rig_scene.specs.declared.id.ObjectId.{ObjectId}
use Rattle.rig_scene.specs.declared.operation.OpId.{OpId}
use Rattle.rig_scene.specs.declared.operation.OpId.TheVariants.{Time, Animation, Driver, Local, World, PoseInit, Bone, PoseDone, Layer, Geometry, ModifierOp, GeometryDone}
use Rattle.rig_scene.specs.Id.{same_object, same_id}
use Rattle.rig_scene.specs.Path.{same_path}
use Rattle.rig_scene.specs.Same.{same_object-equal, same_object-itself, same_id-equal, same_id-itself, same_path-equal, same_path-itself}
use Rattle.rig_links.specs.Numbers.{same_operation}

-- an object and a number beside it
pair-equal : (f : ObjectId → ℕ → OpId) (a b : ObjectId) (i j : ℕ) → (same_object a b && (i == j)) ≡ true → f a i ≡ f b j
pair-equal f a b i j e =
    let parts = and_parts (same_object a b) (i == j) e in
    let object : a ≡ b = same_object-equal a b parts.0 in
    let number : i ≡ j = (Decides-eqb i j).0 parts.1 in
    cc

number-itself : (n : ℕ) → (n == n) ≡ true
number-itself n = (Decides-eqb n n).1 refl

operation-equal : (a b : OpId) → same_operation a b ≡ true → a ≡ b
operation-equal Time Time e = refl
operation-equal (Animation i) (Animation j) e = ap Animation (same_id-equal i j e)
operation-equal (Driver i p) (Driver j q) e =
    let parts = and_parts (same_id i j) (same_path p q) e in
    let id : i ≡ j = same_id-equal i j parts.0 in
    let path : p ≡ q = same_path-equal p q parts.1 in
    cc
operation-equal (Local a) (Local b) e = ap Local (same_object-equal a b e)
operation-equal (World a) (World b) e = ap World (same_object-equal a b e)
operation-equal (PoseInit a) (PoseInit b) e = ap PoseInit (same_object-equal a b e)
operation-equal (Bone a i) (Bone b j) e = pair-equal Bone a b i j e
operation-equal (PoseDone a) (PoseDone b) e = ap PoseDone (same_object-equal a b e)
operation-equal (Layer p i) (Layer q j) e =
    let parts = and_parts (p == q) (i == j) e in
    let pencil : p ≡ q = (Decides-eqb p q).0 parts.0 in
    let number : i ≡ j = (Decides-eqb i j).0 parts.1 in
    cc
operation-equal (Geometry a) (Geometry b) e = ap Geometry (same_object-equal a b e)
operation-equal (ModifierOp a i) (ModifierOp b j) e = pair-equal ModifierOp a b i j e
operation-equal (GeometryDone a) (GeometryDone b) e = ap GeometryDone (same_object-equal a b e)
operation-equal a b e = cc

operation-itself : (a : OpId) → same_operation a a ≡ true
operation-itself Time = refl
operation-itself (Animation i) = same_id-itself i
operation-itself (Driver i p) = rw (same_id-itself i) (same_path-itself p)
operation-itself (Local a) = same_object-itself a
operation-itself (World a) = same_object-itself a
operation-itself (PoseInit a) = same_object-itself a
operation-itself (Bone a i) = rw (same_object-itself a) (number-itself i)
operation-itself (PoseDone a) = same_object-itself a
operation-itself (Layer p i) = rw (number-itself p) (number-itself i)
operation-itself (Geometry a) = same_object-itself a
operation-itself (ModifierOp a i) = rw (same_object-itself a) (number-itself i)
operation-itself (GeometryDone a) = same_object-itself a

pub same_operation-Decides : IsEquality same_operation
same_operation-Decides a b = (operation-equal a b, λ e. rw e (operation-itself b))
