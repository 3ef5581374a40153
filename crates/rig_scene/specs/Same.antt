-- What is the same is equal: each such test of the statement decides equality.
use Rattle.std.specs.Prelude.{◌≡◌, ℕ, ◌==◌, ◌&&◌, List, Bool}
use Rattle.std.specs.Bool.{Decides}
use Rattle.std.proofs.Common.{true, refl, ap}
use Rattle.std.proofs.lemmas.Bool.{and_parts}
use Rattle.std.proofs.lemmas.Bool.Decides.{Decides-eqb}
use Rattle.std.proofs.lemmas.Slice.Eq.{bytes_eq-Decides}
use Rattle.rig_scene.specs.declared.channel.Axis.{Axis}
use Rattle.rig_scene.specs.declared.channel.Axis.TheVariants.{X, Y, Z}
use Rattle.rig_scene.specs.declared.channel.Channel.{Channel}
use Rattle.rig_scene.specs.declared.channel.Channel.TheVariants.{LocX, LocY, LocZ, RotW, RotX, RotY, RotZ, Scale}
use Rattle.rig_scene.specs.declared.id.AnimId.{AnimId}
use Rattle.rig_scene.specs.declared.id.AnimId.TheVariants as anim
use Rattle.rig_scene.specs.declared.id.ObjectId.{ObjectId}
use Rattle.rig_scene.specs.declared.path.Path.{Path}
use Rattle.rig_scene.specs.declared.path.Path.TheVariants as paths
use Rattle.rig_scene.specs.declared.quantity.Quantity.{Quantity}
use Rattle.rig_scene.specs.declared.quantity.Quantity.TheVariants.{Chan, Local, World, Bone, Layer, Geom}
use Rattle.rig_scene.specs.Channel.{same_channel, same_axis}
use Rattle.rig_scene.specs.Id.{same_object, same_id}
use Rattle.rig_scene.specs.Path.{same_path}
use Rattle.rig_scene.specs.Quantities.{same_quantity}
use Rattle.rig_scene.specs.Text.{same_text}

-- a test that passes equal things alone, and each beside itself, decides equality
decides : {A : Type 0} (same : A → A → Bool) → ((a b : A) → same a b ≡ true → a ≡ b) → ((a : A) → same a a ≡ true) → (a b : A) → Decides (same a b) (a ≡ b)
decides same equal itself a b = (equal a b, λ e. rw e (itself b))

pub same_text-Decides : (a b : List ℕ) → Decides (same_text a b) (a ≡ b)
same_text-Decides a b = bytes_eq-Decides a b

number-itself : (n : ℕ) → (n == n) ≡ true
number-itself n = (Decides-eqb n n).1 refl

pub same_text-itself : (n : List ℕ) → same_text n n ≡ true
same_text-itself n = (same_text-Decides n n).1 refl

-- ---- channels and axes

pub same_channel-equal : (a b : Channel) → same_channel a b ≡ true → a ≡ b
same_channel-equal LocX LocX e = refl
same_channel-equal LocY LocY e = refl
same_channel-equal LocZ LocZ e = refl
same_channel-equal RotW RotW e = refl
same_channel-equal RotX RotX e = refl
same_channel-equal RotY RotY e = refl
same_channel-equal RotZ RotZ e = refl
same_channel-equal Scale Scale e = refl
same_channel-equal a b e = cc

pub same_channel-itself : (a : Channel) → same_channel a a ≡ true
same_channel-itself LocX = refl
same_channel-itself LocY = refl
same_channel-itself LocZ = refl
same_channel-itself RotW = refl
same_channel-itself RotX = refl
same_channel-itself RotY = refl
same_channel-itself RotZ = refl
same_channel-itself Scale = refl

pub same_channel-Decides : (a b : Channel) → Decides (same_channel a b) (a ≡ b)
same_channel-Decides = decides same_channel same_channel-equal same_channel-itself

pub same_axis-equal : (a b : Axis) → same_axis a b ≡ true → a ≡ b
same_axis-equal X X e = refl
same_axis-equal Y Y e = refl
same_axis-equal Z Z e = refl
same_axis-equal a b e = cc

pub same_axis-itself : (a : Axis) → same_axis a a ≡ true
same_axis-itself X = refl
same_axis-itself Y = refl
same_axis-itself Z = refl

pub same_axis-Decides : (a b : Axis) → Decides (same_axis a b) (a ≡ b)
same_axis-Decides = decides same_axis same_axis-equal same_axis-itself

-- ---- ids

pub same_object-equal : (a b : ObjectId) → same_object a b ≡ true → a ≡ b
same_object-equal a b e = let number : a.0 ≡ b.0 = (Decides-eqb a.0 b.0).0 e in ap (λ n. record { 0 = n }) number

pub same_object-itself : (a : ObjectId) → same_object a a ≡ true
same_object-itself a = number-itself a.0

pub same_object-Decides : (a b : ObjectId) → Decides (same_object a b) (a ≡ b)
same_object-Decides = decides same_object same_object-equal same_object-itself

pub same_id-equal : (a b : AnimId) → same_id a b ≡ true → a ≡ b
same_id-equal (anim.Object a) (anim.Object b) e = ap anim.Object (same_object-equal a b e)
same_id-equal (anim.Pencil a) (anim.Pencil b) e = ap anim.Pencil ((Decides-eqb a b).0 e)
same_id-equal a b e = cc

pub same_id-itself : (a : AnimId) → same_id a a ≡ true
same_id-itself (anim.Object a) = number-itself a.0
same_id-itself (anim.Pencil a) = number-itself a

pub same_id-Decides : (a b : AnimId) → Decides (same_id a b) (a ≡ b)
same_id-Decides = decides same_id same_id-equal same_id-itself

-- ---- paths

pub same_path-equal : (p q : Path) → same_path p q ≡ true → p ≡ q
same_path-equal (paths.Own a) (paths.Own b) e = ap paths.Own (same_channel-equal a b e)
same_path-equal (paths.Bone m a) (paths.Bone n b) e =
    let parts = and_parts (same_text m n) (same_channel a b) e in
    let name : m ≡ n = (same_text-Decides m n).0 parts.0 in
    let channel : a ≡ b = same_channel-equal a b parts.1 in
    cc
same_path-equal (paths.Layer m a) (paths.Layer n b) e =
    let parts = and_parts (same_text m n) (same_axis a b) e in
    let name : m ≡ n = (same_text-Decides m n).0 parts.0 in
    let axis : a ≡ b = same_axis-equal a b parts.1 in
    cc
same_path-equal p q e = cc

pub same_path-itself : (p : Path) → same_path p p ≡ true
same_path-itself (paths.Own a) = same_channel-itself a
same_path-itself (paths.Bone n a) = rw (same_text-itself n) (same_channel-itself a)
same_path-itself (paths.Layer n a) = rw (same_text-itself n) (same_axis-itself a)

pub same_path-Decides : (p q : Path) → Decides (same_path p q) (p ≡ q)
same_path-Decides = decides same_path same_path-equal same_path-itself

-- ---- quantities

-- an object and a number beside it
pair-equal : {B : Type 0} (f : ObjectId → ℕ → B) (a b : ObjectId) (i j : ℕ) → (same_object a b && (i == j)) ≡ true → f a i ≡ f b j
pair-equal f a b i j e =
    let parts = and_parts (same_object a b) (i == j) e in
    let object : a ≡ b = same_object-equal a b parts.0 in
    let number : i ≡ j = (Decides-eqb i j).0 parts.1 in
    cc

pair-itself : (a : ObjectId) (i : ℕ) → (same_object a a && (i == i)) ≡ true
pair-itself a i = rw (number-itself a.0) (number-itself i)

pub same_quantity-equal : (p q : Quantity) → same_quantity p q ≡ true → p ≡ q
same_quantity-equal (Chan i p) (Chan j q) e =
    let parts = and_parts (same_id i j) (same_path p q) e in
    let id : i ≡ j = same_id-equal i j parts.0 in
    let path : p ≡ q = same_path-equal p q parts.1 in
    cc
same_quantity-equal (Local a) (Local b) e = ap Local (same_object-equal a b e)
same_quantity-equal (World a) (World b) e = ap World (same_object-equal a b e)
same_quantity-equal (Bone a i) (Bone b j) e = pair-equal Bone a b i j e
same_quantity-equal (Layer p i) (Layer q j) e =
    let parts = and_parts (p == q) (i == j) e in
    let pencil : p ≡ q = (Decides-eqb p q).0 parts.0 in
    let layer : i ≡ j = (Decides-eqb i j).0 parts.1 in
    cc
same_quantity-equal (Geom a i) (Geom b j) e = pair-equal Geom a b i j e
same_quantity-equal p q e = cc

pub same_quantity-itself : (q : Quantity) → same_quantity q q ≡ true
same_quantity-itself (Chan i p) = rw (same_id-itself i) (same_path-itself p)
same_quantity-itself (Local a) = number-itself a.0
same_quantity-itself (World a) = number-itself a.0
same_quantity-itself (Bone a i) = pair-itself a i
same_quantity-itself (Layer p i) = rw (number-itself p) (number-itself i)
same_quantity-itself (Geom a i) = pair-itself a i

pub same_quantity-Decides : (p q : Quantity) → Decides (same_quantity p q) (p ≡ q)
same_quantity-Decides = decides same_quantity same_quantity-equal same_quantity-itself
