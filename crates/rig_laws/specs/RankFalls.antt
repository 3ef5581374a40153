-- Why the rank falls at each inner read.
use Rattle.std.specs.Prelude.{◌≡◌, ℕ, zero, suc, ◌+◌, ◌<◌, List, [], ◌∷◌, map, length, Bool, true, false, IsTrue, Option, Some, None, slice_get, if◌then◌else◌, option_and_then, Contains, All}
use Rattle.std.specs.List.{flat_map, range_with_len}
use Rattle.std.proofs.Common.{arith, true≢false}
use Rattle.std.proofs.lemmas.List.Elements.{All-nil, All-cons, All-append, All-map, All-contains}
use Rattle.rig_scene.specs.Pairs.{All-flat_map}
use Rattle.rig_scene.specs.declared.id.AnimId.{AnimId}
use Rattle.rig_scene.specs.declared.id.AnimId.TheVariants as anim
use Rattle.rig_scene.specs.declared.id.ObjectId.{ObjectId}
use Rattle.rig_scene.specs.declared.path.Path.{Path}
use Rattle.rig_scene.specs.declared.path.Path.TheVariants as path
use Rattle.rig_scene.specs.declared.driver.Variable.{Variable}
use Rattle.rig_scene.specs.declared.driver.Variable.TheVariants.{Property, Transform}
use Rattle.rig_scene.specs.declared.modifier.Effect.{Effect}
use Rattle.rig_scene.specs.declared.modifier.Effect.TheVariants.{Offset, Mirror, Array}
use Rattle.rig_scene.specs.declared.object.Kind.{Kind}
use Rattle.rig_scene.specs.declared.object.Kind.TheVariants as kind
use Rattle.rig_scene.specs.declared.object.Object.{Object}
use Rattle.rig_scene.specs.declared.object.Parent.{Parent}
use Rattle.rig_scene.specs.declared.pencil.Layer.{Layer as LayerRecord}
use Rattle.rig_scene.specs.declared.quantity.Quantity.{Quantity}
use Rattle.rig_scene.specs.declared.quantity.Quantity.TheVariants.{Chan, Local, World, Bone, Layer, Geom}
use Rattle.rig_scene.specs.declared.quantity.Read.{Read}
use Rattle.rig_scene.specs.Scene.{SceneRecord, object_of}
use Rattle.rig_scene.specs.WellFormed.{is_scene, bones_of}
use Rattle.rig_scene.specs.Drivers.{driver_of, is_driven, driven_paths}
use Rattle.rig_scene.specs.Channel.{channels, axes}
use Rattle.rig_scene.specs.Quantities.{inner_read, reference_read, space_quantity, variable_reads, driven_reads, parent_reads, bone_reads, layer_reads, effect_reads, modifiers_of, geometry_reads, reads}
use Rattle.rig_laws.specs.Lists.{All-of_any, All-one, All-option, option_and_then-Some}
use Rattle.rig_laws.specs.Rank.{rank}
use Rattle.rig_laws.specs.EarlierParent.{earlier_parent}

-- a read whose source, if it is an inner read, has a rank below a bound
abbrev pub IsInnerBelow : ℕ → Read → Type 0
IsInnerBelow bound r = r.reference ≡ false → rank r.source < bound

of_reference : (bound : ℕ) (q : Quantity) → IsInnerBelow bound (reference_read q)
of_reference bound q e = absurd (true≢false e)

of_references : (bound : ℕ) (q : Quantity) → All (IsInnerBelow bound) (reference_read q ∷ [])
of_references bound q = All-one (IsInnerBelow bound) (reference_read q) (of_reference bound q)

of_driven : (s : SceneRecord) (bound : ℕ) (id : AnimId) (paths : List Path) → 0 < bound → All (IsInnerBelow bound) (driven_reads s id paths)
of_driven s bound id paths l =
    All-map (IsInnerBelow bound) (λ p. inner_read (Chan id p)) (driven_paths s id paths)
    (All-of_any (λ p. IsInnerBelow bound (inner_read (Chan id p))) (driven_paths s id paths) (λ p e. l))

of_variable : (s : SceneRecord) (bound : ℕ) (v : Variable) → All (IsInnerBelow bound) (variable_reads s v)
of_variable s bound (Property id p) = by (is_driven s id p)
  where
    by : (b : Bool) → All (IsInnerBelow bound) (if b then reference_read (Chan id p) ∷ [] else [])
    by true = of_references bound (Chan id p)
    by false = All-nil (IsInnerBelow bound)
of_variable s bound (Transform o space channel) = of_references bound (space_quantity o space)

of_parent : (bound : ℕ) (parent : Option Parent) → All (IsInnerBelow bound) (parent_reads parent)
of_parent bound None = All-nil (IsInnerBelow bound)
of_parent bound (Some parent) =
    All-cons (IsInnerBelow bound) (reference_read (World parent.object)) _ (of_reference bound (World parent.object))
    (All-option (IsInnerBelow bound) (λ b. reference_read (Bone parent.object b) ∷ []) parent.bone (λ b e. of_references bound (Bone parent.object b)))

of_effect : (bound : ℕ) → 2 < bound → (o : ObjectId) (effect : Effect) → All (IsInnerBelow bound) (effect_reads o effect)
of_effect bound l o (Offset loc scale) = All-nil (IsInnerBelow bound)
of_effect bound l o (Mirror mirror) =
    All-option (IsInnerBelow bound) (λ centre. inner_read (World o) ∷ reference_read (World centre) ∷ []) mirror.centre
    (λ centre e. All-cons (IsInnerBelow bound) (inner_read (World o)) (reference_read (World centre) ∷ []) (λ is. l) (of_references bound (World centre)))
of_effect bound l o (Array count offset) = All-nil (IsInnerBelow bound)

of_layers : (s : SceneRecord) (id : ObjectId) (name : List ℕ) (object : Object) → All (IsInnerBelow 3) (geometry_reads s object 0)
of_layers s id name object = by object.kind
  where
    by : (k : Kind) → All (IsInnerBelow 3) (geometry_reads s (record object { kind = k }) 0)
    by kind.Empty = All-nil (IsInnerBelow 3)
    by (kind.Armature armature pose) = All-nil (IsInnerBelow 3)
    by (kind.Pencil p modifiers) =
        All-option (IsInnerBelow 3) (λ pencil. map (λ l. inner_read (Layer p l)) (range_with_len 0 (length pencil.layers))) (slice_get s.pencils p)
        (λ pencil e. All-map (IsInnerBelow 3) (λ l. inner_read (Layer p l)) (range_with_len 0 (length pencil.layers))
        (All-of_any (λ l. IsInnerBelow 3 (inner_read (Layer p l))) (range_with_len 0 (length pencil.layers)) (λ l is. omega arith)))

of_geometry : (s : SceneRecord) (o : ObjectId) (object : Object) (i : ℕ) → All (IsInnerBelow (3 + i)) (geometry_reads s object i)
of_geometry s o object zero = of_layers s o [] object
of_geometry s o object (suc i) =
    All-cons (IsInnerBelow (3 + suc i)) (inner_read (Geom object.id i)) _ (λ is. omega arith)
    (All-option (IsInnerBelow (3 + suc i)) (λ m. effect_reads object.id m.effect) (slice_get (modifiers_of object.kind) i)
    (λ m e. of_effect (3 + suc i) (omega arith) object.id m.effect))

of_bone : (s : SceneRecord) → IsTrue (is_scene s) → (o : ObjectId) (b : ℕ) → All (IsInnerBelow (1 + b)) (reads s (Bone o b))
of_bone s is o b =
    All-option (IsInnerBelow (1 + b)) (bone_reads s o) (option_and_then (λ bones. slice_get bones b) (bones_of s o))
    (λ bone e.
    let found = option_and_then-Some (λ bones. slice_get bones b) (bones_of s o) bone e in
    All-append (IsInnerBelow (1 + b)) (driven_reads s (anim.Object o) (map (path.Bone bone.name) channels)) _
    (of_driven s (1 + b) (anim.Object o) (map (path.Bone bone.name) channels) (omega arith))
    (All-option (IsInnerBelow (1 + b)) (λ p. inner_read (Bone o p) ∷ []) bone.parent
    (λ p f. All-one (IsInnerBelow (1 + b)) (inner_read (Bone o p)) (λ r. let l = earlier_parent s is o found.0 found.1 b bone found.2 p f in omega arith))))

of_layer : (s : SceneRecord) (p : ℕ) (layer : LayerRecord) → All (IsInnerBelow 1) (layer_reads s p layer)
of_layer s p layer =
    All-append (IsInnerBelow 1) (driven_reads s (anim.Pencil p) (map (path.Layer layer.name) axes)) _
    (of_driven s 1 (anim.Pencil p) (map (path.Layer layer.name) axes) (omega arith))
    (All-option (IsInnerBelow 1) (λ b. reference_read (Bone b.object b.bone) ∷ []) layer.bound (λ b e. of_references 1 (Bone b.object b.bone)))

-- the inner reads of each quantity
pub inner_below : (s : SceneRecord) → IsTrue (is_scene s) → (q : Quantity) → All (IsInnerBelow (rank q)) (reads s q)
inner_below s is (Chan id p) =
    All-option (IsInnerBelow 0) (λ d. flat_map (variable_reads s) d.variables) (driver_of s id p)
    (λ d e. All-flat_map (IsInnerBelow 0) (variable_reads s) d.variables (All-of_any (λ v. All (IsInnerBelow 0) (variable_reads s v)) d.variables (of_variable s 0)))
inner_below s is (Local o) = of_driven s 1 (anim.Object o) (map path.Own channels) (omega arith)
inner_below s is (World o) =
    All-cons (IsInnerBelow 2) (inner_read (Local o)) _ (λ r. omega arith)
    (All-option (IsInnerBelow 2) (λ object. parent_reads object.parent) (object_of s o) (λ object e. of_parent 2 object.parent))
inner_below s is (Bone o b) = of_bone s is o b
inner_below s is (Layer p l) =
    All-option (IsInnerBelow 1) (layer_reads s p) (option_and_then (λ pencil. slice_get pencil.layers l) (slice_get s.pencils p)) (λ layer e. of_layer s p layer)
inner_below s is (Geom o i) =
    All-option (IsInnerBelow (3 + i)) (λ object. geometry_reads s object i) (object_of s o) (λ object e. of_geometry s o object i)

-- the rank falls at each inner read
pub rank_falls : (s : SceneRecord) → IsTrue (is_scene s) → (q : Quantity) (r : Read) → Contains (reads s q) r → r.reference ≡ false → rank r.source < rank q
rank_falls s is q r within = All-contains (IsInnerBelow (rank q)) (reads s q) r (inner_below s is q) within
