-- A scene of which one pencil is changed, or one layer of it: what stays the same for an operation, and what is touched.
use Rattle.std.specs.Prelude.{◌≡◌, ℕ, List, [], ◌∷◌, slice_get, true, Option, Some, option_map, option_and_then, Contains}
use Rattle.std.specs.Option.{option_map_or}
use Rattle.std.specs.List.{find, position}
use Rattle.std.proofs.Common.{refl, sym, ap, subst, ◌∙◌}
use Rattle.rig_scene.specs.declared.channel.Axis.{Axis}
use Rattle.rig_scene.specs.declared.driver.Variable.{Variable}
use Rattle.rig_scene.specs.declared.driver.Variable.TheVariants as variable
use Rattle.rig_scene.specs.declared.id.AnimId.{AnimId}
use Rattle.rig_scene.specs.declared.id.AnimId.TheVariants as anim
use Rattle.rig_scene.specs.declared.id.ObjectId.{ObjectId}
use Rattle.rig_scene.specs.declared.object.Object.{Object}
use Rattle.rig_scene.specs.declared.operation.OpId.TheVariants.{Driver, Layer, Geometry}
use Rattle.rig_scene.specs.declared.path.Path.{Path}
use Rattle.rig_scene.specs.declared.path.Path.TheVariants as paths
use Rattle.rig_scene.specs.declared.pencil.Layer.{Layer as LayerRecord}
use Rattle.rig_scene.specs.declared.pencil.PencilData.{PencilData}
use Rattle.rig_scene.specs.Channel.{coordinate_of}
use Rattle.rig_scene.specs.ChannelNumber.{original_number}
use Rattle.rig_scene.specs.Drivers.{driver_of}
use Rattle.rig_scene.specs.Layer.{held_drawing}
use Rattle.rig_scene.specs.Scene.{SceneRecord, object_of}
use Rattle.rig_scene.specs.Text.{same_text}
use Rattle.rig_edits.specs.Edited.{with_pencil, with_layer}
use Rattle.rig_edits.specs.Named.{pencil_index, update_first}
use Rattle.rig_laws.specs.FoundObject.{found_id, found_object}
use Rattle.rig_laws.specs.Lists.{All-of_any}
use Rattle.rig_touch.specs.Agree.{bare}
use Rattle.rig_touch.specs.FirstChanged.{at_index, map-first, find-first}
use Rattle.rig_touch.specs.Listed.{first_listed, kept_listed}
use Rattle.rig_touch.specs.OtherPencils.{SameAt, SameOriginal, Beside, bare_layer, held, switches}
use Rattle.rig_touch.specs.Touch.{has_pencil, geometries_of, layer_operations, layers_named}

-- ---- what is touched

-- the geometry of each object of a pencil
pub geometry_touched : (s : SceneRecord) (o : ObjectId) (object : Object) (p : ℕ) → object_of s o ≡ Some object
    → has_pencil p object.kind ≡ true → Contains (geometries_of s p) (Geometry o)
geometry_touched s o object p found has =
    subst (λ id. Contains (geometries_of s p) (Geometry id)) (found_id s o object found)
    (kept_listed (λ (o : Object). Geometry o.id) (λ o. has_pencil p o.kind) s.objects object (found_object s o object found) has)

-- the layer of a name
pub layer_operations_are : (s : SceneRecord) (p l : ℕ) (layer : List ℕ) (x : PencilData) → slice_get s.pencils p ≡ Some x
    → position (λ l. same_text l.name layer) x.layers ≡ Some l → layer_operations s p layer ≡ Layer p l ∷ []
layer_operations_are s p l layer x at there =
    ap (λ r. option_map_or (λ l. Layer p l ∷ [])
    (option_and_then (λ (pencil : PencilData). position (λ l. same_text l.name layer) pencil.layers) r) []) at
    ∙ ap (λ r. option_map_or (λ l. Layer p l ∷ []) r []) there

pub layer_touched : (s : SceneRecord) (pencil layer : List ℕ) (p l : ℕ) (x : PencilData) → pencil_index s pencil ≡ Some p
    → slice_get s.pencils p ≡ Some x → position (λ l. same_text l.name layer) x.layers ≡ Some l
    → Contains (layers_named s pencil layer) (Layer p l)
layer_touched s pencil layer p l x is at there =
    subst (λ ops. Contains ops (Layer p l))
    (sym (ap (λ r. option_map_or (λ p. layer_operations s p layer) r []) is ∙ layer_operations_are s p l layer x at there))
    (first_listed (Layer p l) [])

-- ---- a pencil changed

-- what is read of a pencil is the same where it is of the one that is changed
pub same_at : {C : Type 0} (s : SceneRecord) (pencil : List ℕ) (change : PencilData → PencilData) (f : PencilData → Option C) (p : ℕ)
    → ((x : PencilData) → pencil_index s pencil ≡ Some p → slice_get s.pencils p ≡ Some x → f (change x) ≡ f x)
    → SameAt s.pencils (with_pencil s pencil change).pencils f p
same_at s pencil change f p same =
    at_index (λ p. same_text p.name pencil) change s.pencils p (λ r. option_and_then f (slice_get s.pencils p) ≡ option_and_then f r) refl
    (λ x is at passes. ap (option_and_then f) at ∙ sym (same x is at))

-- ---- a layer changed

module _ (s : SceneRecord) (pencil layer : List ℕ) (change : LayerRecord → LayerRecord) where
  abbrev pub changed : PencilData → PencilData
  changed p = record p { layers = update_first (λ l. same_text l.name layer) change p.layers }

  abbrev pub pencils : List PencilData
  pencils = (with_layer s pencil layer change).pencils

  -- what is read of a layer of a pencil is the same where it is of the one that is changed
  at_layer : {C : Type 0} (x : PencilData) (l : ℕ) (g : LayerRecord → Option C)
      → ((y : LayerRecord) → position (λ l. same_text l.name layer) x.layers ≡ Some l → g (change y) ≡ g y)
      → option_and_then g (slice_get (changed x).layers l) ≡ option_and_then g (slice_get x.layers l)
  at_layer x l g same =
      at_index (λ l. same_text l.name layer) change x.layers l (λ r. option_and_then g r ≡ option_and_then g (slice_get x.layers l)) refl
      (λ y is at passes. same y is ∙ sym (ap (option_and_then g) at))

  -- a layer but its switch, and the drawing that it holds, are the same, where they are of the one that is changed
  pub layer_beside : (p l : ℕ)
      → ((x : PencilData) (y : LayerRecord) → pencil_index s pencil ≡ Some p → slice_get s.pencils p ≡ Some x
      → position (λ l. same_text l.name layer) x.layers ≡ Some l → bare (change y) ≡ bare y)
      → Beside s pencils (Layer p l)
  layer_beside p l same = (
    same_at s pencil changed (bare_layer l) p (λ x is at. at_layer x l (λ y. Some (bare y)) (λ y there. ap Some (same x y is at there))),
    λ frame. same_at s pencil changed (held l frame) p (λ x is at.
        at_layer x l (λ y. option_and_then (slice_get x.drawings) (held_drawing y.keys frame))
        (λ y there. ap (λ (y : LayerRecord). option_and_then (slice_get x.drawings) (held_drawing y.keys frame)) (same x y is at there))),
  )

  -- the switches are the same where the change leaves them
  pub switches_beside : (o : ObjectId) → ((y : LayerRecord) → (change y).hidden ≡ y.hidden) → Beside s pencils (Geometry o)
  switches_beside o same = λ object found p has.
      same_at s pencil changed switches p
      (λ x is at. ap Some (map-first (λ l. same_text l.name layer) change x.layers (λ l. l.hidden) (λ y passes. same y)))

  -- the original number of a variable is the same, where the change leaves it
  pub original_beside : (v : Variable) → ((y : LayerRecord) → (change y).name ≡ y.name)
      → ((p : ℕ) (name : List ℕ) (axis : Axis) → v ≡ variable.Property (anim.Pencil p) (paths.Layer name axis)
      → pencil_index s pencil ≡ Some p → (y : LayerRecord) → same_text y.name layer ≡ true → same_text y.name name ≡ true
      → coordinate_of (change y).offset axis ≡ coordinate_of y.offset axis)
      → SameOriginal s pencils v
  unfolding original_number
  original_beside (variable.Property (anim.Object o) path) names same = refl
  original_beside (variable.Property (anim.Pencil p) (paths.Own channel)) names same = refl
  original_beside (variable.Property (anim.Pencil p) (paths.Bone name channel)) names same = refl
  original_beside (variable.Property (anim.Pencil p) (paths.Layer name axis)) names same =
      same_at s pencil changed (λ x. option_map (λ l. coordinate_of l.offset axis) (find (λ l. same_text l.name name) x.layers)) p
      (λ x is at. find-first (λ l. same_text l.name layer) change x.layers (λ l. same_text l.name name) (λ l. coordinate_of l.offset axis)
      (λ y passes. ap (λ n. same_text n name) (names y)) (λ y passes found. same p name axis refl is y passes found))
  original_beside (variable.Transform object space channel) names same = tt

  -- that of each is, where the change leaves all offsets
  pub originals_beside : (id : AnimId) (path : Path) → ((y : LayerRecord) → (change y).name ≡ y.name)
      → ((y : LayerRecord) → (change y).offset ≡ y.offset) → Beside s pencils (Driver id path)
  originals_beside id path names offsets =
      All-of_any (SameOriginal s pencils) (option_map_or (λ d. d.variables) (driver_of s id path) [])
      (λ v. original_beside v names (λ p name axis e is y passes found. ap (λ v. coordinate_of v axis) (offsets y)))

  -- the action of a pencil is the same
  pub actions_same : (p : ℕ) → SameAt s.pencils pencils (λ pencil. pencil.action) p
  actions_same p = same_at s pencil changed (λ pencil. pencil.action) p (λ x is at. refl)
