-- What an edit of a pencil doesn't touch has all in common with the scene before it.
use Rattle.std.specs.Prelude.{◌≡◌, ℕ, ◌&&◌, List, [], ◌++◌, Bool, true, false, Some, option_map, ℤ, Contains}
use Rattle.std.specs.Option.{option_map_or}
use Rattle.std.specs.List.{list_any}
use Rattle.std.proofs.Common.{refl, sym, ap, subst, ◌∙◌, true≢false}
use Rattle.std.proofs.lemmas.Bool.{and_parts, and_from}
use Rattle.std.proofs.lemmas.List.Elements.{Contains-append_left, Contains-append_right}
use Rattle.std.proofs.lemmas.List.Folds.{list_any-from_Any}
use Rattle.rig_fixed.specs.declared.vector.V3.{V3}
use Rattle.rig_scene.specs.declared.channel.Axis.{Axis}
use Rattle.rig_scene.specs.declared.channel.Axis.TheVariants.{X, Y, Z}
use Rattle.rig_scene.specs.declared.driver.Variable.{Variable}
use Rattle.rig_scene.specs.declared.driver.Variable.TheVariants as variable
use Rattle.rig_scene.specs.declared.id.AnimId.TheVariants as anim
use Rattle.rig_scene.specs.declared.operation.OpId.{OpId}
use Rattle.rig_scene.specs.declared.operation.OpId.TheVariants.{Driver, Layer, Geometry}
use Rattle.rig_scene.specs.declared.path.Path.TheVariants as paths
use Rattle.rig_scene.specs.declared.pencil.Layer.{Layer as LayerRecord}
use Rattle.rig_scene.specs.Channel.{coordinate_of, with_coordinate, same_axis}
use Rattle.rig_scene.specs.Drivers.{driver_of}
use Rattle.rig_scene.specs.Scene.{SceneRecord}
use Rattle.rig_scene.specs.Text.{same_text}
use Rattle.rig_scene.specs.declared.driver.Driver.{Driver as DriverRecord}
use Rattle.rig_scene.specs.declared.id.AnimId.{AnimId}
use Rattle.rig_scene.specs.declared.path.Path.{Path}
use Rattle.rig_scene.specs.declared.pencil.LayerKey.{LayerKey}
use Rattle.rig_scene.specs.Id.{same_id}
use Rattle.rig_scene.specs.Path.{same_path}
use Rattle.rig_scene.specs.Same.{same_text-Decides, same_axis-equal, same_id-equal, same_id-itself, same_path-equal, same_path-itself}
use Rattle.rig_edits.specs.declared.edit.Edit.TheVariants.{SetValue, SetFlag, SetLayerKey, DeleteLayerKey}
use Rattle.rig_edits.specs.declared.edit.Flag.TheVariants.{Hidden}
use Rattle.rig_edits.specs.Edited.{edited, with_layer, put_key, drop_key, natural}
use Rattle.rig_edits.specs.Named.{pencil_index}
use Rattle.rig_edits.specs.declared.edit.IdName.TheVariants as named
use Rattle.rig_laws.specs.Lists.{All-elements, All-option, find-Some}
use Rattle.rig_touch.specs.Agree.{Agree}
use Rattle.rig_touch.specs.Listed.{first_listed, kept_listed}
use Rattle.rig_touch.specs.OtherPencils.{SameOriginal, Beside, switches, agree_beside, itself_agrees}
use Rattle.rig_touch.specs.Touch.{geometries_of, layer_operations, layers_named, touch, channel_operations, property_readers, is_property}
use Rattle.rig_touch.specs.ChangedLayer.{geometry_touched, layer_operations_are, layer_touched, same_at, changed, pencils, layer_beside, switches_beside, original_beside, originals_beside, actions_same}

-- ---- a layer hidden or shown

pub set_hidden_agrees : (s : SceneRecord) (pencil layer : List ℕ) (on : Bool) (op : OpId)
    → (Contains (touch s (SetFlag (Hidden pencil layer) on)) op → ⊥) → Agree s (edited s (SetFlag (Hidden pencil layer) on)) op
unfolding touch
set_hidden_agrees s pencil layer on op apart =
    agree_beside s (pencils s pencil layer hide) (actions_same s pencil layer hide) op (beside op apart)
  where
    hide : LayerRecord → LayerRecord
    hide l = record l { hidden = on }

    beside : (op : OpId) → (Contains (touch s (SetFlag (Hidden pencil layer) on)) op → ⊥) → Beside s (pencils s pencil layer hide) op
    beside (Driver id path) apart = originals_beside s pencil layer hide id path (λ y. refl) (λ y. refl)
    beside (Layer p l) apart = layer_beside s pencil layer hide p l (λ x y is at there. refl)
    beside (Geometry o) apart = λ object found p has.
        same_at s pencil (changed s pencil layer hide) switches p (λ x is at.
        absurd (apart (subst (λ ops. Contains ops (Geometry o)) (sym (ap (λ r. option_map_or (geometries_of s) r []) is))
        (geometry_touched s o object p found has))))
    beside op apart = tt

-- ---- the keys of a layer

keys_agree : (s : SceneRecord) (pencil layer : List ℕ) (keys : List LayerKey → List LayerKey) (op : OpId)
    → (Contains (layers_named s pencil layer) op → ⊥) → Agree s (with_layer s pencil layer (λ l. record l { keys = keys l.keys })) op
keys_agree s pencil layer keys op apart = agree_beside s (pencils s pencil layer key) (actions_same s pencil layer key) op (beside op apart)
  where
    key : LayerRecord → LayerRecord
    key l = record l { keys = keys l.keys }

    beside : (op : OpId) → (Contains (layers_named s pencil layer) op → ⊥) → Beside s (pencils s pencil layer key) op
    beside (Driver id path) apart = originals_beside s pencil layer key id path (λ y. refl) (λ y. refl)
    beside (Layer p l) apart =
        layer_beside s pencil layer key p l (λ x y is at there. absurd (apart (layer_touched s pencil layer p l x is at there)))
    beside (Geometry o) apart = switches_beside s pencil layer key o (λ y. refl)
    beside op apart = tt

pub set_layer_key_agrees : (s : SceneRecord) (pencil layer : List ℕ) (frame drawing : ℤ) (op : OpId)
    → (Contains (touch s (SetLayerKey pencil layer frame drawing)) op → ⊥) → Agree s (edited s (SetLayerKey pencil layer frame drawing)) op
unfolding touch
set_layer_key_agrees s pencil layer frame drawing op apart =
    keys_agree s pencil layer (put_key (λ k. k.frame) (record { frame = frame; drawing = natural drawing })) op apart

pub delete_layer_key_agrees : (s : SceneRecord) (pencil layer : List ℕ) (frame : ℤ) (op : OpId)
    → (Contains (touch s (DeleteLayerKey pencil layer frame)) op → ⊥) → Agree s (edited s (DeleteLayerKey pencil layer frame)) op
unfolding touch
delete_layer_key_agrees s pencil layer frame op apart = keys_agree s pencil layer (drop_key (λ k. k.frame) frame) op apart

-- ---- the offset of a layer

-- another coordinate stays
other_coordinate : (v : V3) (axis other : Axis) (value : ℤ) → same_axis axis other ≡ false
    → coordinate_of (with_coordinate v axis value) other ≡ coordinate_of v other
other_coordinate v X X value apart = absurd (true≢false apart)
other_coordinate v X Y value apart = refl
other_coordinate v X Z value apart = refl
other_coordinate v Y X value apart = refl
other_coordinate v Y Y value apart = absurd (true≢false apart)
other_coordinate v Y Z value apart = refl
other_coordinate v Z X value apart = refl
other_coordinate v Z Y value apart = refl
other_coordinate v Z Z value apart = absurd (true≢false apart)

-- the drivers that read a channel
reader_touched : (s : SceneRecord) (id : AnimId) (path : Path) (d : DriverRecord) (of : AnimId) (at : Path) (v : Variable)
    → driver_of s id path ≡ Some d → Contains d.variables v → v ≡ variable.Property of at
    → Contains (property_readers s of at) (Driver id path)
reader_touched s id path d of at v found within is =
    let driver = find-Some (λ d. same_id d.id id && same_path d.path path) s.drivers d found in
    let parts = and_parts (same_id d.id id) (same_path d.path path) driver.1 in
    let passes : is_property of at v ≡ true =
    ap (is_property of at) is ∙ and_from (same_id of of) (same_path at at) (same_id-itself of) (same_path-itself at) in
    let same : Driver d.id d.path ≡ Driver id path = λ i. Driver (same_id-equal d.id id parts.0 i) (same_path-equal d.path path parts.1 i) in
    subst (Contains (property_readers s of at)) same
    (kept_listed (λ (d : DriverRecord). Driver d.id d.path) (λ d. list_any (is_property of at) d.variables) s.drivers d driver.0
    (list_any-from_Any (is_property of at) d.variables (within.0, v, within.1, within.2, passes)))

offset_agrees : (s : SceneRecord) (pencil layer : List ℕ) (axis : Axis) (value : ℤ) (op : OpId)
    → (Contains (touch s (SetValue (named.Pencil pencil) (paths.Layer layer axis) value)) op → ⊥)
    → Agree s (edited s (SetValue (named.Pencil pencil) (paths.Layer layer axis) value)) op
unfolding touch
offset_agrees s pencil layer axis value op apart =
    agree_beside s (pencils s pencil layer move) (actions_same s pencil layer move) op (beside op apart)
  where
    move : LayerRecord → LayerRecord
    move l = record l { offset = with_coordinate l.offset axis value }

    touched : (p : ℕ) → pencil_index s pencil ≡ Some p
        → touch s (SetValue (named.Pencil pencil) (paths.Layer layer axis) value)
        ≡ layer_operations s p layer ++ property_readers s (anim.Pencil p) (paths.Layer layer axis)
    touched p is =
        ap (λ r. option_map_or (λ a. channel_operations s a (paths.Layer layer axis) ++ property_readers s a (paths.Layer layer axis))
        (option_map (λ p. anim.Pencil p) r) []) is

    original : (id : AnimId) (path : Path) (d : DriverRecord)
        → (Contains (touch s (SetValue (named.Pencil pencil) (paths.Layer layer axis) value)) (Driver id path) → ⊥)
        → driver_of s id path ≡ Some d → (v : Variable) → Contains d.variables v → SameOriginal s (pencils s pencil layer move) v
    original id path d apart found v within = original_beside s pencil layer move v (λ y. refl)
        (λ p name other e is y passes found_too. by (same_axis axis other) p name other refl e is y passes found_too)
      where
        by : (b : Bool) (p : ℕ) (name : List ℕ) (other : Axis) → same_axis axis other ≡ b
            → v ≡ variable.Property (anim.Pencil p) (paths.Layer name other) → pencil_index s pencil ≡ Some p
            → (y : LayerRecord) → same_text y.name layer ≡ true → same_text y.name name ≡ true
            → coordinate_of (with_coordinate y.offset axis value) other ≡ coordinate_of y.offset other
        by false p name other same e is y passes too = other_coordinate y.offset axis other value same
        by true p name other same e is y passes too =
            let names : name ≡ layer = sym ((same_text-Decides y.name name).0 too) ∙ (same_text-Decides y.name layer).0 passes in
            let axes : other ≡ axis = sym (same_axis-equal axis other same) in
            absurd (apart (subst (λ ops. Contains ops (Driver id path)) (sym (touched p is))
            (Contains-append_right (layer_operations s p layer) _ (Driver id path)
            (reader_touched s id path d (anim.Pencil p) (paths.Layer layer axis) v found within
            (e ∙ (λ i. variable.Property (anim.Pencil p) (paths.Layer (names i) (axes i))))))))

    beside : (op : OpId) → (Contains (touch s (SetValue (named.Pencil pencil) (paths.Layer layer axis) value)) op → ⊥)
        → Beside s (pencils s pencil layer move) op
    beside (Driver id path) apart =
        All-option (SameOriginal s (pencils s pencil layer move)) (λ d. d.variables) (driver_of s id path)
        (λ d found. All-elements (SameOriginal s (pencils s pencil layer move)) d.variables (original id path d apart found))
    beside (Layer p l) apart = layer_beside s pencil layer move p l (λ x y is at there.
        absurd (apart (subst (λ ops. Contains ops (Layer p l)) (sym (touched p is))
        (Contains-append_left (layer_operations s p layer) _ (Layer p l)
        (subst (λ ops. Contains ops (Layer p l)) (sym (layer_operations_are s p l layer x at there)) (first_listed (Layer p l) []))))))
    beside (Geometry o) apart = switches_beside s pencil layer move o (λ y. refl)
    beside op apart = tt

-- the offset of a layer is all that a pencil's values are
pub set_pencil_value_agrees : (s : SceneRecord) (pencil : List ℕ) (path : Path) (value : ℤ) (op : OpId)
    → (Contains (touch s (SetValue (named.Pencil pencil) path value)) op → ⊥)
    → Agree s (edited s (SetValue (named.Pencil pencil) path value)) op
set_pencil_value_agrees s pencil (paths.Own channel) value op apart = itself_agrees s op
set_pencil_value_agrees s pencil (paths.Bone bone channel) value op apart = itself_agrees s op
set_pencil_value_agrees s pencil (paths.Layer layer axis) value op apart = offset_agrees s pencil layer axis value op apart
