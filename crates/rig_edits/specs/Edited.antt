-- What an edit makes of a scene. What isn't named here stays as it is; where a name means nothing, so does the whole scene.
use Rattle.std.specs.Prelude.{ℕ, ◌+◌, ◌&&◌, not, List, [], ◌∷◌, ◌++◌, filter, replicate, Bool, if◌then◌else◌, int_lt, Option, None, Some, option_map, option_and_then, unwrap_or, ℤ, pos, negsuc}
use Rattle.std.specs.Option.{option_map_or}
use Rattle.std.specs.List.{list_any}
use Rattle.std.specs.Ordering.{int_eq}
use Rattle.rig_fixed.specs.declared.vector.V3.{V3}
use Rattle.rig_fixed.specs.Fixed.{unit}
use Rattle.rig_fixed.specs.Vector.{origin}
use Rattle.rig_scene.specs.declared.action.Action.{Action}
use Rattle.rig_scene.specs.declared.action.Curve.{Curve}
use Rattle.rig_scene.specs.declared.channel.Channels.{Channels}
use Rattle.rig_scene.specs.declared.driver.Driver.{Driver}
use Rattle.rig_scene.specs.declared.driver.Space.{Space}
use Rattle.rig_scene.specs.declared.driver.Space.TheVariants as space
use Rattle.rig_scene.specs.declared.driver.Variable.{Variable}
use Rattle.rig_scene.specs.declared.driver.Variable.TheVariants as variable
use Rattle.rig_scene.specs.declared.id.AnimId.{AnimId}
use Rattle.rig_scene.specs.declared.id.ObjectId.{ObjectId}
use Rattle.rig_scene.specs.declared.id.AnimId.TheVariants as anim
use Rattle.rig_scene.specs.declared.modifier.Effect.{Effect}
use Rattle.rig_scene.specs.declared.modifier.Effect.TheVariants as effect
use Rattle.rig_scene.specs.declared.modifier.Mode.{Mode}
use Rattle.rig_scene.specs.declared.modifier.Mode.TheVariants.{Viewport, Render}
use Rattle.rig_scene.specs.declared.modifier.Modifier.{Modifier}
use Rattle.rig_scene.specs.declared.object.Kind.{Kind}
use Rattle.rig_scene.specs.declared.object.Kind.TheVariants.{Empty, Armature, Pencil}
use Rattle.rig_scene.specs.declared.object.Object.{Object}
use Rattle.rig_scene.specs.declared.object.Parent.{Parent}
use Rattle.rig_scene.specs.declared.path.Path.{Path}
use Rattle.rig_scene.specs.declared.path.Path.TheVariants.{Own, Bone, Layer}
use Rattle.rig_scene.specs.declared.pencil.Layer.{Layer as LayerRecord}
use Rattle.rig_scene.specs.declared.pencil.PencilData.{PencilData}
use Rattle.rig_scene.specs.Channel.{with_channel, with_coordinate}
use Rattle.rig_scene.specs.Id.{same_object, same_id}
use Rattle.rig_scene.specs.Path.{same_path}
use Rattle.rig_scene.specs.Scene.{SceneRecord}
use Rattle.rig_scene.specs.Text.{same_text}
use Rattle.rig_scene.specs.WellFormed.{same_target}
use Rattle.rig_edits.specs.DriverByNames.{DriverByNames}
use Rattle.rig_edits.specs.declared.edit.Edit.{Edit}
use Rattle.rig_edits.specs.declared.edit.Edit.TheVariants.{SetValue, SetKey, DeleteKey, SetFlag, MovePoint, SetLayerKey, DeleteLayerKey, SetParent, SetDriver, ClearDriver, AddObject, RemoveObject, AddModifier, RemoveModifier}
use Rattle.rig_edits.specs.declared.edit.Flag.TheVariants.{Switch, Hidden}
use Rattle.rig_edits.specs.declared.edit.IdName.{IdName}
use Rattle.rig_edits.specs.declared.edit.IdName.TheVariants as named
use Rattle.rig_edits.specs.declared.edit.NewEffect.{NewEffect}
use Rattle.rig_edits.specs.declared.edit.NewEffect.TheVariants.{Offset, Mirror, Array}
use Rattle.rig_edits.specs.declared.edit.NewKind.{NewKind}
use Rattle.rig_edits.specs.declared.edit.NewKind.TheVariants as new
use Rattle.rig_edits.specs.declared.edit.NewParent.{NewParent}
use Rattle.rig_edits.specs.declared.edit.NewVariable.{NewVariable}
use Rattle.rig_edits.specs.declared.edit.NewVariable.TheVariants.{Property, Transform}
use Rattle.rig_edits.specs.declared.edit.Whole3.{Whole3}
use Rattle.rig_edits.specs.Named.{object_named, bone_index, armature_index, pencil_index, id_of, update_at, update_first, update_at_number}
use Rattle.rig_edits.specs.Conditions.{new_bones}

-- ---- a scene with one of its records changed

abbrev pub with_action : SceneRecord → List ℕ → (Action → Action) → SceneRecord
with_action s name change = record s { actions = update_first (λ a. same_text a.name name) change s.actions }

abbrev pub with_curve : SceneRecord → List ℕ → Path → (Curve → Curve) → SceneRecord
with_curve s action path change =
    with_action s action (λ a. record a { curves = update_first (λ c. same_path c.path path) change a.curves })

abbrev pub with_pencil : SceneRecord → List ℕ → (PencilData → PencilData) → SceneRecord
with_pencil s name change = record s { pencils = update_first (λ p. same_text p.name name) change s.pencils }

abbrev pub with_layer : SceneRecord → List ℕ → List ℕ → (LayerRecord → LayerRecord) → SceneRecord
with_layer s pencil layer change =
    with_pencil s pencil (λ p. record p { layers = update_first (λ l. same_text l.name layer) change p.layers })

abbrev pub with_object : SceneRecord → List ℕ → (Object → Object) → SceneRecord
with_object s name change = record s { objects = update_first (λ o. same_text o.name name) change s.objects }

-- a pencil object's stack changed
abbrev pub stack_changed : (List Modifier → List Modifier) → Kind → Kind
stack_changed change Empty = Empty
stack_changed change (Armature armature pose) = Armature armature pose
stack_changed change (Pencil pencil modifiers) = Pencil pencil (change modifiers)

abbrev pub with_stack : SceneRecord → List ℕ → (List Modifier → List Modifier) → SceneRecord
with_stack s object change = with_object s object (λ o. record o { kind = stack_changed change o.kind })

-- ---- values

-- a whole number that isn't negative
abbrev pub natural : ℤ → ℕ
natural (pos n) = n
natural (negsuc n) = 0

abbrev pub v3_of : Whole3 → V3
v3_of v = record { x = v.x; y = v.y; z = v.z }

-- an armature object's pose of the bone of a name changed
abbrev pub pose_changed : SceneRecord → List ℕ → (Channels → Channels) → Kind → Kind
pose_changed s bone change Empty = Empty
pose_changed s bone change (Armature armature pose) =
    Armature armature (option_map_or (λ index. update_at change index pose) (bone_index s (Armature armature pose) bone) pose)
pose_changed s bone change (Pencil pencil modifiers) = Pencil pencil modifiers

abbrev pub with_pose : SceneRecord → List ℕ → List ℕ → (Channels → Channels) → SceneRecord
with_pose s object bone change = with_object s object (λ o. record o { kind = pose_changed s bone change o.kind })

-- the original number of a channel set
abbrev pub set_value : SceneRecord → IdName → Path → ℤ → SceneRecord
set_value s (named.Object name) (Own channel) value = with_object s name (λ o. record o { own = with_channel o.own channel value })
set_value s (named.Object name) (Bone bone channel) value =
    with_pose s name bone (λ pose. with_channel pose channel value)
set_value s (named.Object name) (Layer layer axis) value = s
set_value s (named.Pencil name) (Own channel) value = s
set_value s (named.Pencil name) (Bone bone channel) value = s
set_value s (named.Pencil name) (Layer layer axis) value =
    with_layer s name layer (λ l. record l { offset = with_coordinate l.offset axis value })

-- ---- keys

-- a key in its place between those before and those after its frame
abbrev pub put_key : {K : Type 0} → (K → ℤ) → K → List K → List K
put_key frame_of key keys =
    filter (λ k. int_lt (frame_of k) (frame_of key)) keys ++ key ∷ filter (λ k. int_lt (frame_of key) (frame_of k)) keys

-- the keys at other frames
abbrev pub drop_key : {K : Type 0} → (K → ℤ) → ℤ → List K → List K
drop_key frame_of frame keys = filter (λ k. not (int_eq (frame_of k) frame)) keys

-- ---- switches

abbrev pub with_switch : Mode → Bool → Modifier → Modifier
with_switch Viewport on m = record m { viewport = on }
with_switch Render on m = record m { render = on }

-- ---- parents

-- the object of a name, or its bone of a name
abbrev pub parent_of : SceneRecord → NewParent → Option Parent
parent_of s p = option_map (λ o. record { object = o.id; bone = option_and_then (bone_index s o.kind) p.bone }) (object_named s p.object)

-- ---- drivers

-- the transform that a variable names: of a bone where it names one
abbrev pub space_of : SceneRecord → Object → Option (List ℕ) → Bool → Space
space_of s o None world = if world then space.World else space.Local
space_of s o (Some bone) world = space.Pose (unwrap_or (bone_index s o.kind bone) 0)

abbrev pub variable_of : SceneRecord → NewVariable → Option Variable
variable_of s (Property id path) = option_map (λ a. variable.Property a path) (id_of s id)
variable_of s (Transform object bone world channel) =
    option_map (λ o. variable.Transform o.id (space_of s o bone world) channel) (object_named s object)

-- the variables whose names mean something
abbrev pub variables_of : SceneRecord → List NewVariable → List Variable
variables_of s [] = []
variables_of s (v ∷ vs) = option_map_or (λ x. x ∷ variables_of s vs) (variable_of s v) (variables_of s vs)

abbrev pub new_driver : SceneRecord → AnimId → Path → DriverByNames → Driver
new_driver s id path driver = record { id = id; path = path; kind = driver.kind; variables = variables_of s driver.variables }

-- a driver in the place of the one of its channel, or behind all others
abbrev pub put_driver : Driver → List Driver → List Driver
put_driver driver drivers =
    if list_any (same_target driver) drivers then update_first (same_target driver) (λ _. driver) drivers else drivers ++ driver ∷ []

abbrev pub set_driver : SceneRecord → IdName → Path → DriverByNames → SceneRecord
set_driver s id path driver =
    option_map_or (λ a. record s { drivers = put_driver (new_driver s a path driver) s.drivers }) (id_of s id) s

abbrev pub clear_driver : SceneRecord → IdName → Path → SceneRecord
clear_driver s id path =
    option_map_or (λ a. record s { drivers = filter (λ d. not (same_id d.id a && same_path d.path path)) s.drivers }) (id_of s id) s

-- ---- objects

abbrev pub at_rest : Channels
at_rest = record { loc = origin; rot = record { w = unit; x = pos 0; y = pos 0; z = pos 0 }; scale = unit }

-- an armature object at rest, or a pencil object without modifiers
abbrev pub kind_of : SceneRecord → NewKind → Option Kind
kind_of s new.Empty = Some Empty
kind_of s (new.Armature name) =
    option_map (λ index. Armature index (replicate (new_bones s (new.Armature name)) at_rest)) (armature_index s name)
kind_of s (new.Pencil name) = option_map (λ index. Pencil index []) (pencil_index s name)

-- an object of the next serial, at rest, with no action and no parent
abbrev pub new_object : SceneRecord → List ℕ → Kind → Object
new_object s name kind = record {
  id = record { 0 = s.next };
  name = name;
  own = at_rest;
  action = None;
  parent = None;
  kind = kind;
}

-- an object behind all others
abbrev pub add_object : SceneRecord → List ℕ → NewKind → SceneRecord
add_object s name kind =
    option_map_or (λ k. record s { objects = s.objects ++ new_object s name k ∷ []; next = s.next + 1 }) (kind_of s kind) s

-- the scene without the object of an id, and without its own drivers
abbrev pub without_object : SceneRecord → ObjectId → SceneRecord
without_object s id = record s {
  objects = filter (λ o. not (same_object o.id id)) s.objects;
  drivers = filter (λ d. not (same_id d.id (anim.Object id))) s.drivers;
}

abbrev pub remove_object : SceneRecord → List ℕ → SceneRecord
remove_object s name = option_map_or (λ o. without_object s o.id) (object_named s name) s

-- ---- modifiers

-- what an effect by names does: a mirror has the object of the name as its centre
abbrev pub effect_of : SceneRecord → NewEffect → Effect
effect_of s (Offset loc scale) = effect.Offset (v3_of loc) scale
effect_of s (Mirror x y z object) = effect.Mirror (record {
  x = x;
  y = y;
  z = z;
  centre = option_and_then (λ name. option_map (λ o. o.id) (object_named s name)) object;
})
effect_of s (Array count offset) = effect.Array (natural count) (v3_of offset)

abbrev pub new_modifier : SceneRecord → List ℕ → Bool → Bool → NewEffect → Modifier
new_modifier s name viewport render effect = record { name = name; viewport = viewport; render = render; effect = effect_of s effect }

-- ---- the scene that an edit makes

abbrev pub edited : SceneRecord → Edit → SceneRecord
edited s (SetValue id path value) = set_value s id path value
edited s (SetKey action path frame value interp) =
    with_curve s action path (λ c. record c { keys = put_key (λ k. k.frame) (record { frame = frame; interp = interp; value = value }) c.keys })
edited s (DeleteKey action path frame) = with_curve s action path (λ c. record c { keys = drop_key (λ k. k.frame) frame c.keys })
edited s (SetFlag (Switch object modifier mode) on) =
    with_stack s object (update_first (λ m. same_text m.name modifier) (with_switch mode on))
edited s (SetFlag (Hidden pencil layer) on) = with_layer s pencil layer (λ l. record l { hidden = on })
edited s (MovePoint pencil drawing stroke point to) =
    with_pencil s pencil (λ p. record p {
      drawings = update_at_number (λ d. record d {
        strokes = update_at_number
            (λ k. record k { points = update_at_number (λ _. v3_of to) point k.points }) stroke d.strokes;
      }) drawing p.drawings;
    })
edited s (SetLayerKey pencil layer frame drawing) =
    with_layer s pencil layer (λ l. record l { keys = put_key (λ k. k.frame) (record { frame = frame; drawing = natural drawing }) l.keys })
edited s (DeleteLayerKey pencil layer frame) = with_layer s pencil layer (λ l. record l { keys = drop_key (λ k. k.frame) frame l.keys })
edited s (SetParent object parent) = with_object s object (λ o. record o { parent = option_and_then (parent_of s) parent })
edited s (SetDriver id path driver) = set_driver s id path driver
edited s (ClearDriver id path) = clear_driver s id path
edited s (AddObject name kind) = add_object s name kind
edited s (RemoveObject object) = remove_object s object
edited s (AddModifier object name viewport render effect) =
    with_stack s object (λ modifiers. modifiers ++ new_modifier s name viewport render effect ∷ [])
edited s (RemoveModifier object modifier) = with_stack s object (filter (λ m. not (same_text m.name modifier)))
