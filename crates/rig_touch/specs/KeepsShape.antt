-- An edit that keeps all links leaves the shape of its scene.
use Rattle.std.specs.Prelude.{◌≡◌, ℕ, List, [], ◌∷◌, ◌++◌, length, map, filter, not, nat_le, Bool, true, false, Option, Some, None, option_and_then, ℤ, int_lt, IsTrue}
use Rattle.std.specs.Option.{option_map_or}
use Rattle.std.specs.Ordering.{int_eq}
use Rattle.std.proofs.Common.{refl, sym, ap, ◌∙◌, cond, subst, arith}
use Rattle.std.proofs.lemmas.Bool.{and_parts, false≢true}
use Rattle.std.proofs.lemmas.Int.{ints}
use Rattle.std.proofs.lemmas.List.Elements.{All-contains}
use Rattle.rig_scene.specs.declared.action.Action.{Action}
use Rattle.rig_scene.specs.declared.action.Curve.{Curve}
use Rattle.rig_scene.specs.declared.channel.Channels.{Channels}
use Rattle.rig_scene.specs.declared.modifier.Mode.{Mode}
use Rattle.rig_scene.specs.declared.modifier.Mode.TheVariants.{Viewport, Render}
use Rattle.rig_scene.specs.declared.modifier.Modifier.{Modifier}
use Rattle.rig_scene.specs.declared.object.Kind.{Kind}
use Rattle.rig_scene.specs.declared.object.Kind.TheVariants.{Empty, Armature, Pencil}
use Rattle.rig_scene.specs.declared.object.Object.{Object}
use Rattle.rig_scene.specs.declared.path.Path.{Path}
use Rattle.rig_scene.specs.declared.path.Path.TheVariants as paths
use Rattle.rig_scene.specs.declared.pencil.Layer.{Layer}
use Rattle.rig_scene.specs.declared.pencil.LayerKey.{LayerKey}
use Rattle.rig_scene.specs.declared.pencil.PencilData.{PencilData}
use Rattle.rig_scene.specs.declared.operation.OpId.{OpId}
use Rattle.rig_scene.specs.Channel.{with_channel, with_coordinate}
use Rattle.rig_scene.specs.Cut.{cuts}
use Rattle.rig_scene.specs.Facts.{LayerFacts, PencilFacts}
use Rattle.rig_scene.specs.FactsHold.{scene_facts}
use Rattle.rig_scene.specs.Found.{find-contains}
use Rattle.rig_scene.specs.Keys.{are_frames_rising}
use Rattle.rig_scene.specs.Operations.{operations, ins}
use Rattle.rig_scene.specs.Path.{same_path}
use Rattle.rig_scene.specs.Scene.{SceneRecord}
use Rattle.rig_scene.specs.Text.{same_text}
use Rattle.rig_scene.specs.WellFormed.{is_scene}
use Rattle.rig_edits.specs.declared.edit.Edit.{Edit}
use Rattle.rig_edits.specs.declared.edit.Edit.TheVariants.{SetValue, SetKey, DeleteKey, SetFlag, MovePoint, SetLayerKey, DeleteLayerKey, SetParent, SetDriver, ClearDriver, AddObject, RemoveObject, AddModifier, RemoveModifier}
use Rattle.rig_edits.specs.declared.edit.Flag.TheVariants.{Switch, Hidden}
use Rattle.rig_edits.specs.declared.edit.IdName.{IdName}
use Rattle.rig_edits.specs.declared.edit.IdName.TheVariants as named
use Rattle.rig_edits.specs.Edited.{edited, set_value, with_action, with_curve, with_pencil, with_layer, with_object, with_switch, stack_changed, pose_changed, put_key, drop_key, natural, v3_of, at_rest}
use Rattle.rig_edits.specs.Named.{pencil_named, layer_named, bone_index, update_at, update_first, update_at_number}
use Rattle.rig_edits.specs.Replaced.{kept_first, map-replaced, map-updated_at, map-updated_first}
use Rattle.rig_touch.specs.KeepsLinks.{keys_of_layer, keeps_links}
use Rattle.rig_touch.specs.Shape.{curve_shape, action_shape, keys_shape, layer_shape, pencil_shape, modifier_shape, kind_shape, object_shape, shape}
use Rattle.rig_touch.specs.ShapeLinks.{cuts-shape, operations-shape, ins-shape}

-- ---- a record changed whose shape stays

module _ (s : SceneRecord) where
  action_keeps : (name : List ℕ) (change : Action → Action) → ((a : Action) → action_shape (change a) ≡ action_shape a)
      → shape (with_action s name change) ≡ shape s
  unfolding shape
  action_keeps name change same =
      ap (λ actions. record (shape s) { actions = actions })
      (map-updated_first action_shape change same (λ a. same_text a.name name) s.actions)

  curve_keeps : (action : List ℕ) (path : Path) (change : Curve → Curve) → ((c : Curve) → (change c).path ≡ c.path)
      → shape (with_curve s action path change) ≡ shape s
  curve_keeps action path change same =
      action_keeps action (λ a. record a { curves = update_first (λ c. same_path c.path path) change a.curves })
      (λ a. ap (λ curves. record a { curves = curves })
      (map-updated_first curve_shape change (λ c. ap (λ path. record (curve_shape c) { path = path }) (same c)) (λ c. same_path c.path path)
      a.curves))

  pencil_keeps : (name : List ℕ) (change : PencilData → PencilData)
      → ((p : PencilData) → pencil_named s name ≡ Some p → pencil_shape (change p) ≡ pencil_shape p)
      → shape (with_pencil s name change) ≡ shape s
  unfolding shape
  pencil_keeps name change same =
      ap (λ pencils. record (shape s) { pencils = pencils })
      (kept_first (λ ps. map pencil_shape ps ≡ map pencil_shape s.pencils) change (λ p. same_text p.name name) s.pencils refl
      (λ i p at found. map-replaced pencil_shape s.pencils i p (change p) at (same p found)))

  layer_keeps : (pencil layer : List ℕ) (change : Layer → Layer)
      → ((p : PencilData) (l : Layer) → pencil_named s pencil ≡ Some p → layer_named p layer ≡ Some l
      → layer_shape (change l) ≡ layer_shape l)
      → shape (with_layer s pencil layer change) ≡ shape s
  layer_keeps pencil layer change same =
      pencil_keeps pencil (λ p. record p { layers = update_first (λ l. same_text l.name layer) change p.layers })
      (λ p found. ap (λ layers. record (pencil_shape p) { layers = layers })
      (kept_first (λ ls. map layer_shape ls ≡ map layer_shape p.layers) change (λ l. same_text l.name layer) p.layers refl
      (λ i l at there. map-replaced layer_shape p.layers i l (change l) at (same p l found there))))

  object_keeps : (name : List ℕ) (change : Object → Object) → ((o : Object) → object_shape (change o) ≡ object_shape o)
      → shape (with_object s name change) ≡ shape s
  unfolding shape
  object_keeps name change same =
      ap (λ objects. record (shape s) { objects = objects })
      (map-updated_first object_shape change same (λ o. same_text o.name name) s.objects)

  -- as many poses
  pose_keeps : (bone : List ℕ) (change : Channels → Channels) (k : Kind) → kind_shape (pose_changed s bone change k) ≡ kind_shape k
  pose_keeps bone change Empty = refl
  pose_keeps bone change (Armature armature pose) = ap (Armature armature) (by (bone_index s (Armature armature pose) bone))
    where
      by : (r : Option ℕ) → map (λ _. at_rest) (option_map_or (λ index. update_at change index pose) r pose) ≡ map (λ _. at_rest) pose
      by None = refl
      by (Some index) = map-updated_at (λ _. at_rest) change (λ c. refl) index pose
  pose_keeps bone change (Pencil pencil modifiers) = refl

  value_keeps : (id : IdName) (path : Path) (value : ℤ) → shape (set_value s id path value) ≡ shape s
  value_keeps (named.Object name) (paths.Own channel) value =
      object_keeps name (λ o. record o { own = with_channel o.own channel value }) (λ o. refl)
  value_keeps (named.Object name) (paths.Bone bone channel) value =
      object_keeps name (λ o. record o { kind = pose_changed s bone (λ pose. with_channel pose channel value) o.kind })
      (λ o. ap (λ kind. record (object_shape o) { kind = kind }) (pose_keeps bone (λ pose. with_channel pose channel value) o.kind))
  value_keeps (named.Object name) (paths.Layer layer axis) value = refl
  value_keeps (named.Pencil name) (paths.Own channel) value = refl
  value_keeps (named.Pencil name) (paths.Bone bone channel) value = refl
  value_keeps (named.Pencil name) (paths.Layer layer axis) value =
      layer_keeps name layer (λ l. record l { offset = with_coordinate l.offset axis value }) (λ p l found there. refl)

-- the modifiers but their switches
switch_keeps : (mode : Mode) (on : Bool) (m : Modifier) → modifier_shape (with_switch mode on m) ≡ modifier_shape m
switch_keeps Viewport on m = refl
switch_keeps Render on m = refl

stack_keeps : (modifier : List ℕ) (mode : Mode) (on : Bool) (k : Kind)
    → kind_shape (stack_changed (update_first (λ m. same_text m.name modifier) (with_switch mode on)) k) ≡ kind_shape k
stack_keeps modifier mode on Empty = refl
stack_keeps modifier mode on (Armature armature pose) = refl
stack_keeps modifier mode on (Pencil pencil modifiers) =
    ap (Pencil pencil)
    (map-updated_first modifier_shape (with_switch mode on) (switch_keeps mode on) (λ m. same_text m.name modifier) modifiers)

-- ---- a layer that has keys before and after

-- one key more, or in the place of one
set_keeps : (key : LayerKey) (keys : List LayerKey) → IsTrue (nat_le 1 (length keys))
    → keys_shape (put_key (λ k. k.frame) key keys) ≡ keys_shape keys
set_keeps key [] some = absurd (false≢true some)
set_keeps key (k ∷ ks) some = by (filter (λ k. int_lt k.frame key.frame) (k ∷ ks))
  where
    by : (before : List LayerKey) → keys_shape (before ++ key ∷ filter (λ k. int_lt key.frame k.frame) (k ∷ ks)) ≡ keys_shape (k ∷ ks)
    by [] = refl
    by (x ∷ xs) = refl

-- two frames that rise aren't the same one
not_both : (a b frame : ℤ) → int_eq a frame ≡ true → int_eq b frame ≡ true → int_lt a b ≡ true → ⊥
not_both a b frame first second rise = grind (arith, ints)

-- one key fewer, of two or more
delete_keeps : (frame : ℤ) (keys : List LayerKey) → IsTrue (nat_le 2 (length keys)) → IsTrue (are_frames_rising (λ k. k.frame) keys)
    → keys_shape (drop_key (λ k. k.frame) frame keys) ≡ keys_shape keys
delete_keeps frame [] two rises = refl
delete_keeps frame (j ∷ []) two rises = absurd (false≢true two)
delete_keeps frame (j ∷ k ∷ ks) two rises = by (int_eq j.frame frame) (int_eq k.frame frame) refl refl
  where
    rest : List LayerKey
    rest = drop_key (λ k. k.frame) frame ks

    by : (a b : Bool) → int_eq j.frame frame ≡ a → int_eq k.frame frame ≡ b
        → keys_shape (cond (not a) (j ∷ cond (not b) (k ∷ rest) rest) (cond (not b) (k ∷ rest) rest)) ≡ keys_shape (j ∷ k ∷ ks)
    by false b first second = refl
    by true false first second = refl
    by true true first second =
        absurd (not_both j.frame k.frame frame first second
        (and_parts (int_lt j.frame k.frame) (are_frames_rising (λ k. k.frame) (k ∷ ks)) rises).0)

module _ (s : SceneRecord) (pencil layer : List ℕ) (p : PencilData) (l : Layer) (found : pencil_named s pencil ≡ Some p)
    (there : layer_named p layer ≡ Some l) where
  keys_are : keys_of_layer s pencil layer ≡ length l.keys
  keys_are =
      ap (λ r. option_map_or (λ (l : Layer). length l.keys) (option_and_then (λ (p : PencilData). layer_named p layer) r) 0) found
      ∙ ap (λ r. option_map_or (λ (l : Layer). length l.keys) r 0) there

  frames_rise : IsTrue (is_scene s) → IsTrue (are_frames_rising (λ k. k.frame) l.keys)
  frames_rise is =
      let pencil_is = All-contains (PencilFacts s) s.pencils p (scene_facts s is).pencils.each
      (find-contains (λ p. same_text p.name pencil) s.pencils p found).0 in
      let layer_is = All-contains (LayerFacts s p) p.layers l pencil_is.layers
      (find-contains (λ l. same_text l.name layer) p.layers l there).0 in
      layer_is.frames_rise

-- ---- the edits

pub keeps_shape : (s : SceneRecord) → IsTrue (is_scene s) → (edit : Edit) → IsTrue (keeps_links s edit) → shape (edited s edit) ≡ shape s
unfolding keeps_links
keeps_shape s is (SetValue id path value) keeps = value_keeps s id path value
keeps_shape s is (SetKey action path frame value interp) keeps =
    curve_keeps s action path
    (λ c. record c { keys = put_key (λ k. k.frame) (record { frame = frame; interp = interp; value = value }) c.keys }) (λ c. refl)
keeps_shape s is (DeleteKey action path frame) keeps =
    curve_keeps s action path (λ c. record c { keys = drop_key (λ k. k.frame) frame c.keys }) (λ c. refl)
keeps_shape s is (SetFlag (Switch object modifier mode) on) keeps =
    object_keeps s object
    (λ o. record o { kind = stack_changed (update_first (λ m. same_text m.name modifier) (with_switch mode on)) o.kind })
    (λ o. ap (λ kind. record (object_shape o) { kind = kind }) (stack_keeps modifier mode on o.kind))
keeps_shape s is (SetFlag (Hidden pencil layer) on) keeps =
    layer_keeps s pencil layer (λ l. record l { hidden = on }) (λ p l found there. refl)
keeps_shape s is (MovePoint pencil drawing stroke point to) keeps =
    pencil_keeps s pencil (λ p. record p {
      drawings = update_at_number (λ d. record d {
        strokes = update_at_number
            (λ k. record k { points = update_at_number (λ _. v3_of to) point k.points }) stroke d.strokes;
      }) drawing p.drawings;
    }) (λ p found. refl)
keeps_shape s is (SetLayerKey pencil layer frame drawing) keeps =
    let key : LayerKey = record { frame = frame; drawing = natural drawing } in
    layer_keeps s pencil layer (λ l. record l { keys = put_key (λ k. k.frame) key l.keys })
    (λ p l found there. ap (λ keys. record (layer_shape l) { keys = keys })
    (set_keeps key l.keys (subst (λ n. IsTrue (nat_le 1 n)) (keys_are s pencil layer p l found there) keeps)))
keeps_shape s is (DeleteLayerKey pencil layer frame) keeps =
    layer_keeps s pencil layer (λ l. record l { keys = drop_key (λ k. k.frame) frame l.keys })
    (λ p l found there. ap (λ keys. record (layer_shape l) { keys = keys })
    (delete_keeps frame l.keys (subst (λ n. IsTrue (nat_le 2 n)) (keys_are s pencil layer p l found there) keeps)
    (frames_rise s pencil layer p l found there is)))
keeps_shape s is (SetParent object parent) keeps = absurd (false≢true keeps)
keeps_shape s is (SetDriver id path driver) keeps = absurd (false≢true keeps)
keeps_shape s is (ClearDriver id path) keeps = absurd (false≢true keeps)
keeps_shape s is (AddObject name kind) keeps = absurd (false≢true keeps)
keeps_shape s is (RemoveObject object) keeps = absurd (false≢true keeps)
keeps_shape s is (AddModifier object name viewport render effect) keeps = absurd (false≢true keeps)
keeps_shape s is (RemoveModifier object modifier) keeps = absurd (false≢true keeps)

-- ---- what follows from the shape

module _ (s : SceneRecord) (is : IsTrue (is_scene s)) (edit : Edit) (keeps : IsTrue (keeps_links s edit)) where
  -- what a scene has of its shape, it has after the edit
  pub kept_by_shape : {A : Type 0} (f : SceneRecord → A) → ((t : SceneRecord) → f (shape t) ≡ f t) → f (edited s edit) ≡ f s
  kept_by_shape f by = sym (by (edited s edit)) ∙ ap f (keeps_shape s is edit keeps) ∙ by s

  pub operations_kept : operations (edited s edit) ≡ operations s
  operations_kept = kept_by_shape operations operations-shape

  pub ins_kept : (op : OpId) → ins (edited s edit) op ≡ ins s op
  ins_kept op = kept_by_shape (λ t. ins t op) (λ t. ins-shape t op)

  pub cuts_kept : cuts (edited s edit) ≡ cuts s
  cuts_kept = kept_by_shape cuts cuts-shape
