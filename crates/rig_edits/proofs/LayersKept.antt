-- The pencils that an edit of a layer makes are those of a scene.
use Rattle.std.proofs.Common.{◌≡◌, ℕ, Bool, true, false, List, None, ℤ, w32, to_z, of_z, sym, ap, ◌∙◌, subst}
use Rattle.std.specs.Prelude.{IsTrue, is_none}
use Rattle.std.specs.Option.{option_or}
use Rattle.rig_scene.specs.declared.pencil.Layer.{Layer}
use Rattle.rig_scene.specs.declared.pencil.LayerKey.{LayerKey}
use Rattle.rig_scene.specs.declared.pencil.PencilData.{PencilData}
use Rattle.rig_scene.specs.Scene.{SceneRecord}
use Rattle.rig_scene.specs.WellFormed.{is_scene}
use Rattle.rig_edits.specs.declared.cause.EditCause.TheVariants.{UnknownId, UnknownPart, OutOfRange}
use Rattle.rig_edits.specs.declared.edit.Edit.TheVariants.{SetLayerKey, DeleteLayerKey}
use Rattle.rig_edits.specs.declared.layer.LayerPlace.{LayerPlace}
use Rattle.rig_edits.specs.Accepted.{accepted}
use Rattle.rig_edits.specs.Conditions.{first_cause, lacks_layer, when}
use Rattle.rig_edits.specs.Edited.{natural, with_layer, put_key, drop_key}
use Rattle.rig_edits.specs.KeepsPencils.{keeps_set_hidden, keeps_set_layer_key, keeps_delete_layer_key}
use Rattle.rig_edits.proofs.KeyPlaceFacts.{frame_in_bits}
use Rattle.rig_edits.specs.LayerPlaces.{layer_cause, layer_changed_at, IsPlaceOf}
use Rattle.rig_edits.specs.Named.{pencil_named}

-- a layer that is known has no cause against being hidden
none_left : (id part : Bool) → option_or (when UnknownId id) (when UnknownPart part) ≡ None
    → option_or (when UnknownId id) (option_or (when UnknownPart part) None) ≡ None
none_left true part none = none
none_left false true none = none
none_left false false none = none

-- of a scene with other pencils, by the scene that it is a view of
module _ (view s : SceneRecord) (same : view ≡ s) (is : IsTrue (is_scene view)) (pencil layer : List ℕ) (place : LayerPlace)
    (at : IsPlaceOf s pencil layer place) (pencils : List PencilData) where
  scene_is : IsTrue (is_scene s)
  scene_is = subst (λ (t : SceneRecord). IsTrue (is_scene t)) same is

  -- the layer changed at its place is the layer of the name changed
  kept : (change : Layer → Layer) → IsTrue (is_scene (with_layer s pencil layer change)) → pencils ≡ layer_changed_at change place view.pencils
      → IsTrue (is_scene (record view { pencils = pencils }))
  kept change h e =
      subst (λ (t : SceneRecord). IsTrue (is_scene t))
      (sym (ap (λ ps. record view { pencils = ps }) e ∙ ap (λ (t : SceneRecord). record t { pencils = layer_changed_at change place t.pencils }) same
      ∙ sym (at.changed change)))
      h

  pub hidden_kept : (on : Bool) → layer_cause s pencil layer ≡ None
      → pencils ≡ layer_changed_at (λ l. record l { hidden = on }) place view.pencils → IsTrue (is_scene (record view { pencils = pencils }))
  hidden_kept on none = kept (λ l. record l { hidden = on }) (keeps_set_hidden s pencil layer on scene_is
      (none_left (is_none (pencil_named s pencil)) (lacks_layer s pencil layer) none))

  pub set_layer_key_kept : (frame drawing : ℤ) → first_cause s (SetLayerKey pencil layer frame drawing) ≡ None → (key : LayerKey)
      → key ≡ record { frame = frame; drawing = natural drawing }
      → pencils ≡ layer_changed_at (λ l. record l { keys = put_key (λ k. k.frame) key l.keys }) place view.pencils
      → IsTrue (is_scene (record view { pencils = pencils }))
  set_layer_key_kept frame drawing none key is_key e =
      kept (λ l. record l { keys = put_key (λ k. k.frame) (record { frame = frame; drawing = natural drawing }) l.keys })
      (keeps_set_layer_key s pencil layer frame drawing scene_is none)
      (e ∙ ap (λ k. layer_changed_at (λ l. record l { keys = put_key (λ (k : LayerKey). k.frame) k l.keys }) place view.pencils) is_key)

  pub delete_layer_key_kept : (frame : ℤ) → first_cause s (DeleteLayerKey pencil layer frame) ≡ None → (f : ℤ) → f ≡ frame
      → pencils ≡ layer_changed_at (λ l. record l { keys = drop_key (λ k. k.frame) (to_z w32 (of_z w32 f)) l.keys }) place view.pencils
      → IsTrue (is_scene (record view { pencils = pencils }))
  delete_layer_key_kept frame none f is_frame e =
      let bits : to_z w32 (of_z w32 f) ≡ frame =
      ap (λ f. to_z w32 (of_z w32 f)) is_frame
      ∙ frame_in_bits frame (ap (when OutOfRange) (accepted s (DeleteLayerKey pencil layer frame) none).is_in_range) in
      kept (λ l. record l { keys = drop_key (λ k. k.frame) frame l.keys }) (keeps_delete_layer_key s pencil layer frame scene_is none)
      (e ∙ ap (λ f. layer_changed_at (λ l. record l { keys = drop_key (λ (k : LayerKey). k.frame) f l.keys }) place view.pencils) bits)
