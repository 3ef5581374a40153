-- The actions that an edit of a key makes are those of a scene.
use Rattle.std.proofs.Common.{◌≡◌, ℕ, List, None, ℤ, w32, to_z, of_z, sym, ap, ◌∙◌, subst}
use Rattle.std.specs.Prelude.{IsTrue}
use Rattle.rig_scene.specs.declared.action.Action.{Action}
use Rattle.rig_scene.specs.declared.action.Interp.{Interp}
use Rattle.rig_scene.specs.declared.action.Key.{Key}
use Rattle.rig_scene.specs.declared.path.Path.{Path}
use Rattle.rig_scene.specs.Scene.{SceneRecord}
use Rattle.rig_scene.specs.WellFormed.{is_scene}
use Rattle.rig_edits.specs.declared.cause.EditCause.TheVariants.{OutOfRange}
use Rattle.rig_edits.specs.declared.curve.CurvePlace.{CurvePlace}
use Rattle.rig_edits.specs.declared.edit.Edit.TheVariants.{SetKey, DeleteKey}
use Rattle.rig_edits.specs.Accepted.{accepted}
use Rattle.rig_edits.specs.Conditions.{first_cause, when}
use Rattle.rig_edits.specs.CurvePlaces.{keys_changed_at, IsPlaceOf}
use Rattle.rig_edits.specs.Edited.{put_key, drop_key}
use Rattle.rig_edits.specs.KeepsActions.{keeps_set_key, keeps_delete_key}
use Rattle.rig_edits.proofs.KeyPlaceFacts.{frame_in_bits}

-- of a scene with other actions, by the scene that it is a view of
module _ (view s : SceneRecord) (same : view ≡ s) (is : IsTrue (is_scene view)) (action : List ℕ) (path : Path) (place : CurvePlace)
    (at : IsPlaceOf s action path place) (actions : List Action) where
  scene_is : IsTrue (is_scene s)
  scene_is = subst (λ (t : SceneRecord). IsTrue (is_scene t)) same is

  pub set_key_kept : (frame value : ℤ) (interp : Interp) → first_cause s (SetKey action path frame value interp) ≡ None
      → (key : Key) → key ≡ record { frame = frame; interp = interp; value = value }
      → actions ≡ keys_changed_at (put_key (λ k. k.frame) key) place view.actions → IsTrue (is_scene (record view { actions = actions }))
  set_key_kept frame value interp none key is_key e =
      subst (λ (t : SceneRecord). IsTrue (is_scene t))
      (sym (ap (λ bs. record view { actions = bs }) e
      ∙ ap (λ (t : SceneRecord). record t { actions = keys_changed_at (put_key (λ k. k.frame) key) place t.actions }) same
      ∙ ap (λ k. record s { actions = keys_changed_at (put_key (λ (k : Key). k.frame) k) place s.actions }) is_key ∙ sym (at.changed _)))
      (keeps_set_key s action path frame value interp scene_is none)

  pub delete_key_kept : (frame : ℤ) → first_cause s (DeleteKey action path frame) ≡ None → (f : ℤ) → f ≡ frame
      → actions ≡ keys_changed_at (drop_key (λ k. k.frame) (to_z w32 (of_z w32 f))) place view.actions
      → IsTrue (is_scene (record view { actions = actions }))
  delete_key_kept frame none f is_frame e =
      let bits : to_z w32 (of_z w32 f) ≡ frame =
      ap (λ f. to_z w32 (of_z w32 f)) is_frame ∙ frame_in_bits frame (ap (when OutOfRange) (accepted s (DeleteKey action path frame) none).is_in_range) in
      subst (λ (t : SceneRecord). IsTrue (is_scene t))
      (sym (ap (λ bs. record view { actions = bs }) e
      ∙ ap (λ (t : SceneRecord). record t { actions = keys_changed_at (drop_key (λ k. k.frame) (to_z w32 (of_z w32 f))) place t.actions }) same
      ∙ ap (λ f. record s { actions = keys_changed_at (drop_key (λ (k : Key). k.frame) f) place s.actions }) bits ∙ sym (at.changed _)))
      (keeps_delete_key s action path frame scene_is none)
