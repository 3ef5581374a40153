-- A layer's link to the time is there or not.
use Rattle.std.specs.Prelude.{◌≡◌, ◌⊎◌, ℕ, zero, suc, ◌≤◌, [], ◌∷◌, length, Option, Some, None, slice_get, option_and_then, All}
use Rattle.std.proofs.Common.{inl, inr, ⊎_elim, sym, subst, refl, arith}
use Rattle.std.proofs.lemmas.List.Elements.{All-nil}
use Rattle.rig_scene.specs.declared.operation.OpId.TheVariants.{Time}
use Rattle.rig_scene.specs.declared.pencil.Layer.{Layer as LayerRecord}
use Rattle.rig_scene.specs.Operations.{InLink, kept_link, layer_time}
use Rattle.rig_scene.specs.Scene.{SceneRecord}
use Rattle.rig_laws.specs.Lists.{All-one}

module _ (s : SceneRecord) (p l : ℕ) where
  layer_time_is : (layer_time s p l ≡ []) ⊎ (layer_time s p l ≡ kept_link Time ∷ [])
  layer_time_is = by_layer (option_and_then (λ pencil. slice_get pencil.layers l) (slice_get s.pencils p)) refl
    where
      by_length : (layer : LayerRecord) → option_and_then (λ pencil. slice_get pencil.layers l) (slice_get s.pencils p) ≡ Some layer → (n : ℕ) → length layer.keys ≡ n → (layer_time s p l ≡ []) ⊎ (layer_time s p l ≡ kept_link Time ∷ [])
      by_length layer e zero f = inl (rw (e, f) refl)
      by_length layer e (suc n) f = inr (rw (e, f) refl)

      by_layer : (o : Option LayerRecord) → option_and_then (λ pencil. slice_get pencil.layers l) (slice_get s.pencils p) ≡ o → (layer_time s p l ≡ []) ⊎ (layer_time s p l ≡ kept_link Time ∷ [])
      by_layer None e = inl (rw e refl)
      by_layer (Some layer) e = by_length layer e (length layer.keys) refl

  pub All-layer_time : (P : InLink → Type 0) → P (kept_link Time) → All P (layer_time s p l)
  All-layer_time P h = ⊎_elim (λ e. subst (All P) (sym e) (All-nil P)) (λ e. subst (All P) (sym e) (All-one P (kept_link Time) h)) layer_time_is

  pub length-layer_time : length (layer_time s p l) ≤ 1
  length-layer_time = ⊎_elim (λ e. subst (λ x. length x ≤ 1) (sym e) (omega arith)) (λ e. subst (λ x. length x ≤ 1) (sym e) (omega arith)) layer_time_is
