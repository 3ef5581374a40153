-- Where the layer of a name stands: what is found there, and what a change of it makes.
use Rattle.std.proofs.Common.{◌≡◌, ℕ, ◌<◌, ◌≤◌, Bool, length, false, List, Option, None, Some, ℤ, refl, sym, ap, ◌∙◌, subst, arith}
use Rattle.std.specs.Prelude.{IsTrue, is_none, slice_get, option_and_then}
use Rattle.std.specs.Option.{option_or, option_map_or}
use Rattle.std.specs.List.{list_any}
use Rattle.std.specs.Ordering.{int_eq}
use Rattle.std.proofs.lemmas.List.Sums.{get_or-le-sum_by}
use Rattle.std.proofs.lemmas.Option.{same_Some, slice_get_within, get_or_from_slice_get}
use Rattle.rig_scene.specs.declared.limits.TheConstants.{MAX_DRAWINGS}
use Rattle.rig_scene.specs.declared.pencil.Layer.{Layer}
use Rattle.rig_scene.specs.declared.pencil.PencilData.{PencilData}
use Rattle.rig_scene.specs.Facts.{LayerFacts, PencilFacts}
use Rattle.rig_scene.specs.FactsHold.{scene_facts}
use Rattle.rig_scene.specs.Scene.{SceneRecord}
use Rattle.rig_scene.specs.Text.{same_text}
use Rattle.rig_scene.specs.WellFormed.{is_scene}
use Rattle.rig_edits.specs.declared.cause.EditCause.TheVariants.{UnknownId, UnknownPart}
use Rattle.rig_edits.specs.declared.layer.LayerPlace.{LayerPlace}
use Rattle.rig_edits.specs.Conditions.{has_layer_key, lacks_drawing, when}
use Rattle.rig_edits.specs.Edited.{with_layer}
use Rattle.rig_edits.specs.LayerPlaces.{layer_cause, has_key_at, lacks_drawing_at, layer_changed_at, HasLayerAt, IsPlaceOf}
use Rattle.rig_edits.specs.Named.{pencil_named, layer_named, at_number, update_at, update_first}
use Rattle.rig_edits.proofs.FirstPassing.{first_changed}
use Rattle.rig_edits.specs.Replaced.{All-slice_get}
use Rattle.rig_edits.specs.Steps.{FoundAt, FoundNowhere}

module _ (s : SceneRecord) (pencil layer : List ℕ) (i : ℕ) (p : PencilData)
    (found : FoundAt (λ (p : PencilData). same_text p.name pencil) s.pencils i) (at : slice_get s.pencils i ≡ Some p) where
  named : pencil_named s pencil ≡ Some p
  named = found.is_found ∙ sym found.is_at ∙ at

  cause_by : (r : Option Layer) → layer_named p layer ≡ r → layer_cause s pencil layer ≡ when UnknownPart (is_none r)
  cause_by r e =
      ap (λ o. option_or (when UnknownId (is_none o)) (when UnknownPart (is_none (option_and_then (λ p. layer_named p layer) o)))) named
      ∙ ap (λ o. when UnknownPart (is_none o)) e

  -- the pencil has no layer of the name
  pub no_layer : FoundNowhere (λ (l : Layer). same_text l.name layer) p.layers → layer_cause s pencil layer ≡ Some UnknownPart
  no_layer nowhere = cause_by None nowhere.is_found

  -- the layer of the name is the one at an index
  module _ (j : ℕ) (in_pencil : FoundAt (λ (l : Layer). same_text l.name layer) p.layers j) where
    abbrev place : LayerPlace
    place = record { pencil = i; layer = j }

    abbrev has_it : ℤ → Option Layer → Bool
    has_it frame r = option_map_or (λ l. list_any (λ k. int_eq k.frame frame) l.keys) r false

    pub known_layer : layer_cause s pencil layer ≡ None
    known_layer = cause_by (Some in_pencil.element) in_pencil.is_found

    few_drawings : IsTrue (is_scene s) → (q : PencilData) → slice_get s.pencils i ≡ Some q → length q.drawings ≤ MAX_DRAWINGS
    few_drawings is q e =
        let most = (scene_facts s is).pencils.drawings in
        let part = get_or-le-sum_by (λ (p : PencilData). length p.drawings) s.pencils i q (slice_get_within s.pencils i q e) in
        let same = ap (λ (p : PencilData). length p.drawings) (get_or_from_slice_get s.pencils i q q e) in
        omega (arith, most, part, same)

    layer_there : IsTrue (is_scene s) → HasLayerAt s.pencils place
    layer_there is = record {
      pencil_within = found.within;
      layer_within = λ q e. subst (λ (q : PencilData). j < length q.layers) (same_Some p q (sym at ∙ e)) in_pencil.within;
      frames_rise = λ q l e h.
          let facts : PencilFacts s q = All-slice_get (PencilFacts s) s.pencils i q e (scene_facts s is).pencils.each in
          (All-slice_get (LayerFacts s q) q.layers j l h facts.layers).frames_rise;
      drawings = few_drawings is;
    }

    has_there : (frame : ℤ) → has_layer_key s pencil layer frame ≡ has_key_at s.pencils place frame
    has_there frame =
        ap (λ r. has_it frame (option_and_then (λ p. layer_named p layer) r)) named ∙ ap (has_it frame) in_pencil.is_found
        ∙ sym (ap (λ r. has_it frame (option_and_then (λ (p : PencilData). slice_get p.layers j) r)) at ∙ ap (has_it frame) in_pencil.is_at)

    lacks_there : (drawing : ℤ) → lacks_drawing s pencil drawing ≡ lacks_drawing_at s.pencils place drawing
    lacks_there drawing = ap (λ r. is_none (option_and_then (λ (p : PencilData). at_number p.drawings drawing) r)) (named ∙ sym at)

    changed_there : (change : Layer → Layer) → with_layer s pencil layer change ≡ record s { pencils = layer_changed_at change place s.pencils }
    changed_there change =
        ap (λ pencils. record s { pencils = pencils })
        (first_changed (λ p. record p { layers = update_first (λ l. same_text l.name layer) change p.layers })
        (λ p. record p { layers = update_at change j p.layers }) s.pencils i p (λ p. same_text p.name pencil) found.is_position at
        (ap (λ layers. record p { layers = layers })
        (first_changed change change p.layers j in_pencil.element (λ l. same_text l.name layer) in_pencil.is_position in_pencil.is_at refl)))

    pub layer_place : IsTrue (is_scene s) → IsPlaceOf s pencil layer place
    layer_place is = record { there = layer_there is; has = has_there; lacks = lacks_there; changed = changed_there }
