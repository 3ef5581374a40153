-- What a layer shows, where two scenes have in common what it is made of.
use Rattle.std.specs.Prelude.{◌≡◌, ℕ, zero, suc, List, [], ◌∷◌, length, map, drop, slice_get, Option, None, Some, is_some, option_map, option_and_then, ℤ, All}
use Rattle.std.specs.Option.{option_map_or}
use Rattle.std.proofs.Common.{refl, sym, ap, ◌∙◌}
use Rattle.std.proofs.lemmas.List.Elements.{All-head}
use Rattle.rig_fixed.specs.declared.vector.V3.{V3}
use Rattle.rig_fixed.specs.Transform.{Transform as TransformRecord, identity}
use Rattle.rig_scene.specs.declared.channel.Axis.{Axis}
use Rattle.rig_scene.specs.declared.id.AnimId.TheVariants as anim
use Rattle.rig_scene.specs.declared.modifier.Mode.{Mode}
use Rattle.rig_scene.specs.declared.operation.OpId.TheVariants.{Layer}
use Rattle.rig_scene.specs.declared.path.Path.{Path}
use Rattle.rig_scene.specs.declared.path.Path.TheVariants as paths
use Rattle.rig_scene.specs.declared.pencil.BoneRef.{BoneRef}
use Rattle.rig_scene.specs.declared.pencil.Drawing.{Drawing}
use Rattle.rig_scene.specs.declared.pencil.Layer.{Layer as LayerRecord}
use Rattle.rig_scene.specs.declared.pencil.PencilData.{PencilData}
use Rattle.rig_scene.specs.declared.pencil.Stroke.{Stroke}
use Rattle.rig_scene.specs.Channel.{axes, coordinate_of, v3_by}
use Rattle.rig_scene.specs.Drivers.{driven_paths}
use Rattle.rig_scene.specs.Layer.{held_drawing, layer_strokes}
use Rattle.rig_scene.specs.Operations.{layer_time}
use Rattle.rig_scene.specs.Pose.{rest_chain}
use Rattle.rig_scene.specs.Scene.{SceneRecord}
use Rattle.rig_scene.specs.Value.{Value, Strokes, deform_unless}
use Rattle.rig_scene.specs.WellFormed.{bones_of}
use Rattle.rig_laws.specs.Kernel.{kernel, curve_numbers, after_animation, channel_number, bound_deform, layer_shown, layer_output}
use Rattle.rig_laws.specs.Output.{Output, transform_at, is_rest_at, frame_at}
use Rattle.rig_touch.specs.SameNumbers.{same_curve_numbers, same_after_animation, same_channel}
use Rattle.rig_touch.specs.Agree.{layer_at, drawing_at, SameCurves, SameShown}

-- ---- layers

-- how many links a layer of so many keys has to the time
abbrev times : ℕ → ℕ
times zero = 0
times (suc n) = 1

time_count : (s : SceneRecord) (p l : ℕ) (found : Option LayerRecord) → layer_at s p l ≡ found
    → length (layer_time s p l) ≡ option_map_or (λ layer. times (length layer.keys)) found 0
time_count s p l found e = by found e
  where
    by_length : (layer : LayerRecord) → layer_at s p l ≡ Some layer → (n : ℕ) → length layer.keys ≡ n → length (layer_time s p l) ≡ times n
    by_length layer e zero f = rw (e, f) refl
    by_length layer e (suc n) f = rw (e, f) refl

    by : (found : Option LayerRecord) → layer_at s p l ≡ found
        → length (layer_time s p l) ≡ option_map_or (λ layer. times (length layer.keys)) found 0
    by None e = rw e refl
    by (Some layer) e = by_length layer e (length layer.keys) refl

-- the strokes of a layer by what counts of it
abbrev deform_by : SceneRecord → ℕ → List Path → List Output → Option BoneRef → Option TransformRecord
deform_by s p among inputs bound =
    option_map (λ b. bound_deform s b (after_animation s (anim.Pencil p) inputs) (length (driven_paths s (anim.Pencil p) among))) bound

abbrev shown_by : SceneRecord → ℕ → Option Drawing → List ℕ → V3 → Option BoneRef → List Output → List Stroke
shown_by s p drawing name offset bound inputs =
    layer_strokes drawing
    (v3_by (λ axis.
    channel_number s (anim.Pencil p) (curve_numbers s (anim.Pencil p) inputs) (map (paths.Layer name) axes)
    (after_animation s (anim.Pencil p) inputs) (paths.Layer name axis) (coordinate_of offset axis)))
    (deform_by s p (map (paths.Layer name) axes) inputs bound)

abbrev layer_by : SceneRecord → ℕ → Option Drawing → List Output → LayerRecord → Value
layer_by s p drawing inputs layer = Strokes (shown_by s p drawing layer.name layer.offset layer.bound inputs)

layer_is : (s : SceneRecord) (p l : ℕ) (inputs : List Output)
    → option_and_then (layer_output s p l inputs) (slice_get s.pencils p)
    ≡ option_map (layer_by s p (drawing_at s p l (frame_at inputs 0)) (drop (length (layer_time s p l)) inputs)) (layer_at s p l)
unfolding layer_shown
layer_is s p l inputs = by (drop (length (layer_time s p l)) inputs) (slice_get s.pencils p)
  where
    by_layer : (rest : List Output) (pencil : PencilData) (r : Option LayerRecord)
        → option_map (λ layer. Strokes (layer_shown s p pencil layer (frame_at inputs 0) rest)) r
        ≡ option_map (layer_by s p (option_and_then
        (λ layer. option_and_then (slice_get pencil.drawings) (held_drawing layer.keys (frame_at inputs 0))) r) rest) r
    by_layer rest pencil None = refl
    by_layer rest pencil (Some layer) = refl

    by : (rest : List Output) (r : Option PencilData)
        → option_and_then (λ pencil. option_map (λ layer. Strokes (layer_shown s p pencil layer (frame_at inputs 0) rest))
        (slice_get pencil.layers l)) r
        ≡ option_map
        (layer_by s p
        (option_and_then (λ pencil. option_and_then
        (λ layer. option_and_then (slice_get pencil.drawings) (held_drawing layer.keys (frame_at inputs 0))) (slice_get pencil.layers l)) r)
        rest)
        (option_and_then (λ pencil. slice_get pencil.layers l) r)
    by rest None = refl
    by rest (Some pencil) = by_layer rest pencil (slice_get pencil.layers l)

module _ (s t : SceneRecord) (p : ℕ) (curves : SameCurves s t (anim.Pencil p)) (inputs : List Output) where
  same_deform : (among : List Path) → driven_paths s (anim.Pencil p) among ≡ driven_paths t (anim.Pencil p) among → (bound : Option BoneRef)
      → All (λ b. bones_of s b.object ≡ bones_of t b.object) (option_map_or (λ b. b ∷ []) bound [])
      → deform_by s p among inputs bound ≡ deform_by t p among inputs bound
  same_deform among driven None bones = refl
  same_deform among driven (Some b) bones =
      let rest = same_after_animation s t (anim.Pencil p) curves inputs in
      let same = All-head (λ (b : BoneRef). bones_of s b.object ≡ bones_of t b.object) b [] bones in
      λ i. Some (deform_unless (is_rest_at (rest i) (length (driven i))) (transform_at (rest i) (length (driven i)))
      (option_map_or (λ bones. rest_chain bones b.bone) (same i) identity))

  same_shown : (drawing : Option Drawing) (name : List ℕ) (offset : V3) (bound : Option BoneRef)
      → driven_paths s (anim.Pencil p) (map (paths.Layer name) axes) ≡ driven_paths t (anim.Pencil p) (map (paths.Layer name) axes)
      → All (λ b. bones_of s b.object ≡ bones_of t b.object) (option_map_or (λ b. b ∷ []) bound [])
      → shown_by s p drawing name offset bound inputs ≡ shown_by t p drawing name offset bound inputs
  same_shown drawing name offset bound driven bones =
      let id = anim.Pencil p in
      let each = λ (a : Axis). same_channel s t id curves (map (paths.Layer name) axes) driven
      (curve_numbers s id inputs) (curve_numbers t id inputs) (same_curve_numbers s t id curves inputs)
      (after_animation s id inputs) (after_animation t id inputs) (same_after_animation s t id curves inputs) (paths.Layer name a)
      (coordinate_of offset a) in
      let deform = same_deform (map (paths.Layer name) axes) driven bound bones in
      λ i. layer_strokes drawing (v3_by (λ a. each a i)) (deform i)

module _ (s t : SceneRecord) (p l : ℕ) (same : SameShown s t p l) where
  same_time_count : (x y : Option LayerRecord) → layer_at s p l ≡ x → layer_at t p l ≡ y
      → length (layer_time s p l) ≡ length (layer_time t p l)
  same_time_count None None e f = time_count s p l None e ∙ sym (time_count t p l None f)
  same_time_count None (Some other) e f = absurd (let there = sym (ap is_some e) ∙ same.there ∙ ap is_some f in cc)
  same_time_count (Some layer) None e f = absurd (let there = sym (ap is_some e) ∙ same.there ∙ ap is_some f in cc)
  same_time_count (Some layer) (Some other) e f =
      time_count s p l (Some layer) e ∙ ap (λ keys. times (length keys)) (same.layers layer other e f).keys
      ∙ sym (time_count t p l (Some other) f)

  same_layers : (drawing : Option Drawing) (inputs : List Output) (x y : Option LayerRecord) → layer_at s p l ≡ x → layer_at t p l ≡ y
      → option_map (layer_by s p drawing inputs) x ≡ option_map (layer_by t p drawing inputs) y
  same_layers drawing inputs None None e f = refl
  same_layers drawing inputs None (Some other) e f = absurd (let there = sym (ap is_some e) ∙ same.there ∙ ap is_some f in cc)
  same_layers drawing inputs (Some layer) None e f = absurd (let there = sym (ap is_some e) ∙ same.there ∙ ap is_some f in cc)
  same_layers drawing inputs (Some layer) (Some other) e f =
      let parts = same.layers layer other e f in
      ap (λ strokes. Some (Strokes strokes))
      (same_shown s t p same.curves inputs drawing layer.name layer.offset layer.bound (same.driven layer e) (same.bones layer e)
      ∙ (λ i. shown_by t p drawing (parts.name i) (parts.offset i) (parts.bound i) inputs))

  pub same_layer : (mode : Mode) (frame : ℤ) (inputs : List Output)
      → kernel s mode frame (Layer p l) inputs ≡ kernel t mode frame (Layer p l) inputs
  unfolding kernel
  same_layer mode frame inputs =
      let count = same_time_count (layer_at s p l) (layer_at t p l) refl refl in
      layer_is s p l inputs
      ∙ (λ i. option_map (layer_by s p (same.drawing (frame_at inputs 0) i) (drop (count i) inputs)) (layer_at s p l))
      ∙ same_layers (drawing_at t p l (frame_at inputs 0)) (drop (length (layer_time t p l)) inputs) (layer_at s p l)
      (layer_at t p l) refl refl
      ∙ sym (layer_is t p l inputs)
