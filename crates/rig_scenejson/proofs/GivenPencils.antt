-- Pencils without a fault are pencils of a whole scene.
use Rattle.std.proofs.Common.{◌≡◌, ℕ, ◌+◌, ◌-◌, ◌≤◌, true, not, ◌&&◌, [], ◌++◌, length, map, Option, Some, None, refl, sym, ap, ◌∙◌, arith, ℤ, pos, negsuc, int_le, int_lt}
use Rattle.std.specs.Prelude.{nat_le, nat_lt, unwrap_or, sum_by}
use Rattle.std.specs.List.{list_all, list_any}
use Rattle.std.specs.Option.{option_map_or}
use Rattle.std.proofs.lemmas.Bool.{and_from, and_parts, leb-true, le-leb, ltb-true, lt-ltb, cond_both}
use Rattle.serde_json.specs.Data.{Data, Items, no_items, item}
use Rattle.serde_json.specs.Find.{as_array}
use Rattle.rig_scene.specs.declared.pencil.Layer.{Layer}
use Rattle.rig_scene.specs.declared.pencil.LayerKey.{LayerKey}
use Rattle.rig_scene.specs.declared.pencil.PencilData.{PencilData}
use Rattle.rig_scene.specs.declared.pencil.Stroke.{Stroke}
use Rattle.rig_scene.specs.declared.limits.TheConstants.{MAX_PENCILS, MAX_LAYERS, MAX_LAYER_KEYS, MAX_DRAWINGS, MAX_POINTS}
use Rattle.rig_scene.specs.Distinct.{are_distinct}
use Rattle.rig_scene.specs.Text.{same_text}
use Rattle.rig_scene.specs.WellFormed.{is_frame, is_drawing, are_layer_keys, is_pencil, drawing_count, drawing_points, point_count, layer_key_count, are_pencils}
use Rattle.rig_scenejson.specs.declared.before.LayersBefore.{LayersBefore}
use Rattle.rig_scenejson.specs.declared.before.PencilsBefore.{PencilsBefore}
use Rattle.rig_scenejson.specs.declared.before.Catalog.{Catalog}
use Rattle.rig_scenejson.specs.declared.fault.Cause.TheVariants.{WrongKind, UnknownRef, Count}
use Rattle.rig_scenejson.specs.declared.member.Member.TheVariants as m
use Rattle.rig_scenejson.specs.Tests.{fault, required, optional, unless, items_faults}
use Rattle.rig_scenejson.specs.Value.{whole_of, items_of, item_count, vector_of}
use Rattle.rig_scenejson.specs.Given.{text_at, items_at, natural_at, small, values, values_from, stroke_given, drawing_given, layer_key_given, layer_given, pencil_given}
use Rattle.rig_scenejson.specs.PassOne.{list_faults, after_key, points_in, point_faults, after_any, stroke_faults, strokes_faults, drawing_faults, after_drawing, layer_key_faults, layer_faults, after_layer, pencil_faults, after_pencil, no_pencils}
use Rattle.rig_scenejson.specs.PassTwo.{each_from, each_faults, drawing_reference, layer_key_references, layer_references, pencil_references}
use Rattle.rig_scenejson.proofs.Lists.{left_none, right_none, unless_none, of_required, of_optional, list_none, optional_list_none, each_none, length_values, length_values_from, map_values_from, values_from_values}
use Rattle.rig_scenejson.proofs.Items.{all_values, all_values_from, new_values, total, keys_in, sum-values, sum-values_from, left_after, total_fits}
use Rattle.rig_scenejson.proofs.Numbers.{new_name_none, IsFrameAfter, rising_none, rising_values}
use Rattle.rig_scenejson.proofs.References.{action_below}

-- ---- how many there are in a record

abbrev drawings_in : Data → ℕ
drawings_in d = item_count (items_at m.Drawings d)

abbrev points_of : Data → ℕ
points_of d = points_in (items_at m.Strokes d)

abbrev points_below : Data → ℕ
points_below d = total points_of (items_at m.Drawings d)

abbrev keys_below : Data → ℕ
keys_below d = total keys_in (items_at m.Layers d)

-- ---- drawings

stroke_none : (u : Unit {0}) (d : Data) → stroke_faults u d ≡ [] → nat_lt 0 (length (values vector_of (items_of d))) ≡ true
stroke_none u d e =
    let parts = list_none 1 4294967295 point_faults after_any u d e in
    ap (nat_lt 0) (length_values vector_of (items_of d)) ∙ lt-ltb 0 (item_count (items_of d)) (leb-true 1 (item_count (items_of d)) parts.0)

points_total : (ds : Items) → points_in ds ≡ total (λ d. item_count (items_of d)) ds
points_total no_items = refl
points_total (item d ds) = ap (λ n. item_count (items_of d) + n) (points_total ds)

points_given : (d : Data) → drawing_points (drawing_given d) ≡ points_of d
points_given d =
    sum-values (λ (s : Stroke). length s.points) stroke_given (λ d. item_count (items_of d)) (λ d. length_values vector_of (items_of d)) (items_at m.Strokes d)
    ∙ sym (points_total (items_at m.Strokes d))

-- what strokes without a fault say
abbrev AreStrokes : ℕ → Items → Type 0
AreStrokes left ds = (points_in ds ≤ left) × (list_all (λ (s : Stroke). nat_lt 0 (length s.points)) (values stroke_given ds) ≡ true)

strokes_none : (left : ℕ) (d : Data) → strokes_faults left d ≡ [] → AreStrokes left (items_of d)
strokes_none left d e = by (as_array d) e
  where
    by : (o : Option Items) → option_map_or (λ ds. unless (nat_le (points_in ds) left) Count ++ items_faults stroke_faults after_any 0 tt ds) o (fault WrongKind) ≡ [] → AreStrokes left (unwrap_or o no_items)
    by None e = cc
    by (Some ds) e = (
      leb-true (points_in ds) left (unless_none (nat_le (points_in ds) left) Count (left_none _ _ e)),
      all_values (λ (s : Stroke). nat_lt 0 (length s.points)) stroke_given stroke_faults after_any stroke_none 0 tt ds (right_none _ _ e),
    )

drawing_none : (left : ℕ) (d : Data) → drawing_faults left d ≡ [] → AreStrokes left (items_at m.Strokes d)
drawing_none left d e =
    of_optional (λ o. AreStrokes left (option_map_or items_of o no_items)) m.Strokes (strokes_faults left) d (omega arith, refl) (strokes_none left) (right_none _ _ e)

-- ---- keys of layers

layer_key_frame : (b : Option ℤ) (d : Data) → layer_key_faults b d ≡ [] → IsFrameAfter b d
layer_key_frame b d e = rising_none b d (right_none _ _ (left_none _ _ e))

-- a drawing that is there has its number
drawing_there : (drawings : ℕ) (d : Data) → required m.Drawing (drawing_reference drawings) d ≡ [] → nat_lt (natural_at m.Drawing d) drawings ≡ true
drawing_there drawings d e =
    of_required (λ o. nat_lt (option_map_or (λ n. small (whole_of n)) o 0) drawings ≡ true) m.Drawing (drawing_reference drawings) d
    (λ v none. by (whole_of v) (unless_none (int_le (pos 0) (whole_of v) && int_lt (whole_of v) (pos drawings)) UnknownRef none)) e
  where
    by : (z : ℤ) → (int_le (pos 0) z && int_lt z (pos drawings)) ≡ true → nat_lt (small z) drawings ≡ true
    by (pos n) e =
        let below : nat_lt n drawings ≡ true = (and_parts (int_le (pos 0) (pos n)) (int_lt (pos n) (pos drawings)) e).1 in
        cond_both (nat_lt n 4294967296) n 0 (λ k. nat_lt k drawings ≡ true) (λ _. below) (λ _. let less = ltb-true n drawings below in lt-ltb 0 drawings (omega (arith, less)))
    by (negsuc n) e = absurd (cc ((and_parts (int_le (pos 0) (negsuc n)) (int_lt (negsuc n) (pos drawings)) e).0))

layer_keys_given : (drawings : ℕ) (b : Option ℤ) (ds : Items) → items_faults layer_key_faults after_key 0 b ds ≡ [] → each_from (layer_key_references drawings) after_any 0 tt ds ≡ []
    → are_layer_keys drawings (values_from layer_key_given 0 ds) ≡ true
layer_keys_given drawings b ds e h =
    let keys = all_values_from (λ (k : LayerKey). is_frame k.frame && nat_lt k.drawing drawings) layer_key_given layer_key_faults after_key (layer_key_references drawings) after_any
    (λ i b u d none there. and_from _ _ (layer_key_frame b d none).0 (drawing_there drawings d there)) 0 b tt ds e h in
    let rise = rising_values (λ (k : LayerKey). k.frame) layer_key_given (λ i d. refl) layer_key_faults layer_key_frame 0 b ds e in
    and_from _ _ keys rise

-- ---- layers

-- what a layer without a fault says, in the first pass
abbrev IsLayerAfter : LayersBefore → Data → Type 0
IsLayerAfter b d =
    (not (list_any (same_text (text_at m.Name d)) b.names) ≡ true) × (keys_in d ≤ b.keys_left) × (items_faults layer_key_faults after_key 0 None (items_at m.Keys d) ≡ [])

layer_none : (b : LayersBefore) (d : Data) → layer_faults b d ≡ [] → IsLayerAfter b d
layer_none b d e =
    let new = new_name_none b.names m.Name d (right_none _ _ (left_none _ _ (left_none _ _ (left_none _ _ (left_none _ _ (left_none _ _ e)))))) in
    let keys = optional_list_none m.Keys b.keys_left layer_key_faults after_key None d (right_none _ _ e) in
    (new, leb-true (keys_in d) b.keys_left keys.0, keys.1)

layer_keys_none : (c : Catalog) (drawings i : ℕ) (b : LayersBefore) (d : Data) → layer_faults b d ≡ [] → layer_references c drawings i tt d ≡ []
    → are_layer_keys drawings (values_from layer_key_given 0 (items_at m.Keys d)) ≡ true
layer_keys_none c drawings i b d e h =
    layer_keys_given drawings None (items_at m.Keys d) (layer_none b d e).2 (each_none m.Keys (layer_key_references drawings) after_any tt d (right_none _ _ h))

-- ---- pencils

-- what a pencil without a fault says, in the first pass
abbrev IsPencilAfter : PencilsBefore → Data → Type 0
IsPencilAfter b d =
    (not (list_any (same_text (text_at m.Name d)) b.names) ≡ true) × (drawings_in d ≤ b.drawings_left)
    × (items_faults drawing_faults after_drawing 0 b.points_left (items_at m.Drawings d) ≡ [])
    × (nat_le (item_count (items_at m.Layers d)) MAX_LAYERS ≡ true)
    × (items_faults layer_faults after_layer 0 (record { names = []; keys_left = b.keys_left }) (items_at m.Layers d) ≡ [])

pencil_none : (b : PencilsBefore) (d : Data) → pencil_faults b d ≡ [] → IsPencilAfter b d
pencil_none b d e =
    let new = new_name_none b.names m.Name d (right_none _ _ (left_none _ _ (left_none _ _ (left_none _ _ e)))) in
    let drawings = optional_list_none m.Drawings b.drawings_left drawing_faults after_drawing b.points_left d (right_none _ _ (left_none _ _ e)) in
    let layers = optional_list_none m.Layers MAX_LAYERS layer_faults after_layer (record { names = []; keys_left = b.keys_left }) d (right_none _ _ e) in
    (new, leb-true (drawings_in d) b.drawings_left drawings.0, drawings.1, layers.0, layers.1)

points_fit : (b : PencilsBefore) (d : Data) → pencil_faults b d ≡ [] → points_below d ≤ b.points_left
points_fit b d e = total_fits points_of (λ n. n) after_drawing (λ b d. refl) drawing_faults (λ b d none. (drawing_none b d none).0) 0 b.points_left (items_at m.Drawings d) (pencil_none b d e).2

keys_fit : (b : PencilsBefore) (d : Data) → pencil_faults b d ≡ [] → keys_below d ≤ b.keys_left
keys_fit b d e =
    total_fits keys_in (λ (b : LayersBefore). b.keys_left) after_layer (λ b d. refl) layer_faults (λ b d none. (layer_none b d none).1) 0 (record { names = []; keys_left = b.keys_left }) (items_at m.Layers d)
    (pencil_none b d e).4

-- a pencil without a fault in either pass
pencil_given_none : (c : Catalog) (i : ℕ) (b : PencilsBefore) (d : Data) → pencil_faults b d ≡ [] → pencil_references c i tt d ≡ [] → is_pencil (length c.actions) (pencil_given c i d) ≡ true
pencil_given_none c i b d e h =
    let parts = pencil_none b d e in
    let ds : Items = items_at m.Layers d in
    let start : LayersBefore = record { names = []; keys_left = b.keys_left } in
    let action = action_below c d (left_none _ _ h) in
    let drawings : list_all is_drawing (values drawing_given (items_at m.Drawings d)) ≡ true =
    all_values is_drawing drawing_given drawing_faults after_drawing (λ b d none. (drawing_none b d none).1) 0 b.points_left (items_at m.Drawings d) parts.2 in
    let many : nat_le (length (values_from (layer_given c) 0 ds)) MAX_LAYERS ≡ true = ap (λ n. nat_le n MAX_LAYERS) (length_values_from (layer_given c) 0 ds) ∙ parts.3 in
    let names : are_distinct same_text (map (λ (l : Layer). l.name) (values_from (layer_given c) 0 ds)) ≡ true =
    ap (are_distinct same_text) (map_values_from (λ (l : Layer). l.name) (layer_given c) 0 ds ∙ values_from_values (text_at m.Name) 0 ds)
    ∙ new_values same_text (text_at m.Name) (λ (b : LayersBefore). b.names) layer_faults after_layer (λ b d none. (layer_none b d none).0) (λ b d. refl) 0 start ds parts.4 in
    let keys : list_all (λ (l : Layer). are_layer_keys (drawings_in d) l.keys) (values_from (layer_given c) 0 ds) ≡ true =
    all_values_from (λ (l : Layer). are_layer_keys (drawings_in d) l.keys) (layer_given c) layer_faults after_layer (layer_references c (drawings_in d)) after_any
    (λ i b u l. layer_keys_none c (drawings_in d) i b l) 0 start tt ds parts.4 (each_none m.Layers (layer_references c (drawings_in d)) after_any tt d (right_none _ _ h)) in
    and_from _ _ (and_from _ _ (and_from _ _ (and_from _ _ action drawings) many) names)
    (ap (λ n. list_all (λ (l : Layer). are_layer_keys n l.keys) (values_from (layer_given c) 0 ds)) (length_values drawing_given (items_at m.Drawings d)) ∙ keys)

points_taken : (b : PencilsBefore) (d : Data) → (after_pencil b d).points_left ≡ b.points_left - points_below d
points_taken b d = left_after points_of (λ n. n) after_drawing (λ b d. refl) b.points_left (items_at m.Drawings d)

keys_taken : (b : PencilsBefore) (d : Data) → (after_pencil b d).keys_left ≡ b.keys_left - keys_below d
keys_taken b d = left_after keys_in (λ (b : LayersBefore). b.keys_left) after_layer (λ b d. refl) (record { names = []; keys_left = b.keys_left }) (items_at m.Layers d)

-- the pencils that the members give
pub are_pencils_given : (c : Catalog) (d : Data) → optional m.Pencils (list_faults 0 MAX_PENCILS pencil_faults after_pencil no_pencils) d ≡ []
    → each_faults m.Pencils (pencil_references c) after_any tt d ≡ [] → are_pencils (length c.actions) (values_from (pencil_given c) 0 (items_at m.Pencils d)) ≡ true
are_pencils_given c d e h =
    let ds : Items = items_at m.Pencils d in
    let pencils = optional_list_none m.Pencils MAX_PENCILS pencil_faults after_pencil no_pencils d e in
    let many : nat_le (length (values_from (pencil_given c) 0 ds)) MAX_PENCILS ≡ true = ap (λ n. nat_le n MAX_PENCILS) (length_values_from (pencil_given c) 0 ds) ∙ pencils.0 in
    let drawings : nat_le (drawing_count (values_from (pencil_given c) 0 ds)) MAX_DRAWINGS ≡ true =
    ap (λ n. nat_le n MAX_DRAWINGS) (sum-values_from (λ (p : PencilData). length p.drawings) (pencil_given c) drawings_in (λ i d. length_values drawing_given (items_at m.Drawings d)) 0 ds)
    ∙ le-leb (total drawings_in ds) MAX_DRAWINGS (total_fits drawings_in (λ (b : PencilsBefore). b.drawings_left) after_pencil (λ b d. refl) pencil_faults (λ b d none. (pencil_none b d none).1) 0 no_pencils ds pencils.1) in
    let points : nat_le (point_count (values_from (pencil_given c) 0 ds)) MAX_POINTS ≡ true =
    ap (λ n. nat_le n MAX_POINTS)
    (sum-values_from (λ (p : PencilData). sum_by drawing_points p.drawings) (pencil_given c) points_below (λ i d. sum-values drawing_points drawing_given points_of points_given (items_at m.Drawings d)) 0 ds)
    ∙ le-leb (total points_below ds) MAX_POINTS (total_fits points_below (λ (b : PencilsBefore). b.points_left) after_pencil points_taken pencil_faults points_fit 0 no_pencils ds pencils.1) in
    let keys : nat_le (layer_key_count (values_from (pencil_given c) 0 ds)) MAX_LAYER_KEYS ≡ true =
    ap (λ n. nat_le n MAX_LAYER_KEYS)
    (sum-values_from (λ (p : PencilData). sum_by (λ (l : Layer). length l.keys) p.layers) (pencil_given c) keys_below
    (λ i d. sum-values_from (λ (l : Layer). length l.keys) (layer_given c) keys_in (λ i d. length_values_from layer_key_given 0 (items_at m.Keys d)) 0 (items_at m.Layers d)) 0 ds)
    ∙ le-leb (total keys_below ds) MAX_LAYER_KEYS (total_fits keys_below (λ (b : PencilsBefore). b.keys_left) after_pencil keys_taken pencil_faults keys_fit 0 no_pencils ds pencils.1) in
    let names : are_distinct same_text (map (λ (p : PencilData). p.name) (values_from (pencil_given c) 0 ds)) ≡ true =
    ap (are_distinct same_text) (map_values_from (λ (p : PencilData). p.name) (pencil_given c) 0 ds ∙ values_from_values (text_at m.Name) 0 ds)
    ∙ new_values same_text (text_at m.Name) (λ (b : PencilsBefore). b.names) pencil_faults after_pencil (λ b d none. (pencil_none b d none).0) (λ b d. refl) 0 no_pencils ds pencils.1 in
    let each = all_values_from (is_pencil (length c.actions)) (pencil_given c) pencil_faults after_pencil (pencil_references c) after_any (λ i b u d. pencil_given_none c i b d) 0 no_pencils tt ds pencils.1
    (each_none m.Pencils (pencil_references c) after_any tt d h) in
    and_from _ _ (and_from _ _ (and_from _ _ (and_from _ _ (and_from _ _ many drawings) points) keys) names) each
