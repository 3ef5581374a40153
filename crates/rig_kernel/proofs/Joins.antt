-- What the layers of a pencil bring, joined.
use Rattle.std.proofs.Common.{◌≡◌, ℕ, suc, ◌+◌, ◌-◌, List, [], ◌∷◌, ◌++◌, map, take, filter, not, nat_le, Bool, true, false, if◌then◌else◌, refl, sym, ap, ◌∙◌, arith}
use Rattle.std.proofs.lemmas.Bool.Decides.{nat_tests}
use Rattle.std.specs.List.{enumerate_from}
use Rattle.rig_scene.specs.declared.pencil.Layer.{Layer}
use Rattle.rig_scene.specs.declared.pencil.Stroke.{Stroke}
use Rattle.rig_scene.specs.Layer.{stroke_points, joined_within}
use Rattle.rig_kernel.specs.Joined.{layer_brings, layers_bring, fitting, joined}
use Rattle.rig_laws.specs.Output.{Output, strokes_at}

-- no strokes take no room
nothing_first : (room : ℕ) (rest : List (List Stroke)) → joined_within room ([] ∷ rest) ≡ joined_within room rest
nothing_first room rest =
    let fits : nat_le 0 room ≡ true = grind (arith, nat_tests) in
    let same : room - 0 ≡ room = omega arith in
    rw fits (ap (λ n. joined_within n rest) same)

fits_if : (strokes rest : List Stroke) (few : ℕ) (others : ℕ → List (List Stroke)) → joined (others few) ≡ rest → (fits : Bool)
    → joined (if fits then strokes ∷ others few else []) ≡ (if fits then strokes ++ rest else [])
fits_if strokes rest few others is true = ap (λ rest. strokes ++ rest) is
fits_if strokes rest few others is false = refl

taken : (inputs : List Output) (l few : ℕ) (layer : Layer) (layers : List Layer) (fits : Bool)
    → layers_bring inputs l (take (if fits then suc few else 0) (layer ∷ layers)) ≡ (if fits then layer_brings inputs l layer ∷ layers_bring inputs (l + 1) (take few layers) else [])
taken inputs l few layer layers true = refl
taken inputs l few layer layers false = refl

-- those that fit are those that are joined
pub joined_fitting : (inputs : List Output) (room l : ℕ) (layers : List Layer) → joined (layers_bring inputs l (take (fitting room (layers_bring inputs l layers)) layers)) ≡ joined_within room (layers_bring inputs l layers)
joined_fitting inputs room l [] = refl
joined_fitting inputs room l (layer ∷ layers) =
    let strokes = layer_brings inputs l layer in
    let left = room - stroke_points strokes in
    let few = fitting left (layers_bring inputs (l + 1) layers) in
    let fits = nat_le (stroke_points strokes) room in
    ap joined (taken inputs l few layer layers fits)
    ∙ fits_if strokes (joined_within left (layers_bring inputs (l + 1) layers)) few (λ few. layers_bring inputs (l + 1) (take few layers)) (joined_fitting inputs left (l + 1) layers) fits

-- the strokes of the layers that aren't hidden
abbrev visible_from : List Output → ℕ → List Layer → List (List Stroke)
visible_from inputs l layers = map (λ l. strokes_at inputs l.0) (filter (λ l. not l.1.hidden) (enumerate_from l layers))

visible_if : (inputs : List Output) (room l : ℕ) (layer : Layer) (layers : List Layer)
    → ((room : ℕ) → joined_within room (visible_from inputs (l + 1) layers) ≡ joined_within room (layers_bring inputs (l + 1) layers))
    → (hidden : Bool)
    → joined_within room (map (λ l. strokes_at inputs l.0) (if not hidden then (l, layer) ∷ filter (λ l. not l.1.hidden) (enumerate_from (l + 1) layers) else filter (λ l. not l.1.hidden) (enumerate_from (l + 1) layers)))
    ≡ joined_within room ((if hidden then [] else strokes_at inputs l) ∷ layers_bring inputs (l + 1) layers)
visible_if inputs room l layer layers rest true = rest room ∙ sym (nothing_first room (layers_bring inputs (l + 1) layers))
visible_if inputs room l layer layers rest false =
    ap (λ others. if nat_le (stroke_points (strokes_at inputs l)) room then strokes_at inputs l ++ others else []) (rest (room - stroke_points (strokes_at inputs l)))

-- hidden layers make no difference
pub joined_visible : (inputs : List Output) (l : ℕ) (layers : List Layer) (room : ℕ) → joined_within room (map (λ l. strokes_at inputs l.0) (filter (λ l. not l.1.hidden) (enumerate_from l layers))) ≡ joined_within room (layers_bring inputs l layers)
joined_visible inputs l [] room = refl
joined_visible inputs l (layer ∷ layers) room = visible_if inputs room l layer layers (joined_visible inputs (l + 1) layers) layer.hidden
