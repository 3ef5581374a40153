-- How many points an effect leaves.
use Rattle.std.proofs.Common.{◌≡◌, ℕ, ◌+◌, ◌-◌, ◌*◌, ◌<◌, ◌≤◌, nat_le, if◌then◌else◌, IsTrue, ◌⊎◌, inl, inr, List, [], ◌∷◌, ◌++◌, length, map, Bool, true, false, Some, None, unwrap_or, refl, sym, ◌∙◌, ap, arith}
use Rattle.std.specs.List.{flat_map, range_with_len}
use Rattle.std.proofs.lemmas.Bool.{false≢true}
use Rattle.std.proofs.lemmas.Bool.Decides.{nat_tests}
use Rattle.std.proofs.lemmas.List.{length-map}
use Rattle.std.proofs.lemmas.List.Sums.{sum_by-append, sum_by-cons}
use Rattle.std.proofs.lemmas.List.FromFn.{length-range_with_len}
use Rattle.rig_fixed.specs.Vector.{v3_sum, v3_multiple}
use Rattle.rig_fixed.specs.declared.vector.V3.{V3}
use Rattle.rig_scene.specs.declared.channel.Axis.{Axis}
use Rattle.rig_scene.specs.declared.channel.Axis.TheVariants.{X, Y, Z}
use Rattle.rig_scene.specs.declared.pencil.Stroke.{Stroke}
use Rattle.rig_scene.specs.declared.modifier.Effect.{Effect}
use Rattle.rig_scene.specs.declared.modifier.Effect.TheVariants.{Offset, Mirror, Array}
use Rattle.rig_scene.specs.declared.modifier.Mirror.{Mirror as MirrorRecord}
use Rattle.rig_scene.specs.declared.limits.TheConstants.{MAX_RESULT_POINTS}
use Rattle.rig_scene.specs.Layer.{stroke_points, map_points}
use Rattle.rig_scene.specs.Modify.{reflection_on, mirrored_on, mirror_strokes, times, array_strokes, effect_strokes, modify}
use Rattle.rig_modifiers.specs.Few.{if_few}
use Rattle.rig_modifiers.specs.Copies.{sides_on, mirror_copies, array_copies, copies}

points-cons : (s : Stroke) (ss : List Stroke) → stroke_points (s ∷ ss) ≡ length s.points + stroke_points ss
points-cons s ss = sum_by-cons (λ s. length s.points) s ss

points-append : (ss ts : List Stroke) → stroke_points (ss ++ ts) ≡ stroke_points ss + stroke_points ts
points-append ss ts = sum_by-append (λ s. length s.points) ss ts

-- points that are changed are as many
pub points-map : (f : V3 → V3) (ss : List Stroke) → stroke_points (map_points f ss) ≡ stroke_points ss
points-map f [] = refl
points-map f (s ∷ ss) =
    let here : length (map f s.points) ≡ length s.points = length-map s.points f in
    let rest : stroke_points (map_points f ss) ≡ stroke_points ss = points-map f ss in
    let new : Stroke = record { points = map f s.points } in
    let first : stroke_points (new ∷ map_points f ss) ≡ length (map f s.points) + stroke_points (map_points f ss) = points-cons new (map_points f ss) in
    let before : stroke_points (s ∷ ss) ≡ length s.points + stroke_points ss = points-cons s ss in
    first ∙ ap (λ n. n + stroke_points (map_points f ss)) here ∙ ap (λ n. length s.points + n) rest ∙ sym before

pub points-mirrored_on : (on : Bool) (axis : Axis) (centre : V3) (ss : List Stroke) → stroke_points (mirrored_on on axis centre ss) ≡ sides_on on * stroke_points ss
points-mirrored_on false axis centre ss = omega arith
points-mirrored_on true axis centre ss =
    let both : stroke_points (ss ++ map_points (reflection_on axis centre) ss) ≡ stroke_points ss + stroke_points (map_points (reflection_on axis centre) ss) = points-append ss (map_points (reflection_on axis centre) ss) in
    let same : stroke_points (map_points (reflection_on axis centre) ss) ≡ stroke_points ss = points-map (reflection_on axis centre) ss in
    both ∙ (omega arith)

product-regroup : (a b c n : ℕ) → c * (b * (a * n)) ≡ a * b * c * n
product-regroup a b c n = omega arith

points-mirror : (mirror : MirrorRecord) (centre : V3) (ss : List Stroke) → stroke_points (mirror_strokes mirror centre ss) ≡ mirror_copies mirror * stroke_points ss
points-mirror mirror centre ss =
    let once = mirrored_on mirror.x X centre ss in
    let twice = mirrored_on mirror.y Y centre once in
    points-mirrored_on mirror.z Z centre twice
    ∙ ap (λ n. sides_on mirror.z * n) (points-mirrored_on mirror.y Y centre once ∙ ap (λ n. sides_on mirror.y * n) (points-mirrored_on mirror.x X centre ss))
    ∙ product-regroup (sides_on mirror.x) (sides_on mirror.y) (sides_on mirror.z) (stroke_points ss)

one_more : (m n : ℕ) → n + m * n ≡ (1 + m) * n
one_more m n = omega arith

-- each of several copies has as many points
points-copies : (change : ℕ → V3 → V3) (ss : List Stroke) (ks : List ℕ) → stroke_points (flat_map (λ k. map_points (change k) ss) ks) ≡ length ks * stroke_points ss
points-copies change ss [] = omega arith
points-copies change ss (k ∷ ks) =
    let one : stroke_points (map_points (change k) ss) ≡ stroke_points ss = points-map (change k) ss in
    let rest : stroke_points (flat_map (λ k. map_points (change k) ss) ks) ≡ length ks * stroke_points ss = points-copies change ss ks in
    let count : length (k ∷ ks) ≡ 1 + length ks = omega arith in
    points-append (map_points (change k) ss) (flat_map (λ k. map_points (change k) ss) ks)
    ∙ ap (λ n. n + stroke_points (flat_map (λ k. map_points (change k) ss) ks)) one
    ∙ ap (λ n. stroke_points ss + n) rest
    ∙ one_more (length ks) (stroke_points ss)
    ∙ ap (λ n. n * stroke_points ss) (sym count)

points-array : (count : ℕ) (offset : V3) (ss : List Stroke) → stroke_points (array_strokes count offset ss) ≡ array_copies count * stroke_points ss
points-array count offset ss =
    let change : ℕ → V3 → V3 = λ k p. v3_sum p (times k offset) in
    let ks = range_with_len 1 (count - 1) in
    let all : 1 + (count - 1) ≡ array_copies count = omega arith in
    points-append ss (flat_map (λ k. map_points (change k) ss) ks)
    ∙ ap (λ n. stroke_points ss + n) (points-copies change ss ks ∙ ap (λ n. n * stroke_points ss) (length-range_with_len 1 (count - 1)))
    ∙ one_more (count - 1) (stroke_points ss)
    ∙ ap (λ n. n * stroke_points ss) all

-- an effect leaves so many times the points
pub points-effect : (effect : Effect) (centre : V3) (ss : List Stroke) → stroke_points (effect_strokes effect centre ss) ≡ copies effect * stroke_points ss
points-effect (Offset loc scale) centre ss =
    let same : stroke_points (effect_strokes (Offset loc scale) centre ss) ≡ stroke_points ss = points-map (λ p. v3_sum (v3_multiple scale p) loc) ss in
    same ∙ sym (omega arith)
points-effect (Mirror mirror) centre ss = points-mirror mirror centre ss
points-effect (Array count offset) centre ss = points-array count offset ss

le-or-lt : (n most : ℕ) → (n ≤ most) ⊎ (most < n)
le-or-lt n most = grind (arith, nat_tests)

if-within : {X : Type 0} (n : ℕ) (few many : X) → n ≤ MAX_RESULT_POINTS → (if nat_le n MAX_RESULT_POINTS then few else many) ≡ few
if-within n few many within =
    let test : nat_le n MAX_RESULT_POINTS ≡ true = grind (arith, nat_tests) in
    rw test

if-above : {X : Type 0} (n : ℕ) (few many : X) → MAX_RESULT_POINTS < n → (if nat_le n MAX_RESULT_POINTS then few else many) ≡ many
if-above n few many above =
    let test : nat_le n MAX_RESULT_POINTS ≡ false = grind (arith, nat_tests) in
    rw test

-- an effect's strokes are few where its copies are
pub few-within : (effect : Effect) (centre : V3) (ss : List Stroke) (n : ℕ) → n ≡ copies effect → n * stroke_points ss ≤ MAX_RESULT_POINTS → Some (effect_strokes effect centre ss) ≡ if_few (effect_strokes effect centre ss)
few-within effect centre ss n is within =
    let points : n * stroke_points ss ≡ stroke_points (effect_strokes effect centre ss) = ap (λ n. n * stroke_points ss) is ∙ sym (points-effect effect centre ss) in
    let few : stroke_points (effect_strokes effect centre ss) ≤ MAX_RESULT_POINTS = omega arith in
    sym (if-within (stroke_points (effect_strokes effect centre ss)) (Some (effect_strokes effect centre ss)) None few)

pub few-above : (effect : Effect) (centre : V3) (ss : List Stroke) (n : ℕ) → n ≡ copies effect → MAX_RESULT_POINTS < n * stroke_points ss → None ≡ if_few (effect_strokes effect centre ss)
few-above effect centre ss n is above =
    let points : n * stroke_points ss ≡ stroke_points (effect_strokes effect centre ss) = ap (λ n. n * stroke_points ss) is ∙ sym (points-effect effect centre ss) in
    let many : MAX_RESULT_POINTS < stroke_points (effect_strokes effect centre ss) = omega arith in
    sym (if-above (stroke_points (effect_strokes effect centre ss)) (Some (effect_strokes effect centre ss)) None many)

-- what a modifier does: the strokes of the effect where they are few, else the strokes as they are
by_few : (b : Bool) (few ss : List Stroke) → unwrap_or (if b then Some few else None) ss ≡ (if b then few else ss)
by_few true few ss = refl
by_few false few ss = refl

pub modify-by_few : (effect : Effect) (centre : V3) (ss : List Stroke) → unwrap_or (if_few (effect_strokes effect centre ss)) ss ≡ modify effect centre ss
unfolding modify
modify-by_few effect centre ss = by_few (nat_le (stroke_points (effect_strokes effect centre ss)) MAX_RESULT_POINTS) (effect_strokes effect centre ss) ss

-- what isn't within a limit is above it
pub above : (n most : ℕ) → (n ≤ most → IsTrue false) → most < n
above n most fails = elim (le-or-lt n most) [ inl within ↦ absurd (false≢true (fails within)) | inr beyond ↦ beyond ]
