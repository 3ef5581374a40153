-- The sides of a mirror are the strokes that it gives.
use Rattle.std.proofs.Common.{◌≡◌, Bool, true, false, List, [], ◌∷◌, ◌++◌, map, refl, sym, ◌∙◌, ap, append_assoc}
use Rattle.std.proofs.lemmas.List.{map-append}
use Rattle.rig_fixed.specs.declared.vector.V3.{V3}
use Rattle.rig_scene.specs.declared.channel.Axis.{Axis}
use Rattle.rig_scene.specs.declared.channel.Axis.TheVariants.{X, Y, Z}
use Rattle.rig_scene.specs.declared.pencil.Stroke.{Stroke}
use Rattle.rig_scene.specs.declared.modifier.Mirror.{Mirror as MirrorRecord}
use Rattle.rig_scene.specs.Layer.{map_points}
use Rattle.rig_scene.specs.Modify.{reflection_on, mirrored_on, mirror_strokes}
use Rattle.rig_points.specs.Change.{reflection_over}
use Rattle.rig_points.specs.declared.change.Axes.{Axes}
use Rattle.rig_modifiers.specs.Sides.{side, on_x, on_y}

map-twice : (f g h : V3 → V3) (ps : List V3) → ((p : V3) → f (g p) ≡ h p) → map f (map g ps) ≡ map h ps
map-twice f g h [] same = refl
map-twice f g h (p ∷ ps) same = ap (λ q. q ∷ map f (map g ps)) (same p) ∙ ap (λ qs. h p ∷ qs) (map-twice f g h ps same)

-- strokes that are changed map_points-twice
map_points-twice : (f g h : V3 → V3) (ss : List Stroke) → ((p : V3) → f (g p) ≡ h p) → map_points f (map_points g ss) ≡ map_points h ss
map_points-twice f g h [] same = refl
map_points-twice f g h (s ∷ ss) same =
    let new : List V3 → Stroke = λ ps. record { points = ps } in
    ap (λ ps. new ps ∷ map_points f (map_points g ss)) (map-twice f g h s.points same)
    ∙ ap (λ ts. new (map h s.points) ∷ ts) (map_points-twice f g h ss same)

map-same : (f : V3 → V3) (ps : List V3) → ((p : V3) → f p ≡ p) → map f ps ≡ ps
map-same f [] same = refl
map-same f (p ∷ ps) same = ap (λ q. q ∷ map f ps) (same p) ∙ ap (λ qs. p ∷ qs) (map-same f ps same)

-- strokes that aren't changed
map_points-same : (f : V3 → V3) (ss : List Stroke) → ((p : V3) → f p ≡ p) → map_points f ss ≡ ss
map_points-same f [] same = refl
map_points-same f (s ∷ ss) same =
    let new : List V3 → Stroke = λ ps. record { points = ps } in
    ap (λ ps. new ps ∷ map_points f ss) (map-same f s.points same) ∙ ap (λ ts. s ∷ ts) (map_points-same f ss same)

-- a change of points that doesn't care whether they were put on the other side first
through : (f : V3 → V3) (on : Bool) (axis : Axis) (centre : V3) (ss : List Stroke) → ((p : V3) → f (reflection_on axis centre p) ≡ reflection_on axis centre (f p)) → map_points f (mirrored_on on axis centre ss) ≡ mirrored_on on axis centre (map_points f ss)
through f false axis centre ss same = refl
through f true axis centre ss same =
    let g = reflection_on axis centre in
    map-append (λ s. record { points = map f s.points }) ss (map_points g ss)
    ∙ ap (λ ts. map_points f ss ++ ts) (map_points-twice f g (λ p. g (f p)) ss same ∙ sym (map_points-twice g f (λ p. g (f p)) ss (λ p. refl)))

-- sides, by whether each of their axes is on
abbrev sides : Bool → Bool → Bool → Axes
sides x y z = record { x = x; y = y; z = z }

side-x : (axes : Axes) (centre : V3) (ss : List Stroke) → axes.x ≡ false → side (sides true axes.y axes.z) centre ss ≡ map_points (reflection_on X centre) (side axes centre ss)
side-x axes centre ss off =
    sym (map_points-twice (reflection_on X centre) (reflection_over (sides false axes.y axes.z) centre) (reflection_over (sides true axes.y axes.z) centre) ss (λ p. refl))
    ∙ ap (λ x. map_points (reflection_on X centre) (side (sides x axes.y axes.z) centre ss)) (sym off)

side-y : (z : Bool) (centre : V3) (ss : List Stroke) → map_points (reflection_on Y centre) (side (sides false false z) centre ss) ≡ side (sides false true z) centre ss
side-y z centre ss = map_points-twice (reflection_on Y centre) (reflection_over (sides false false z) centre) (reflection_over (sides false true z) centre) ss (λ p. refl)

side-z : (centre : V3) (ss : List Stroke) → map_points (reflection_on Z centre) (side (sides false false false) centre ss) ≡ side (sides false false true) centre ss
side-z centre ss = map_points-twice (reflection_on Z centre) (reflection_over (sides false false false) centre) (reflection_over (sides false false true) centre) ss (λ p. refl)

-- the other side of x, after the one
pub across-x : (mirror : MirrorRecord) (centre : V3) (axes : Axes) (ss : List Stroke) → axes.x ≡ false → mirror.x ≡ true → side axes centre ss ++ side (sides true axes.y axes.z) centre ss ≡ on_x mirror centre axes ss
across-x mirror centre axes ss off on =
    ap (λ ts. side axes centre ss ++ ts) (side-x axes centre ss off) ∙ ap (λ on. mirrored_on on X centre (side axes centre ss)) (sym on)

-- where x is off
pub within-x : (mirror : MirrorRecord) (centre : V3) (axes : Axes) (ss : List Stroke) → mirror.x ≡ false → side axes centre ss ≡ on_x mirror centre axes ss
within-x mirror centre axes ss off = ap (λ on. mirrored_on on X centre (side axes centre ss)) (sym off)

on_x-y : (mirror : MirrorRecord) (centre : V3) (z : Bool) (ss : List Stroke) → map_points (reflection_on Y centre) (on_x mirror centre (sides false false z) ss) ≡ on_x mirror centre (sides false true z) ss
on_x-y mirror centre z ss =
    through (reflection_on Y centre) mirror.x X centre (side (sides false false z) centre ss) (λ p. refl) ∙ ap (mirrored_on mirror.x X centre) (side-y z centre ss)

-- the other side of y, after the one
pub across-y : (mirror : MirrorRecord) (centre : V3) (z : Bool) (ss : List Stroke) → mirror.y ≡ true → on_x mirror centre (sides false false z) ss ++ on_x mirror centre (sides false true z) ss ≡ on_y mirror centre z ss
across-y mirror centre z ss on =
    let here = on_x mirror centre (sides false false z) ss in
    ap (λ ts. here ++ ts) (sym (on_x-y mirror centre z ss)) ∙ ap (λ on. mirrored_on on Y centre here) (sym on)

-- where y is off
pub within-y : (mirror : MirrorRecord) (centre : V3) (z : Bool) (ss : List Stroke) → mirror.y ≡ false → on_x mirror centre (sides false false z) ss ≡ on_y mirror centre z ss
within-y mirror centre z ss off = ap (λ on. mirrored_on on Y centre (on_x mirror centre (sides false false z) ss)) (sym off)

on_x-z : (mirror : MirrorRecord) (centre : V3) (ss : List Stroke) → map_points (reflection_on Z centre) (on_x mirror centre (sides false false false) ss) ≡ on_x mirror centre (sides false false true) ss
on_x-z mirror centre ss =
    through (reflection_on Z centre) mirror.x X centre (side (sides false false false) centre ss) (λ p. refl) ∙ ap (mirrored_on mirror.x X centre) (side-z centre ss)

on_y-z : (mirror : MirrorRecord) (centre : V3) (ss : List Stroke) → map_points (reflection_on Z centre) (on_y mirror centre false ss) ≡ on_y mirror centre true ss
on_y-z mirror centre ss =
    through (reflection_on Z centre) mirror.y Y centre (on_x mirror centre (sides false false false) ss) (λ p. refl)
    ∙ ap (mirrored_on mirror.y Y centre) (on_x-z mirror centre ss)

first : (mirror : MirrorRecord) (centre : V3) (ss : List Stroke) → mirrored_on mirror.z Z centre (on_y mirror centre false ss) ≡ mirror_strokes mirror centre ss
first mirror centre ss =
    ap (λ ts. mirrored_on mirror.z Z centre (mirrored_on mirror.y Y centre (mirrored_on mirror.x X centre ts)))
    (map_points-same (reflection_over (sides false false false) centre) ss (λ p. refl))

-- the other side of z, after the one
pub across-z : (mirror : MirrorRecord) (centre : V3) (ss : List Stroke) → mirror.z ≡ true → on_y mirror centre false ss ++ on_y mirror centre true ss ≡ mirror_strokes mirror centre ss
across-z mirror centre ss on =
    let here = on_y mirror centre false ss in
    ap (λ ts. here ++ ts) (sym (on_y-z mirror centre ss)) ∙ ap (λ on. mirrored_on on Z centre here) (sym on) ∙ first mirror centre ss

-- where z is off
pub within-z : (mirror : MirrorRecord) (centre : V3) (ss : List Stroke) → mirror.z ≡ false → on_y mirror centre false ss ≡ mirror_strokes mirror centre ss
within-z mirror centre ss off = ap (λ on. mirrored_on on Z centre (on_y mirror centre false ss)) (sym off) ∙ first mirror centre ss

-- what was added first and then is all that was to be added
pub append-then : (old new first then all : List Stroke) → new ≡ old ++ first → first ++ then ≡ all → new ++ then ≡ old ++ all
append-then old new first then all added is = ap (λ ts. ts ++ then) added ∙ append_assoc old first then ∙ ap (λ ts. old ++ ts) is
