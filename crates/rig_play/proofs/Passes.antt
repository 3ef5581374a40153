-- One pass over the objects: each stands afterwards where it stands from scratch.
use Rattle.std.proofs.Common.{take, drop, inl, inr, ◌≡◌, ℕ, zero, suc, ◌+◌, ◌*◌, ◌<◌, ◌≤◌, ◌&&◌, List, [], ◌∷◌, ◌++◌, length, map, Bool, true, false, not, Option, Some, None, is_some, ℤ, slice_get, slice_set, refl, sym, ap, ◌∙◌, arith, if◌then◌else◌}
use Rattle.std.proofs.lemmas.Bool.{and_cases, or_parts, not-false}
use Rattle.std.proofs.lemmas.Bool.Decides.{Decides-int_eq}
use Rattle.std.proofs.lemmas.List.{length-map}
use Rattle.std.specs.Ordering.{int_eq}
use Rattle.rig_fixed.specs.Transform.{Transform}
use Rattle.rig_scene.specs.declared.object.Object.{Object}
use Rattle.rig_scene.specs.Scene.{SceneRecord}
use Rattle.rig_scene.specs.WellFormed.{is_scene}
use Rattle.rig_edits.specs.declared.change.TheConstants.{MAX_NEXT}
use Rattle.rig_play.specs.Flush.{is_first, is_moved}
use Rattle.rig_play.specs.Plain.{is_plain_scene}
use Rattle.rig_play.specs.Stands.{Stands, plain_world, is_reached, object_ran, objects_ran, stand, all_stand}

-- ---- the loop over the objects

-- the object at an index is run, and its mark goes
pub stand_more : (scene : SceneRecord) (first moved : Bool) (frame : ℤ) (i : ℕ) (objects : List Object) (marks : List Bool) (worlds : List Transform) (o : Object) (mark : Bool) (world : Transform) → slice_get objects i ≡ Some o → slice_get marks i ≡ Some mark → slice_get worlds i ≡ Some world → take i worlds ++ all_stand scene first moved frame (drop i objects) (drop i marks) (drop i worlds) ≡ take (suc i) (slice_set worlds i (stand scene first moved frame o mark world)) ++ all_stand scene first moved frame (drop (suc i) objects) (drop (suc i) (slice_set marks i false)) (drop (suc i) (slice_set worlds i (stand scene first moved frame o mark world)))
stand_more scene first moved frame i [] marks worlds o mark world a c d = cc
stand_more scene first moved frame i (x ∷ xs) [] worlds o mark world a c d = cc
stand_more scene first moved frame i (x ∷ xs) (m ∷ ms) [] o mark world a c d = cc
stand_more scene first moved frame zero (x ∷ xs) (m ∷ ms) (z ∷ zs) o mark world a c d =
    let a' : x ≡ o = cc in
    let c' : m ≡ mark = cc in
    let d' : z ≡ world = cc in
    rw (a', c', d') refl
stand_more scene first moved frame (suc i) (x ∷ xs) (m ∷ ms) (z ∷ zs) o mark world a c d =
    ap (λ vs. z ∷ vs) (stand_more scene first moved frame i xs ms zs o mark world a c d)

pub unmarked_more : (i : ℕ) (marks : List Bool) (mark : Bool) → slice_get marks i ≡ Some mark → take i marks ++ map (λ _. false) (drop i marks) ≡ take (suc i) (slice_set marks i false) ++ map (λ _. false) (drop (suc i) (slice_set marks i false))
unmarked_more i [] mark there = cc
unmarked_more zero (m ∷ ms) mark there = refl
unmarked_more (suc i) (m ∷ ms) mark there = ap (λ vs. m ∷ vs) (unmarked_more i ms mark there)

pub ran_more : (first moved : Bool) (i : ℕ) (objects : List Object) (marks : List Bool) (o : Object) (mark : Bool) → slice_get objects i ≡ Some o → slice_get marks i ≡ Some mark → objects_ran first moved (drop i objects) (drop i marks) ≡ object_ran first moved o mark + objects_ran first moved (drop (suc i) objects) (drop (suc i) (slice_set marks i false))
ran_more first moved i [] marks o mark a b = cc
ran_more first moved i (x ∷ xs) [] o mark a b = cc
ran_more first moved zero (x ∷ xs) (m ∷ ms) o mark a b =
    let a' : x ≡ o = cc in
    let b' : m ≡ mark = cc in
    rw (a', b') refl
ran_more first moved (suc i) (x ∷ xs) (m ∷ ms) o mark a b = ran_more first moved i xs ms o mark a b

few : (a b : Bool) → (if a then 1 else 0) + (if b then 2 else 0) ≤ 3
few true true = omega arith
few true false = omega arith
few false true = omega arith
few false false = omega arith

pub time-most : (a : Bool) → (if a then 1 else 0) ≤ 1
time-most true = omega arith
time-most false = omega arith

-- at most three operations an object
pub object_ran-most : (first moved : Bool) (o : Object) (mark : Bool) → object_ran first moved o mark ≤ 3
object_ran-most first moved o mark = few (moved && is_some o.action) (is_reached first moved o mark)

-- what ran so far and what is left add up
pub ran_step : (so_far here left left' count all : ℕ) → so_far + left ≡ all → left ≡ count + left' → here ≡ count → (so_far + here) + left' ≡ all
ran_step so_far here left left' count all a b c = omega arith

pub ticks_step : (before so_far here now now' : ℕ) → now ≡ before + so_far → now' ≡ now + here → now' ≡ before + (so_far + here)
ticks_step before so_far here now now' a b = omega arith

pub few_step : (so_far here count index : ℕ) → so_far ≤ 3 * index → count ≤ 3 → here ≡ count → so_far + here ≤ 3 * (index + 1)
few_step so_far here count index a b c = omega arith

-- ---- the whole pass

-- an object without an action stands still
world-still : (scene : SceneRecord) (o : Object) (f g : ℤ) → o.action ≡ None → plain_world scene f o ≡ plain_world scene g o
world-still scene o f g none = rw none refl

none_from : (r : Option ℕ) → is_some r ≡ false → r ≡ None
none_from None e = refl
none_from (Some x) e = cc

-- what a pass doesn't reach stands already where it does at the pass's frame
kept-still : (scene : SceneRecord) (marks : List Bool) (worlds : List Transform) (last r : Option ℤ) (frame : ℤ) → Stands scene marks worlds last → r ≡ last → (index : ℕ) (o : Object) (mark : Bool) → slice_get scene.objects index ≡ Some o → slice_get marks index ≡ Some mark → is_reached (is_first r) (is_moved r frame) o mark ≡ false → slice_get worlds index ≡ Some (plain_world scene frame o)
kept-still scene marks worlds last None frame s is index o mark there marked unreached = cc
kept-still scene marks worlds last (Some g) frame s is index o mark there marked unreached =
    let parts = or_parts (not (int_eq g frame) && is_some o.action) mark unreached in
    let unmarked : slice_get marks index ≡ Some false = marked ∙ ap Some parts.1 in
    let known : slice_get worlds index ≡ Some (plain_world scene g o) = s.kept g (sym is) index o there unmarked in
    elim (and_cases (not (int_eq g frame)) (is_some o.action) parts.0) [
      | inl h ↦ let same : g ≡ frame = (Decides-int_eq g frame).0 (not-false (int_eq g frame) h) in known ∙ ap (λ t. Some (plain_world scene t o)) same
      | inr h ↦ known ∙ ap Some (world-still scene o g frame (none_from o.action h))
    ]

-- an object after a pass
stand-is : (scene : SceneRecord) (first moved : Bool) (frame : ℤ) (o : Object) (mark : Bool) (world : Transform) → (is_reached first moved o mark ≡ false → Some world ≡ Some (plain_world scene frame o)) → stand scene first moved frame o mark world ≡ plain_world scene frame o
stand-is scene first moved frame o mark world still = go (is_reached first moved o mark) refl
  where
    go : (b : Bool) → is_reached first moved o mark ≡ b → (if b then plain_world scene frame o else world) ≡ plain_world scene frame o
    go true e = refl
    go false e = let known = still e in cc

-- all objects after a pass
all_stand-is : (scene : SceneRecord) (first moved : Bool) (frame : ℤ) (objects : List Object) (marks : List Bool) (worlds : List Transform) → length marks ≡ length objects → length worlds ≡ length objects → ((index : ℕ) (o : Object) (mark : Bool) → slice_get objects index ≡ Some o → slice_get marks index ≡ Some mark → is_reached first moved o mark ≡ false → slice_get worlds index ≡ Some (plain_world scene frame o)) → all_stand scene first moved frame objects marks worlds ≡ map (plain_world scene frame) objects
all_stand-is scene first moved frame [] marks worlds ml wl still = refl
all_stand-is scene first moved frame (x ∷ xs) [] worlds ml wl still = absurd (omega arith)
all_stand-is scene first moved frame (x ∷ xs) (m ∷ ms) [] ml wl still = absurd (omega arith)
all_stand-is scene first moved frame (x ∷ xs) (m ∷ ms) (w ∷ ws) ml wl still =
    let rest : all_stand scene first moved frame xs ms ws ≡ map (plain_world scene frame) xs =
    all_stand-is scene first moved frame xs ms ws (omega arith) (omega arith) (λ index o mark there m r. still (suc index) o mark there m r) in
    let head : stand scene first moved frame x m w ≡ plain_world scene frame x = stand-is scene first moved frame x m w (λ r. still 0 x m refl refl r) in
    rw (head, rest) refl

-- after the pass of an engine each object stands where it does at the frame
pub pass-is : (scene : SceneRecord) (marks : List Bool) (worlds : List Transform) (last : Option ℤ) (frame : ℤ) → Stands scene marks worlds last → all_stand scene (is_first last) (is_moved last frame) frame scene.objects marks worlds ≡ map (plain_world scene frame) scene.objects
pass-is scene marks worlds last frame s =
    all_stand-is scene (is_first last) (is_moved last frame) frame scene.objects marks worlds s.marks_length s.worlds_length
    (λ index o mark there m r. kept-still scene marks worlds last last frame s refl index o mark there m r)

-- what is at an index of a list of worlds
world-at : (scene : SceneRecord) (frame : ℤ) (objects : List Object) (index : ℕ) (o : Object) → slice_get objects index ≡ Some o → slice_get (map (plain_world scene frame) objects) index ≡ Some (plain_world scene frame o)
world-at scene frame [] index o there = cc
world-at scene frame (x ∷ xs) zero o there = let same : x ≡ o = cc in ap (λ y. Some (plain_world scene frame y)) same
world-at scene frame (x ∷ xs) (suc index) o there = world-at scene frame xs index o there

-- an engine after a frame
pub stands-frame : (scene : SceneRecord) (marks marks' : List Bool) (worlds worlds' : List Transform) (last : Option ℤ) (frame : ℤ) → Stands scene marks worlds last → marks' ≡ map (λ _. false) marks → worlds' ≡ map (plain_world scene frame) scene.objects → Stands scene marks' worlds' (Some frame)
stands-frame scene marks marks' worlds worlds' last frame s unmarked stood = record {
  is_scene = s.is_scene;
  plain = s.plain;
  next = s.next;
  marks_length = ap length unmarked ∙ length-map marks (λ _. false) ∙ s.marks_length;
  worlds_length = ap length stood ∙ length-map scene.objects (plain_world scene frame);
  kept = λ g is index o there unset.
      let same : frame ≡ g = cc in
      ap (λ ws. slice_get ws index) stood ∙ world-at scene frame scene.objects index o there ∙ ap (λ t. Some (plain_world scene t o)) same;
}

-- an engine before any step
pub stands-open : (scene : SceneRecord) (marks : List Bool) (worlds : List Transform) → is_scene scene ≡ true → is_plain_scene scene ≡ true → scene.next < MAX_NEXT → marks ≡ map (λ _. false) scene.objects → length worlds ≡ length scene.objects → Stands scene marks worlds None
stands-open scene marks worlds holds plain next unmarked many = record {
  is_scene = holds;
  plain = plain;
  next = next;
  marks_length = ap length unmarked ∙ length-map scene.objects (λ _. false);
  worlds_length = many;
  kept = λ frame is index o there unset. cc;
}

-- the worlds of an engine without a mark are those of the last frame
pub worlds-at_last : (scene : SceneRecord) (marks : List Bool) (worlds : List Transform) (last : Option ℤ) (frame : ℤ) → Stands scene marks worlds last → last ≡ Some frame → marks ≡ map (λ _. false) marks → worlds ≡ map (plain_world scene frame) scene.objects
worlds-at_last scene marks worlds last frame s is unmarked =
    go scene.objects marks worlds s.marks_length s.worlds_length unmarked (λ index o there unset. s.kept frame is index o there unset)
  where
    go : (objects : List Object) (ms : List Bool) (ws : List Transform) → length ms ≡ length objects → length ws ≡ length objects → ms ≡ map (λ _. false) ms → ((index : ℕ) (o : Object) → slice_get objects index ≡ Some o → slice_get ms index ≡ Some false → slice_get ws index ≡ Some (plain_world scene frame o)) → ws ≡ map (plain_world scene frame) objects
    go [] ms [] ml wl un each = refl
    go [] ms (w ∷ ws) ml wl un each = absurd (omega arith)
    go (x ∷ xs) [] ws ml wl un each = absurd (omega arith)
    go (x ∷ xs) (m ∷ ms) [] ml wl un each = absurd (omega arith)
    go (x ∷ xs) (m ∷ ms) (w ∷ ws) ml wl un each =
        let first : m ≡ false = cc in
        let others : ms ≡ map (λ _. false) ms = cc in
        let here : Some w ≡ Some (plain_world scene frame x) = each 0 x refl (ap Some first) in
        let same : w ≡ plain_world scene frame x = cc in
        let rest : ws ≡ map (plain_world scene frame) xs = go xs ms ws (omega arith) (omega arith) others (λ index o there unset. each (suc index) o there unset) in
        rw (same, ← rest) refl

-- marks that are off stay so
pub unmarked-twice : (marks : List Bool) → map (λ _. false) marks ≡ map (λ _. false) (map (λ _. false) marks)
unmarked-twice [] = refl
unmarked-twice (m ∷ ms) = ap (λ xs. false ∷ xs) (unmarked-twice ms)
