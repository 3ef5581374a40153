-- What an operation takes at the links that stand for its reads, by what each source gives and whether the read of it is cut:
-- the channels and the driver's variables that come of it.
use Rattle.std.specs.Prelude.{◌≡◌, ◌<◌, ℕ, zero, suc, List, [], ◌∷◌, ◌++◌, length, map, drop, slice_get, filter, Bool, true, false, if◌then◌else◌, nat_lt, Option, Some, None, is_some, option_map, option_and_then, ℤ, Contains}
use Rattle.std.specs.Option.{option_map_or}
use Rattle.std.specs.List.{find, position, position_or_len, slice_index_or}
use Rattle.std.proofs.Common.{refl, sym, ap, cond, arith, ◌∙◌, true≢false}
use Rattle.std.proofs.lemmas.Bool.{ltb-true, ltb-false}
use Rattle.std.proofs.lemmas.List.Elements.{All-contains, filter_passes}
use Rattle.std.proofs.lemmas.List.Folds.{find_at}
use Rattle.std.proofs.lemmas.Option.{slice_get_past}
use Rattle.rig_scene.specs.declared.driver.Driver.{Driver as DriverRecord}
use Rattle.rig_scene.specs.declared.id.AnimId.{AnimId}
use Rattle.rig_scene.specs.declared.id.AnimId.TheVariants as anim
use Rattle.rig_scene.specs.declared.object.Object.{Object}
use Rattle.rig_scene.specs.declared.operation.OpId.{OpId}
use Rattle.rig_scene.specs.declared.operation.OpId.TheVariants.{Animation}
use Rattle.rig_scene.specs.declared.path.Path.{Path}
use Rattle.rig_scene.specs.declared.pencil.PencilData.{PencilData}
use Rattle.rig_scene.specs.declared.quantity.Quantity.{Quantity}
use Rattle.rig_scene.specs.declared.quantity.Quantity.TheVariants as quantity
use Rattle.rig_scene.specs.declared.quantity.Read.{Read}
use Rattle.rig_scene.specs.ChannelNumber.{action_of, action_numbers, id_numbers, animated_number, number_by}
use Rattle.rig_scene.specs.Drivers.{driver_of, is_driven, driven_paths, has_action}
use Rattle.rig_scene.specs.Found.{some_slice_get}
use Rattle.rig_scene.specs.Operations.{kept_link, animation_of, operation_of}
use Rattle.rig_scene.specs.Path.{same_path}
use Rattle.rig_scene.specs.Quantities.{inner_read, driven_reads}
use Rattle.rig_scene.specs.Same.{same_path-equal, same_path-Decides}
use Rattle.rig_scene.specs.Scene.{SceneRecord, object_of}
use Rattle.rig_scene.specs.Value.{Value, Numbers, number_in, numbers_in, inputs_at, number_at as number_over, driven_number as driven_over}
use Rattle.rig_laws.specs.Lists.{find-Some, is_some-Some}
use Rattle.rig_laws.specs.Kernel.{curve_numbers, after_animation, driven_number, channel_number}
use Rattle.rig_laws.specs.Output.{Output, output_at, number_at, numbers_at}

-- ---- positions

-- what stands at the index of the first that passes, where each index has what its element gives
pub at_position : {X Y : Type 0} (p : X → Bool) (f : ℕ → Y) (g : X → Y) (xs : List X) → ((k : ℕ) (x : X) → slice_get xs k ≡ Some x → f k ≡ g x) → option_map f (position p xs) ≡ option_map g (find p xs)
at_position {X} {Y} p f g xs h = by (nat_lt n (length xs)) refl ∙ ap (option_map g) (sym (find_at p xs))
  where
    n : ℕ
    n = position_or_len p xs

    by : (b : Bool) → nat_lt n (length xs) ≡ b → option_map f (cond b (Some n) None) ≡ option_map g (slice_get xs n)
    by true e =
        let found = some_slice_get xs n (ltb-true n (length xs) e) in
        ap Some (h n found.0 found.1) ∙ ap (option_map g) (sym found.1)
    by false e = ap (option_map g) (sym (slice_get_past xs n (ltb-false n (length xs) e)))

kept_at : {X : Type 0} (q p : X → Bool) (xs : List X) (x : X) → q x ≡ true → p x ≡ true → (k : ℕ) → k < length xs → slice_index_or xs k x ≡ x → is_some (find p (filter q xs)) ≡ true
kept_at q p [] x h g k l e = absurd (omega arith)
kept_at q p (y ∷ ys) x h g zero l e =
    ap (λ b. is_some (find p (cond b (y ∷ filter q ys) (filter q ys)))) (ap q e ∙ h)
    ∙ ap (λ b. is_some (cond b (Some y) (find p (filter q ys)))) (ap p e ∙ g)
kept_at {X} q p (y ∷ ys) x h g (suc k) l e = by (q y) (kept_at q p ys x h g k (omega arith) e)
  where
    first : (c : Bool) → is_some (find p (filter q ys)) ≡ true → is_some (cond c (Some y) (find p (filter q ys))) ≡ true
    first true f = refl
    first false f = f

    by : (b : Bool) → is_some (find p (filter q ys)) ≡ true → is_some (find p (cond b (y ∷ filter q ys) (filter q ys))) ≡ true
    by true f = first (p y) f
    by false f = f

-- the first of the driven ones of some paths that is the same as one of these
driven_found : (s : SceneRecord) (id : AnimId) (paths : List Path) (path : Path) → Contains paths path → {Y : Type 0} (g : Path → Y) → option_map g (find (same_path path) (driven_paths s id paths)) ≡ option_map (λ d. g path) (driver_of s id path)
driven_found s id paths path within {Y} g = by (driver_of s id path) refl
  where
    none : driver_of s id path ≡ None → (o : Option Path) → find (same_path path) (driven_paths s id paths) ≡ o → option_map g o ≡ None
    none e None f = refl
    none e (Some p) f =
        let found = find-Some (same_path path) (driven_paths s id paths) p f in
        let same : path ≡ p = same_path-equal path p found.1 in
        absurd (true≢false (sym (All-contains (λ p. is_driven s id p ≡ true) (driven_paths s id paths) p (filter_passes (is_driven s id) paths) found.0) ∙ ap (is_driven s id) (sym same) ∙ ap is_some e))

    some : (d : DriverRecord) → driver_of s id path ≡ Some d → option_map g (find (same_path path) (driven_paths s id paths)) ≡ Some (g path)
    some d e =
        let there = kept_at (is_driven s id) (same_path path) paths path (ap is_some e) ((same_path-Decides path path).1 refl) within.0 within.1 within.2 in
        let at = is_some-Some (find (same_path path) (driven_paths s id paths)) there in
        let same : path ≡ at.0 = same_path-equal path at.0 (find-Some (same_path path) (driven_paths s id paths) at.0 at.1).1 in
        ap (option_map g) at.1 ∙ ap (λ p. Some (g p)) (sym same)

    by : (o : Option DriverRecord) → driver_of s id path ≡ o → option_map g (find (same_path path) (driven_paths s id paths)) ≡ option_map (λ d. g path) o
    by None e = none e (find (same_path path) (driven_paths s id paths)) refl
    by (Some d) e = some d e

-- ---- what stands at an index of joined lists

slice_get-map_append : {X Y : Type 0} (f : X → Y) (xs : List X) (ys : List Y) (k : ℕ) (x : X) → slice_get xs k ≡ Some x → slice_get (map f xs ++ ys) k ≡ Some (f x)
slice_get-map_append f [] ys k x e = absurd (cc)
slice_get-map_append f (y ∷ xs) ys zero x e = let same : y ≡ x = cc in ap (λ z. Some (f z)) same
slice_get-map_append f (y ∷ xs) ys (suc k) x e = slice_get-map_append f xs ys k x e

-- behind as many as a list has
pub slice_get-behind : {X Y Z : Type 0} (g : Y → Z) (f : X → Y) (xs : List X) (zs : List Z) → slice_get (map g (map f xs) ++ zs) (length xs) ≡ slice_get zs 0
slice_get-behind g f [] zs = refl
slice_get-behind g f (x ∷ xs) zs = slice_get-behind g f xs zs

pub drop-behind : {X Y : Type 0} (f : X → Y) (xs : List X) (ys : List Y) → drop (length xs) (map f xs ++ ys) ≡ ys
drop-behind f [] ys = refl
drop-behind f (x ∷ xs) ys = drop-behind f xs ys

-- ---- what is taken

-- what is taken of a quantity, by what each gives and whether the read of it is cut
abbrev pub taken : (Quantity → Bool) → (Quantity → Value) → Quantity → Output
taken cut get q = record { op = operation_of q; value = get q; is_rest = cut q }

-- what is taken at the sources of reads
abbrev pub all_taken : (Quantity → Bool) → (Quantity → Value) → List Read → List Output
all_taken cut get rs = map (λ r. taken cut get r.source) rs

-- ---- the animation of an id

-- what is taken of the animation of an id, where each operation has a value
abbrev pub opening : (OpId → Value) → SceneRecord → AnimId → List Output
opening values s id = map (output_at values) (map kept_link (animation_of s id))

-- an id without an action has no curves
pub no_action : (s : SceneRecord) (id : AnimId) → has_action s id ≡ false → action_of s id ≡ None
no_action s (anim.Object o) e = by (object_of s o) e
  where
    by_action : (a : Option ℕ) → is_some a ≡ false → option_and_then (slice_get s.actions) a ≡ None
    by_action None f = refl
    by_action (Some a) f = absurd (true≢false f)

    by : (o : Option Object) → is_some (option_and_then (λ object. object.action) o) ≡ false → option_and_then (λ object. option_and_then (slice_get s.actions) object.action) o ≡ None
    by None f = refl
    by (Some object) f = by_action object.action f
no_action s (anim.Pencil p) e = by (slice_get s.pencils p) e
  where
    by_action : (a : Option ℕ) → is_some a ≡ false → option_and_then (slice_get s.actions) a ≡ None
    by_action None f = refl
    by_action (Some a) f = absurd (true≢false f)

    by : (o : Option PencilData) → is_some (option_and_then (λ pencil. pencil.action) o) ≡ false → option_and_then (λ pencil. option_and_then (slice_get s.actions) pencil.action) o ≡ None
    by None f = refl
    by (Some pencil) f = by_action pencil.action f

module _ (s : SceneRecord) (frame : ℤ) (values : OpId → Value) (id : AnimId) (curves : numbers_in (values (Animation id)) ≡ id_numbers s frame id) where
  pub opening_numbers : (rest : List Output) → curve_numbers s id (opening values s id ++ rest) ≡ id_numbers s frame id
  opening_numbers rest = by (has_action s id) refl
    where
      by : (b : Bool) → has_action s id ≡ b → (if b then numbers_at (map (output_at values) (map kept_link (if b then Animation id ∷ [] else [])) ++ rest) 0 else []) ≡ id_numbers s frame id
      by true e = curves
      by false e = sym (ap (λ a. option_map_or (λ action. action_numbers action frame) a []) (no_action s id e))

pub opening_after : (s : SceneRecord) (values : OpId → Value) (id : AnimId) (rest : List Output) → after_animation s id (opening values s id ++ rest) ≡ rest
opening_after s values id rest = by (has_action s id)
  where
    by : (b : Bool) → drop (length (if b then Animation id ∷ [] else [])) (map (output_at values) (map kept_link (if b then Animation id ∷ [] else [])) ++ rest) ≡ rest
    by true = refl
    by false = refl

-- ---- channels

module _ (s : SceneRecord) (frame : ℤ) (cut : Quantity → Bool) (get : Quantity → Value) where
  -- what the driver of a path gives, by the inputs of the driven ones of paths that it is one of
  pub driven_taken : (id : AnimId) (paths : List Path) (more : List Output) (path : Path) → Contains paths path → driven_number s id paths (all_taken cut get (driven_reads s id paths) ++ more) path ≡ driven_over s get id path
  driven_taken id paths more path within =
      at_position (same_path path) (number_at (all_taken cut get (driven_reads s id paths) ++ more)) (λ p. number_in (get (quantity.Chan id p))) (driven_paths s id paths) number_is
      ∙ driven_found s id paths path within (λ p. number_in (get (quantity.Chan id p)))
    where
      number_is : (k : ℕ) (p : Path) → slice_get (driven_paths s id paths) k ≡ Some p → number_at (all_taken cut get (driven_reads s id paths) ++ more) k ≡ number_in (get (quantity.Chan id p))
      number_is k p e = ap (λ o. number_in (option_map_or (λ i. i.value) o (Numbers []))) (slice_get-map_append (λ r. taken cut get r.source) (driven_reads s id paths) more k (inner_read (quantity.Chan id p)) (read_at (driven_paths s id paths) k e))
        where
          read_at : (ds : List Path) (k : ℕ) → slice_get ds k ≡ Some p → slice_get (map (λ p. inner_read (quantity.Chan id p)) ds) k ≡ Some (inner_read (quantity.Chan id p))
          read_at [] k e = absurd (cc)
          read_at (d ∷ ds) zero e = let same : d ≡ p = cc in ap (λ p. Some (inner_read (quantity.Chan id p))) same
          read_at (d ∷ ds) (suc k) e = read_at ds k e

  -- the number of a channel of such a path
  pub channel_taken : (id : AnimId) (numbers : List (Option ℤ)) → numbers ≡ id_numbers s frame id → (paths : List Path) (more : List Output) (path : Path) → Contains paths path → (original : ℤ) → channel_number s id numbers paths (all_taken cut get (driven_reads s id paths) ++ more) path original ≡ number_over s (inputs_at s frame) get id path original
  unfolding animated_number
  channel_taken id numbers curves paths more path within original =
      let driven = driven_taken id paths more path within in
      λ i. number_by (driven i) (animated_number s (λ other. curves i) id path) original
