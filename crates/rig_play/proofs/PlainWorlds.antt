-- Where the objects of a plain scene stand: each by its own location alone.
use Rattle.std.proofs.Common.{◌≡◌, ℕ, suc, Bool, true, false, cond, ltb, List, [], ◌∷◌, map, length, Option, Some, None, ℤ, pos, refl, sym, ap, ◌∙◌, arith}
use Rattle.std.specs.Prelude.{◌&&◌, slice_get, option_map, option_and_then, unwrap_or}
use Rattle.std.specs.Int.{int_max}
use Rattle.std.specs.List.{All, Contains, find, flat_map, position, position_or_len}
use Rattle.std.specs.Option.{option_or, option_map_or}
use Rattle.std.proofs.lemmas.Bool.{true≢false, ltb-false, false_from_ne_true}
use Rattle.std.proofs.lemmas.List.Elements.{All-head, All-tail, All-contains, All-weaker}
use Rattle.std.proofs.lemmas.List.Folds.{find_at}
use Rattle.std.proofs.lemmas.Option.{slice_get-map, slice_get_past}
use Rattle.rig_fixed.specs.Fixed.{unit}
use Rattle.rig_fixed.specs.Rotation.{no_rotation, normal, unit_rotation}
use Rattle.rig_fixed.specs.Transform.{identity}
use Rattle.rig_scene.specs.declared.action.Action.{Action}
use Rattle.rig_scene.specs.declared.channel.Channel.{Channel}
use Rattle.rig_scene.specs.declared.channel.Channel.TheVariants.{RotW, RotX, RotY, RotZ, Scale}
use Rattle.rig_scene.specs.declared.id.AnimId.TheVariants as anim
use Rattle.rig_scene.specs.declared.modifier.Mode.{Mode}
use Rattle.rig_scene.specs.declared.object.Object.{Object}
use Rattle.rig_scene.specs.declared.path.Path.{Path}
use Rattle.rig_scene.specs.declared.path.Path.TheVariants as path
use Rattle.rig_scene.specs.declared.quantity.Quantity.{Quantity}
use Rattle.rig_scene.specs.declared.quantity.Quantity.TheVariants.{Chan, Local, World}
use Rattle.rig_scene.specs.Channel.{channel_of, channels_by}
use Rattle.rig_scene.specs.ChannelNumber.{number_among, action_numbers, id_numbers, animated_number}
use Rattle.rig_scene.specs.Curve.{curve_value}
use Rattle.rig_scene.specs.Cut.{is_among}
use Rattle.rig_scene.specs.Found.{Contains-slice_get}
use Rattle.rig_scene.specs.Id.{same_id}
use Rattle.rig_scene.specs.Path.{same_path}
use Rattle.rig_scene.specs.Pose.{transform_of, carried_by}
use Rattle.rig_scene.specs.Quantities.{quantities}
use Rattle.rig_scene.specs.Same.{same_path-equal}
use Rattle.rig_scene.specs.Scene.{SceneRecord, object_of}
use Rattle.rig_scene.specs.Value.{Value, Transform, transform_in, inputs_at, number_in, number_at, parent_transform, local_transform, world_transform, value_at, val}
use Rattle.rig_scene.specs.WellFormed.{is_scene}
use Rattle.rig_laws.specs.HasQuantity.{object_found}
use Rattle.rig_laws.specs.Lists.{All-elements, map_same}
use Rattle.rig_play.specs.Plain.{is_location, is_own_location, is_plain_scene}
use Rattle.rig_play.specs.Stands.{object_action, own_number, plain_number, plain_location, plain_world}
use Rattle.rig_play.proofs.PlainScene.{PlainObject, PlainFacts, plain_facts, transforms_of, plain_quantities, plain_cuts}

-- ---- what an action gives

-- an option of an option, mapped or taken at once
one_option : {X Y : Type 0} (f : X → Option Y) (o : Option X) → option_and_then (λ y. y) (option_map f o) ≡ option_and_then f o
one_option f None = refl
one_option f (Some x) = refl

-- what a function gives of the first that passes, by its index among all that the function gives
of_first : {X Y : Type 0} (test : X → Bool) (f : X → Option Y) (xs : List X)
    → option_and_then (λ i. option_and_then (λ y. y) (slice_get (map f xs) i)) (position test xs) ≡ option_and_then f (find test xs)
of_first {X} {Y} test f xs =
    by (ltb (position_or_len test xs) (length xs)) refl ∙ ap (option_and_then f) (sym (find_at test xs))
  where
    by : (b : Bool) → ltb (position_or_len test xs) (length xs) ≡ b
        → option_and_then (λ i. option_and_then (λ y. y) (slice_get (map f xs) i)) (cond b (Some (position_or_len test xs)) None) ≡ option_and_then f (slice_get xs (position_or_len test xs))
    by true e = ap (option_and_then (λ y. y)) (slice_get-map f xs (position_or_len test xs)) ∙ one_option f (slice_get xs (position_or_len test xs))
    by false e = ap (option_and_then f) (sym (slice_get_past xs (position_or_len test xs) (ltb-false (position_or_len test xs) (length xs) e)))

-- the number of an own channel among those of an action's curves is that of its curve
among_own : (a : Action) (channel : Channel) (frame : ℤ) → number_among a (action_numbers a frame) (path.Own channel) ≡ own_number a channel frame
among_own a channel frame = of_first (λ c. same_path c.path (path.Own channel)) (λ c. curve_value c frame) a.curves

-- a curve of a location isn't that of another channel
other_channel : (p : Path) (channel : Channel) → is_own_location p ≡ true → is_location channel ≡ false → same_path p (path.Own channel) ≡ false
other_channel p channel own other =
    false_from_ne_true (same_path p (path.Own channel))
    (λ same. true≢false (sym own ∙ ap is_own_location (same_path-equal p (path.Own channel) same) ∙ other))

-- where none passes, none is found
find_none : {X : Type 0} (test : X → Bool) (xs : List X) → All (λ x. test x ≡ false) xs → find test xs ≡ None
find_none test [] h = refl
find_none test (x ∷ xs) h =
    let here : test x ≡ false = All-head (λ x. test x ≡ false) x xs h in
    rw here (find_none test xs (All-tail (λ x. test x ≡ false) x xs h))

-- an action whose curves are those of locations gives no number for another channel
no_number : (a : Action) (channel : Channel) (frame : ℤ) → All (λ c. is_own_location c.path ≡ true) a.curves → is_location channel ≡ false
    → own_number a channel frame ≡ None
no_number a channel frame own other =
    ap (option_and_then (λ c. curve_value c frame))
    (find_none (λ c. same_path c.path (path.Own channel)) a.curves
    (All-weaker (λ c. is_own_location c.path ≡ true) (λ c. same_path c.path (path.Own channel) ≡ false) (λ c e. other_channel c.path channel e other) a.curves own))

-- ---- the channels of an object

-- what its action gives, by the numbers of all curves of that action
by_action : (action : Option Action) (channel : Channel) (frame : ℤ)
    → option_and_then (λ a. number_among a (option_map_or (λ a. action_numbers a frame) action []) (path.Own channel)) action
    ≡ option_and_then (λ a. own_number a channel frame) action
by_action None channel frame = refl
by_action (Some a) channel frame = among_own a channel frame

module _ (s : SceneRecord) (facts : PlainFacts s) (frame : ℤ) (o : Object) (found : object_of s o.id ≡ Some o) where
  -- what the curve of an own channel gives
  animated_own : (channel : Channel) → animated_number s (id_numbers s frame) (anim.Object o.id) (path.Own channel) ≡ option_and_then (λ a. own_number a channel frame) (object_action s o)
  unfolding animated_number
  animated_own channel =
      ap (λ r. option_and_then (λ a. number_among a (option_map_or (λ a. action_numbers a frame) (option_and_then (λ object. option_and_then (slice_get s.actions) object.action) r) []) (path.Own channel))
      (option_and_then (λ object. option_and_then (slice_get s.actions) object.action) r)) found
      ∙ by_action (object_action s o) channel frame

  -- no channel has a driver: its number is that of its curve, or the original
  number_is : (get : Quantity → Value) (channel : Channel)
      → number_at s (inputs_at s frame) get (anim.Object o.id) (path.Own channel) (channel_of o.own channel) ≡ plain_number s o channel (channel_of o.own channel) frame
  number_is get channel =
      ap (λ ds. unwrap_or (option_or (option_map (λ d. number_in (get (Chan (anim.Object o.id) (path.Own channel)))) (find (λ d. same_id d.id (anim.Object o.id) && same_path d.path (path.Own channel)) ds))
      (animated_number s (id_numbers s frame) (anim.Object o.id) (path.Own channel))) (channel_of o.own channel)) facts.drivers
      ∙ ap (λ n. unwrap_or n (channel_of o.own channel)) (animated_own channel)

  -- no action of the scene gives a number for a channel that isn't of the location
  original_of_action : (channel : Channel) (original : ℤ) → is_location channel ≡ false → (k : ℕ) (action : Option Action)
      → slice_get s.actions k ≡ action
      → unwrap_or (option_and_then (λ a. own_number a channel frame) action) original ≡ original
  original_of_action channel original other k None e = refl
  original_of_action channel original other k (Some a) e =
      ap (λ n. unwrap_or n original)
      (no_number a channel frame (All-contains (λ a. All (λ c. is_own_location c.path ≡ true) a.curves) s.actions a facts.actions (Contains-slice_get s.actions k a e)) other)

  -- nor does the one of an index, if there is one
  original_of_index : (channel : Channel) (original : ℤ) → is_location channel ≡ false → (index : Option ℕ)
      → unwrap_or (option_and_then (λ a. own_number a channel frame) (option_and_then (slice_get s.actions) index)) original ≡ original
  original_of_index channel original other None = refl
  original_of_index channel original other (Some k) = original_of_action channel original other k (slice_get s.actions k) refl

  -- a channel that isn't of the location has its original number
  original_is : (channel : Channel) → is_location channel ≡ false → plain_number s o channel (channel_of o.own channel) frame ≡ channel_of o.own channel
  original_is channel other = original_of_index channel (channel_of o.own channel) other o.action

-- ---- its transforms

-- the rotation of one unit turns nothing
unit_turn : normal (record { w = unit; x = pos 0; y = pos 0; z = pos 0 }) ≡ no_rotation
unfolding unit_rotation
unit_turn = refl

module _ (s : SceneRecord) (facts : PlainFacts s) (mode : Mode) (frame : ℤ) (o : Object) (plain : PlainObject o) (found : object_of s o.id ≡ Some o) where
  -- its rotation and its scale are those of the identity
  rot_is : normal (record {
    w = plain_number s o RotW o.own.rot.w frame;
    x = plain_number s o RotX o.own.rot.x frame;
    y = plain_number s o RotY o.own.rot.y frame;
    z = plain_number s o RotZ o.own.rot.z frame;
  }) ≡ identity.rot
  rot_is =
      let w = original_is s facts frame o found RotW refl in
      let x = original_is s facts frame o found RotX refl in
      let y = original_is s facts frame o found RotY refl in
      let z = original_is s facts frame o found RotZ refl in
      (λ i. normal (record { w = w i; x = x i; y = y i; z = z i })) ∙ ap normal plain.rot ∙ unit_turn

  scale_is : int_max (pos 1) (plain_number s o Scale o.own.scale frame) ≡ identity.scale
  scale_is = ap (int_max (pos 1)) (original_is s facts frame o found Scale refl ∙ plain.scale)

  -- an object's own transform, whatever its sources give
  local_is : (get : Quantity → Value) → local_transform s (inputs_at s frame) get o ≡ plain_world s frame o
  unfolding local_transform
  local_is get =
      (λ i. transform_of (channels_by (λ c. number_is s facts frame o found get c i)))
      ∙ (λ i. record { loc = plain_location s o frame; rot = rot_is i; scale = scale_is i })

  -- from a depth of 1 on that is the value of its own transform
  local_value : (depth : ℕ) → value_at (is_among []) s mode frame (suc depth) (Local o.id) ≡ Transform (plain_world s frame o)
  local_value depth =
      let get : Quantity → Value = λ source. value_at (is_among []) s mode frame depth source in
      ap (λ r. option_map_or (λ v. v) (option_map (λ object. Transform (local_transform s (inputs_at s frame) get object)) r) (Transform identity)) found
      ∙ ap Transform (local_is get)

  -- no parent carries it
  world_is : (get : Quantity → Value) → world_transform get o ≡ transform_in (get (Local o.id))
  unfolding world_transform
  world_is get = ap (λ p. carried_by (option_map (parent_transform get) p) (transform_in (get (Local o.id)))) plain.parent

  -- from a depth of 2 on its world transform is the same
  world_value : (depth : ℕ) → value_at (is_among []) s mode frame (suc (suc depth)) (World o.id) ≡ Transform (plain_world s frame o)
  world_value depth =
      let get : Quantity → Value = λ source. value_at (is_among []) s mode frame (suc depth) source in
      ap (λ r. option_map_or (λ v. v) (option_map (λ object. Transform (world_transform get object)) r) (Transform identity)) found
      ∙ ap Transform (world_is get)
      ∙ ap (λ v. Transform (transform_in v)) (local_value depth)

-- a scene with an object has two quantities or more
two_or_more : (objects : List Object) (o : Object) → Contains objects o → (n : ℕ) × (length (flat_map transforms_of objects) ≡ suc (suc n))
two_or_more [] o h = absurd (omega (arith, h.1))
two_or_more (x ∷ xs) o h = (length (flat_map transforms_of xs), refl)

-- an object of a plain scene stands in the world at its own location
pub plain_world_is : (s : SceneRecord) → is_scene s ≡ true → is_plain_scene s ≡ true → (mode : Mode) (frame : ℤ) (o : Object)
    → Contains s.objects o → val s mode frame (World o.id) ≡ Transform (plain_world s frame o)
unfolding val
plain_world_is s met is mode frame o h =
    let facts = plain_facts s is in
    let two = two_or_more s.objects o h in
    ap (λ cut. value_at (is_among cut) s mode frame (length (quantities s)) (World o.id)) (plain_cuts s is)
    ∙ ap (λ n. value_at (is_among []) s mode frame n (World o.id)) (ap length (plain_quantities s facts) ∙ two.1)
    ∙ world_value s facts mode frame o (All-contains PlainObject s.objects o facts.objects h) (object_found s met o h) two.0

-- where the objects of a plain scene stand in the world
pub plain_worlds : (s : SceneRecord) → is_scene s ≡ true → is_plain_scene s ≡ true → (mode : Mode) (frame : ℤ)
    → map (λ o. transform_in (val s mode frame (World o.id))) s.objects ≡ map (plain_world s frame) s.objects
plain_worlds s met is mode frame =
    map_same (λ o. transform_in (val s mode frame (World o.id))) (plain_world s frame) s.objects
    (All-elements (λ o. transform_in (val s mode frame (World o.id)) ≡ plain_world s frame o) s.objects
    (λ o h. ap transform_in (plain_world_is s met is mode frame o h)))
