-- The channels of the drivers of a part: a channel is among them exactly where it is driven.
use Rattle.std.proofs.Common.{◌≡◌, ℕ, ◌+◌, ◌<◌, Bool, true, false, cond, ◌&&◌, ◌||◌, List, [], ◌∷◌, ◌++◌, length, get_or, drop, map, Option, Some, None, refl, sym, ap, ◌∙◌, append_assoc, if◌then◌else◌}
use Rattle.std.proofs.lemmas.List.{drop_more}
use Rattle.std.specs.Prelude.{is_some}
use Rattle.std.specs.List.{find, filter_map, list_any, cons_option}
use Rattle.std.specs.Option.{option_map_or}
use Rattle.rig_scene.specs.declared.channel.Axis.{Axis}
use Rattle.rig_scene.specs.declared.channel.Channel.{Channel}
use Rattle.rig_scene.specs.declared.id.AnimId.{AnimId}
use Rattle.rig_scene.specs.declared.id.AnimId.TheVariants as anim
use Rattle.rig_scene.specs.declared.id.ObjectId.{ObjectId}
use Rattle.rig_scene.specs.declared.path.Path.{Path}
use Rattle.rig_scene.specs.declared.path.Path.TheVariants.{Own, Bone, Layer}
use Rattle.rig_scene.specs.declared.quantity.Quantity.TheVariants.{Chan}
use Rattle.rig_scene.specs.declared.quantity.Read.{Read}
use Rattle.rig_scene.specs.Channel.{same_channel, same_axis}
use Rattle.rig_scene.specs.Drivers.{is_driven}
use Rattle.rig_scene.specs.Id.{same_id}
use Rattle.rig_scene.specs.Path.{same_path}
use Rattle.rig_scene.specs.Quantities.{driven_reads, inner_read}
use Rattle.rig_scene.specs.Scene.{SceneRecord}
use Rattle.rig_scene.specs.Text.{same_text}
use Rattle.rig_quantities.specs.Part.{channel_path, channel_in, axis_in, driven_channel, driven_axis}

module _ {C X : Type 0} (is : C → Bool) (picked : X → Option C) (drives : X → Bool) (agree : (x : X) → option_map_or is (picked x) false ≡ drives x) where
  any_if : (x : X) (xs : List X) (o : Option C) → option_map_or is o false ≡ drives x → list_any is (filter_map picked xs) ≡ is_some (find drives xs)
      → list_any is (cons_option o (filter_map picked xs)) ≡ is_some (find drives (x ∷ xs))
  any_if x xs None e rest = rw (← e) rest
  any_if x xs (Some c) e rest = by (is c) (drives x) e rest
    where
      by : (a b : Bool) → a ≡ b → list_any is (filter_map picked xs) ≡ is_some (find drives xs)
          → (a || list_any is (filter_map picked xs)) ≡ is_some (cond b (Some x) (find drives xs))
      by true true e rest = refl
      by true false e rest = absurd cc
      by false true e rest = absurd cc
      by false false e rest = rest

  any_picked : (xs : List X) → list_any is (filter_map picked xs) ≡ is_some (find drives xs)
  any_picked [] = refl
  any_picked (x ∷ xs) = any_if x xs (picked x) (agree x) (any_picked xs)

-- a test of what is picked where another passes
picked_if : {C : Type 0} (is : C → Bool) (c : C) (a : Bool) → option_map_or is (if a then Some c else None) false ≡ (a && is c)
picked_if is c true = refl
picked_if is c false = refl

guarded : {C : Type 0} (is : C → Bool) (a : Bool) (o : Option C) (b : Bool) → option_map_or is o false ≡ b → option_map_or is (if a then o else None) false ≡ (a && b)
guarded is true o b e = e
guarded is false o b e = refl

channel_agrees : (bone : Option (List ℕ)) (channel : Channel) (p : Path)
    → option_map_or (λ c. same_channel c channel) (channel_in bone p) false ≡ same_path p (channel_path bone channel)
channel_agrees None channel (Own c) = refl
channel_agrees None channel (Bone name c) = refl
channel_agrees None channel (Layer name axis) = refl
channel_agrees (Some bone) channel (Own c) = refl
channel_agrees (Some bone) channel (Bone name c) = picked_if (λ c. same_channel c channel) c (same_text name bone)
channel_agrees (Some bone) channel (Layer name axis) = refl

axis_agrees : (layer : List ℕ) (axis : Axis) (p : Path) → option_map_or (λ a. same_axis a axis) (axis_in layer p) false ≡ same_path p (Layer layer axis)
axis_agrees layer axis (Own c) = refl
axis_agrees layer axis (Bone name c) = refl
axis_agrees layer axis (Layer name a) = picked_if (λ a. same_axis a axis) a (same_text name layer)

has_driven_channel : (scene : SceneRecord) (id : ObjectId) (bone : Option (List ℕ)) (channel : Channel)
    → list_any (λ c. same_channel c channel) (filter_map (driven_channel id bone) scene.drivers) ≡ is_driven scene (anim.Object id) (channel_path bone channel)
has_driven_channel scene id bone channel =
    any_picked (λ c. same_channel c channel) (driven_channel id bone)
    (λ d. same_id d.id (anim.Object id) && same_path d.path (channel_path bone channel))
    (λ d. guarded (λ c. same_channel c channel) (same_id d.id (anim.Object id)) (channel_in bone d.path) _ (channel_agrees bone channel d.path)) scene.drivers

has_driven_axis : (scene : SceneRecord) (pencil : ℕ) (layer : List ℕ) (axis : Axis)
    → list_any (λ a. same_axis a axis) (filter_map (driven_axis pencil layer) scene.drivers) ≡ is_driven scene (anim.Pencil pencil) (Layer layer axis)
has_driven_axis scene pencil layer axis =
    any_picked (λ a. same_axis a axis) (driven_axis pencil layer)
    (λ d. same_id d.id (anim.Pencil pencil) && same_path d.path (Layer layer axis))
    (λ d. guarded (λ a. same_axis a axis) (same_id d.id (anim.Pencil pencil)) (axis_in layer d.path) _ (axis_agrees layer axis d.path)) scene.drivers

-- one more channel or axis
module _ {C : Type 0} (scene : SceneRecord) (id : AnimId) (wrap : C → Path) where
  more_if : (c : C) (cs : List C) (driven : Bool) → is_driven scene id (wrap c) ≡ driven
      → driven_reads scene id (map wrap (c ∷ cs)) ≡ cond driven (inner_read (Chan id (wrap c)) ∷ []) [] ++ driven_reads scene id (map wrap cs)
  more_if c cs true e = rw e refl
  more_if c cs false e = rw e refl

  driven_step : (cs : List C) (n : ℕ) (d : C) (driven : Bool) (list new all : List Read) → n < length cs → is_driven scene id (wrap (get_or cs n d)) ≡ driven
      → new ≡ list ++ cond driven (inner_read (Chan id (wrap (get_or cs n d))) ∷ []) []
      → list ++ driven_reads scene id (map wrap (drop n cs)) ≡ all → new ++ driven_reads scene id (map wrap (drop (n + 1) cs)) ≡ all
  driven_step cs n d driven list new all l is added e =
      let c = get_or cs n d in
      ap (λ list. list ++ driven_reads scene id (map wrap (drop (n + 1) cs))) added
      ∙ append_assoc list (cond driven (inner_read (Chan id (wrap c)) ∷ []) []) (driven_reads scene id (map wrap (drop (n + 1) cs)))
      ∙ ap (λ reads. list ++ reads) (sym (more_if c (drop (n + 1) cs) driven is))
      ∙ ap (λ cs. list ++ driven_reads scene id (map wrap cs)) (sym (drop_more cs n d l))
      ∙ e

pub channel_step : (scene : SceneRecord) (id : ObjectId) (bone : Option (List ℕ)) (cs found : List Channel) (n : ℕ) (d : Channel) (list new all : List Read)
    → found ≡ filter_map (driven_channel id bone) scene.drivers → n < length cs
    → new ≡ list ++ (if list_any (λ c. same_channel c (get_or cs n d)) found then inner_read (Chan (anim.Object id) (channel_path bone (get_or cs n d))) ∷ [] else [])
    → list ++ driven_reads scene (anim.Object id) (map (channel_path bone) (drop n cs)) ≡ all
    → new ++ driven_reads scene (anim.Object id) (map (channel_path bone) (drop (n + 1) cs)) ≡ all
channel_step scene id bone cs found n d list new all are l added e =
    driven_step scene (anim.Object id) (channel_path bone) cs n d (list_any (λ c. same_channel c (get_or cs n d)) found) list new all l
    (sym (has_driven_channel scene id bone (get_or cs n d)) ∙ ap (list_any (λ c. same_channel c (get_or cs n d))) (sym are)) added e

pub axis_step : (scene : SceneRecord) (pencil : ℕ) (layer : List ℕ) (cs found : List Axis) (n : ℕ) (d : Axis) (list new all : List Read)
    → found ≡ filter_map (driven_axis pencil layer) scene.drivers → n < length cs
    → new ≡ list ++ (if list_any (λ a. same_axis a (get_or cs n d)) found then inner_read (Chan (anim.Pencil pencil) (Layer layer (get_or cs n d))) ∷ [] else [])
    → list ++ driven_reads scene (anim.Pencil pencil) (map (Layer layer) (drop n cs)) ≡ all
    → new ++ driven_reads scene (anim.Pencil pencil) (map (Layer layer) (drop (n + 1) cs)) ≡ all
axis_step scene pencil layer cs found n d list new all are l added e =
    driven_step scene (anim.Pencil pencil) (Layer layer) cs n d (list_any (λ a. same_axis a (get_or cs n d)) found) list new all l
    (sym (has_driven_axis scene pencil layer (get_or cs n d)) ∙ ap (list_any (λ a. same_axis a (get_or cs n d))) (sym are)) added e
