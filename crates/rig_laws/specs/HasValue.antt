-- Each quantity of a scene has a value.
use Rattle.std.specs.Prelude.{◌≡◌, ℕ, zero, suc, ◌<◌, List, length, Bool, true, IsTrue, Option, Some, None, is_some, slice_get, option_map, option_and_then}
use Rattle.std.proofs.Common.{refl, sym, ap, subst, arith, ◌∙◌, true≢false}
use Rattle.std.proofs.lemmas.Bool.{ltb-true, leb-true}
use Rattle.std.proofs.lemmas.List.Elements.{All-contains}
use Rattle.rig_scene.specs.declared.id.ObjectId.{ObjectId}
use Rattle.rig_scene.specs.declared.modifier.Mode.{Mode}
use Rattle.rig_scene.specs.declared.object.Kind.{Kind}
use Rattle.rig_scene.specs.declared.object.Kind.TheVariants as kind
use Rattle.rig_scene.specs.declared.object.Object.{Object}
use Rattle.rig_scene.specs.declared.quantity.Quantity.{Quantity}
use Rattle.rig_scene.specs.declared.quantity.Quantity.TheVariants.{Chan, Local, World, Bone, Layer, Geom}
use Rattle.rig_scene.specs.Scene.{SceneRecord, object_of}
use Rattle.rig_scene.specs.WellFormed.{is_scene}
use Rattle.rig_scene.specs.Facts.{ObjectFacts, PencilKindFacts}
use Rattle.rig_scene.specs.FactsHold.{scene_facts, bone_is_there}
use Rattle.rig_scene.specs.Found.{some_slice_get}
use Rattle.rig_scene.specs.Drivers.{driver_of}
use Rattle.rig_scene.specs.Value.{Value, bone_value, geometry_value, FrameInputs, value_from}
use Rattle.rig_laws.specs.Lists.{some_where}
use Rattle.rig_laws.specs.FoundObject.{found_object}
use Rattle.rig_laws.specs.Members.{has_modifiers, has_quantity}

is_some-map : {X Y : Type 0} (f : X → Y) (o : Option X) → is_some o ≡ true → is_some (option_map f o) ≡ true
is_some-map f None h = h
is_some-map f (Some x) h = refl

is_some-then : {X Y : Type 0} (f : X → Option Y) (o : Option X) (x : X) → o ≡ Some x → is_some (f x) ≡ true → is_some (option_and_then f o) ≡ true
is_some-then f o x e h = ap (λ r. is_some (option_and_then f r)) e ∙ h

is_some-get : {X Y : Type 0} (f : X → Y) (xs : List X) (i : ℕ) → i < length xs → is_some (option_map f (slice_get xs i)) ≡ true
is_some-get f xs i l = let found = some_slice_get xs i l in ap (λ r. is_some (option_map f r)) found.1

module _ (s : SceneRecord) (met : IsTrue (is_scene s)) (mode : Mode) (inputs : FrameInputs) (cut : Quantity → Bool) (get : Quantity → Value) where
  kind_facts : (id : ObjectId) (o : Object) → object_of s id ≡ Some o → ObjectFacts s o
  kind_facts id o e = All-contains (ObjectFacts s) s.objects o (scene_facts s met).objects.each (found_object s id o e)

  of_geometry : (o : ObjectId) (i : ℕ) (k : Kind) → ((p : ℕ) (modifiers : List _) → k ≡ kind.Pencil p modifiers → PencilKindFacts s p modifiers) → has_modifiers i k ≡ true → is_some (geometry_value s mode get o i k) ≡ true
  of_geometry o i kind.Empty facts h = absurd (true≢false (sym h))
  of_geometry o i (kind.Armature n pose) facts h = absurd (true≢false (sym h))
  of_geometry o zero (kind.Pencil p modifiers) facts h = is_some-get _ s.pencils p (facts p modifiers refl).pencil_is_there
  of_geometry o (suc i) (kind.Pencil p modifiers) facts h = is_some-get _ modifiers i (let l = leb-true (suc i) (length modifiers) h in omega arith)

  pub value_is_some : (q : Quantity) → IsTrue (has_quantity s q) → is_some (value_from s mode inputs cut get q) ≡ true
  value_is_some (Chan id p) h = is_some-map _ (driver_of s id p) h
  value_is_some (Local o) h = is_some-map _ (object_of s o) h
  value_is_some (World o) h = is_some-map _ (object_of s o) h
  value_is_some (Bone o b) h =
      let has = bone_is_there s o b h in
      let object = has.object in
      let facts = (kind_facts o object has.is_object).armature has.index has.pose has.is_kind in
      let one : facts.armature ≡ has.armature = cc (facts.is_armature, has.is_armature) in
      let same : length facts.armature.bones ≡ length has.armature.bones = ap (λ a. length a.bones) one in
      let below : b < length has.pose = omega (arith, facts.poses, has.bone_is_there) in
      let bone = some_slice_get has.armature.bones b has.bone_is_there in
      is_some-then (λ object. bone_value s inputs get o b object.kind) (object_of s o) object has.is_object
      (subst (λ k. is_some (bone_value s inputs get o b k) ≡ true) (sym has.is_kind)
      (is_some-then _ (slice_get s.armatures has.index) has.armature has.is_armature
      (is_some-then _ (slice_get has.armature.bones b) bone.0 bone.1 (is_some-get _ has.pose b below))))
  value_is_some (Layer p l) h =
      let found = some_where _ (slice_get s.pencils p) h in
      is_some-then _ (slice_get s.pencils p) found.0 found.1 (is_some-get _ found.0.layers l (ltb-true l (length found.0.layers) found.2))
  value_is_some (Geom o i) h =
      let found = some_where (λ object. has_modifiers i object.kind) (object_of s o) h in
      is_some-then (λ object. geometry_value s mode get o i object.kind) (object_of s o) found.0 found.1
      (of_geometry o i found.0.kind (kind_facts o found.0 found.1).pencil found.2)
