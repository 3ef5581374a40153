-- No operation stands twice among those that a frame shows, and so no number among theirs.
use Rattle.std.specs.Prelude.{◌≡◌, ◌≢◌, ℕ, ◌<◌, List, ◌∷◌, length, map, slice_get, Some, IsSome, IsTrue}
use Rattle.std.specs.List.{All, range_with_len}
use Rattle.std.proofs.Common.{Option, refl, sym, ap, subst}
use Rattle.std.proofs.lemmas.List.Elements.{All-cons, All-nil, All-map, All-weaker}
use Rattle.std.proofs.lemmas.List.Sorted.{IsPermutation-refl}
use Rattle.std.proofs.lemmas.Option.{slice_get_within}
use Rattle.rig_flush.specs.Options.{All-there}
use Rattle.rig_flush.specs.ReachedInOrder.{order_once}
use Rattle.rig_flush.specs.Shown.{shown_of_kind, shown_operations}
use Rattle.rig_laws.specs.Lists.{All-one, is_some-Some}
use Rattle.rig_scene.specs.declared.id.AnimId.TheVariants as anim
use Rattle.rig_scene.specs.declared.id.ObjectId.{ObjectId}
use Rattle.rig_scene.specs.declared.object.Kind.{Kind}
use Rattle.rig_scene.specs.declared.object.Kind.TheVariants.{Empty, Armature, Pencil}
use Rattle.rig_scene.specs.declared.object.Object.{Object}
use Rattle.rig_scene.specs.declared.operation.OpId.{OpId}
use Rattle.rig_scene.specs.declared.operation.OpId.TheVariants.{World, Bone, GeometryDone}
use Rattle.rig_scene.specs.FactsHold.{scene_facts}
use Rattle.rig_scene.specs.OneOfEach.{operation_owner, object_ids_once}
use Rattle.rig_scene.specs.Pairs.{NoneTwice, NoneTwice-flat_map, AllPairs-nil, AllPairs-cons, AllPairs-single, AllPairs-map, AllPairs-of_map, AllPairs-weaker, All-of_map}
use Rattle.rig_scene.specs.Scene.{SceneRecord}
use Rattle.rig_scene.specs.WellFormed.{is_scene}

-- ---- the operations that are shown

bones_once : (o : ObjectId) (count : ℕ) → NoneTwice (map (Bone o) (range_with_len 0 count))
bones_once o count =
    AllPairs-map (λ x y. x ≢ y) (Bone o) (range_with_len 0 count)
    (AllPairs-weaker (λ i j. i ≢ j) (λ i j. Bone o i ≢ Bone o j) (λ i j apart same. apart cc) (range_with_len 0 count)
    (order_once count (range_with_len 0 count) (IsPermutation-refl (range_with_len 0 count))))

kind_once : (o : ObjectId) (k : Kind) → NoneTwice (shown_of_kind o k)
kind_once o Empty = AllPairs-nil (λ x y. x ≢ y)
kind_once o (Armature armature pose) = bones_once o (length pose)
kind_once o (Pencil pencil modifiers) = AllPairs-single (λ x y. x ≢ y) (GeometryDone o)

-- none of them is the world transform
no_world : (o : ObjectId) (k : Kind) → All (λ op. World o ≢ op) (shown_of_kind o k)
no_world o Empty = All-nil (λ op. World o ≢ op)
no_world o (Armature armature pose) = All-map (λ op. World o ≢ op) (Bone o) (range_with_len 0 (length pose)) (λ k d l same. cc)
no_world o (Pencil pencil modifiers) = All-one (λ op. World o ≢ op) (GeometryDone o) (λ same. cc)

object_once : (o : Object) → NoneTwice (World o.id ∷ shown_of_kind o.id o.kind)
object_once o =
    AllPairs-cons (λ x y. x ≢ y) (World o.id) (shown_of_kind o.id o.kind) (no_world o.id o.kind) (kind_once o.id o.kind)

kind_owned : (o : ObjectId) (k : Kind) → All (λ op. operation_owner op ≡ Some (anim.Object o)) (shown_of_kind o k)
kind_owned o Empty = All-nil (λ op. operation_owner op ≡ Some (anim.Object o))
kind_owned o (Armature armature pose) =
    All-map (λ op. operation_owner op ≡ Some (anim.Object o)) (Bone o) (range_with_len 0 (length pose)) (λ k d l. refl)
kind_owned o (Pencil pencil modifiers) = All-one (λ op. operation_owner op ≡ Some (anim.Object o)) (GeometryDone o) refl

object_owned : (o : Object) → All (λ op. operation_owner op ≡ Some (anim.Object o.id)) (World o.id ∷ shown_of_kind o.id o.kind)
object_owned o =
    All-cons (λ op. operation_owner op ≡ Some (anim.Object o.id)) (World o.id) (shown_of_kind o.id o.kind) refl (kind_owned o.id o.kind)

-- no operation stands twice among those that a frame shows
pub shown_once : (s : SceneRecord) → IsTrue (is_scene s) → NoneTwice (shown_operations s)
shown_once s met =
    NoneTwice-flat_map (λ (o : Object). World o.id ∷ shown_of_kind o.id o.kind) operation_owner (λ o. Some (anim.Object o.id))
    object_once object_owned s.objects
    (AllPairs-weaker (λ o p. anim.Object o.id ≢ anim.Object p.id) (λ o p. Some (anim.Object o.id) ≢ Some (anim.Object p.id))
    (λ o p apart same. apart cc) s.objects (object_ids_once s (scene_facts s met)))

-- ---- their numbers

module _ (ops shown : List OpId) (numbers : List ℕ) (are : map (slice_get ops) numbers ≡ map Some shown) where
  -- no number stands twice, where no operation does
  pub numbers_once : NoneTwice shown → NoneTwice numbers
  numbers_once once =
      AllPairs-weaker (λ n m. slice_get ops n ≢ slice_get ops m) (λ n m. n ≢ m) (λ n m apart same. apart (ap (slice_get ops) same)) numbers
      (AllPairs-of_map (λ x y. x ≢ y) (slice_get ops) numbers (subst (λ (l : List (Option OpId)). NoneTwice l) (sym are)
      (AllPairs-map (λ x y. x ≢ y) Some shown
      (AllPairs-weaker (λ x y. x ≢ y) (λ x y. Some x ≢ Some y) (λ x y apart same. apart cc) shown once))))

  pub numbers_within : All (λ n. n < length ops) numbers
  numbers_within =
      All-weaker (λ n. IsSome (slice_get ops n)) (λ n. n < length ops)
      (λ n is. let op = is_some-Some (slice_get ops n) is in slice_get_within ops n op.0 op.1) numbers
      (All-of_map (λ (o : Option OpId). IsSome o) (slice_get ops) numbers
      (subst (All (λ (o : Option OpId). IsSome o)) (sym are) (All-there shown)))
