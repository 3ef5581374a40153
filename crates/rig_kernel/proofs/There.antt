-- What a scene has for an operation that is one of its.
use Rattle.std.specs.Prelude.{◌≡◌, ◌≤◌, ◌<◌, ℕ, true, IsTrue, IsSome, is_some, ◌⊎◌, length, nat_le, List, Some, Contains}
use Rattle.std.proofs.Common.{inl, inr, refl, sym, ap, ◌∙◌, true≢false, arith}
use Rattle.std.proofs.lemmas.Bool.{and_parts, leb-true}
use Rattle.std.proofs.lemmas.List.Elements.{All-contains}
use Rattle.rig_scene.specs.declared.channel.Channels.{Channels}
use Rattle.rig_scene.specs.declared.id.ObjectId.{ObjectId}
use Rattle.rig_scene.specs.declared.modifier.Modifier.{Modifier}
use Rattle.rig_scene.specs.declared.object.Kind.{Kind}
use Rattle.rig_scene.specs.declared.object.Kind.TheVariants as kind
use Rattle.rig_scene.specs.declared.object.Object.{Object}
use Rattle.rig_scene.specs.declared.operation.OpId.TheVariants.{Geometry, ModifierOp, GeometryDone}
use Rattle.rig_scene.specs.Facts.{ObjectFacts}
use Rattle.rig_scene.specs.FactsHold.{scene_facts}
use Rattle.rig_scene.specs.Operations.{operations}
use Rattle.rig_scene.specs.Quantities.{modifiers_of}
use Rattle.rig_scene.specs.Scene.{SceneRecord, object_of}
use Rattle.rig_scene.specs.WellFormed.{is_scene, is_pencil_kind}
use Rattle.rig_laws.specs.FoundObject.{found_object}
use Rattle.rig_laws.specs.HasOperation.{operation_has}
use Rattle.rig_laws.specs.Lists.{some_where}
use Rattle.rig_laws.specs.Members.{has_modifiers, has_geometry}

-- a pencil object of a scene, which has at least so many modifiers
pub record IsPencilObject (s : SceneRecord) (o : ObjectId) (count : ℕ) : Type 0 where
  pub object : Object
  pub is_object : object_of s o ≡ Some object
  pub pencil : ℕ
  pub modifiers : List Modifier
  pub is_kind : object.kind ≡ kind.Pencil pencil modifiers
  pub pencil_is_there : pencil < length s.pencils
  pub enough : count ≤ length modifiers

module _ (s : SceneRecord) (met : IsTrue (is_scene s)) where
  pub pencil_object : (o : ObjectId) (count : ℕ) → IsTrue (has_geometry s o count) → IsPencilObject s o count
  pencil_object o count has =
      let found = some_where (λ object. has_modifiers count object.kind) (object_of s o) has in
      let facts : ObjectFacts s found.0 = All-contains (ObjectFacts s) s.objects found.0 (scene_facts s met).objects.each (found_object s o found.0 found.1) in
      by found.0 found.1 facts found.0.kind refl found.2
    where
      by : (object : Object) → object_of s o ≡ Some object → ObjectFacts s object → (k : Kind) → object.kind ≡ k → has_modifiers count k ≡ true → IsPencilObject s o count
      by object is facts kind.Empty e h = absurd (true≢false (sym h))
      by object is facts (kind.Armature n pose) e h = absurd (true≢false (sym h))
      by object is facts (kind.Pencil p modifiers) e h = record {
        object = object;
        is_object = is;
        pencil = p;
        modifiers = modifiers;
        is_kind = e;
        pencil_is_there = (facts.pencil p modifiers e).pencil_is_there;
        enough = leb-true count (length modifiers) h;
      }

  pub geometry_object : (o : ObjectId) → Contains (operations s) (Geometry o) → IsPencilObject s o 0
  geometry_object o within = pencil_object o 0 (operation_has s met (Geometry o) within)

  pub modifier_object : (o : ObjectId) (i : ℕ) → Contains (operations s) (ModifierOp o i) → (1 ≤ i) × IsPencilObject s o i
  modifier_object o i within =
      let parts = and_parts (nat_le 1 i) (has_geometry s o i) (operation_has s met (ModifierOp o i) within) in
      (leb-true 1 i parts.0, pencil_object o i parts.1)

  pub geometry_done_object : (o : ObjectId) → Contains (operations s) (GeometryDone o) → IsPencilObject s o 0
  geometry_done_object o within = pencil_object o 0 (operation_has s met (GeometryDone o) within)

pub is_there : (s : SceneRecord) (o : ObjectId) (count : ℕ) → IsPencilObject s o count → IsSome (object_of s o)
is_there s o count p = ap is_some p.is_object

-- the object that was found is the one that is there
pub same_found : (s : SceneRecord) (o : ObjectId) (count : ℕ) (p : IsPencilObject s o count) (object : Object) → object_of s o ≡ Some object → object.kind ≡ kind.Pencil p.pencil p.modifiers
same_found s o count p object is =
    let same : p.object ≡ object = cc (p.is_object, is) in
    ap (λ (o : Object). o.kind) (sym same) ∙ p.is_kind

-- it is no object of another kind
pub no_other : (k : Kind) (p : ℕ) (ms : List Modifier) → k ≡ kind.Pencil p ms → (k ≡ kind.Empty) ⊎ ((a : ℕ) × (pose : List Channels) × (k ≡ kind.Armature a pose)) → ⊥
no_other k p ms is (inl other) = true≢false (sym (ap is_pencil_kind is) ∙ ap is_pencil_kind other)
no_other k p ms is (inr other) = true≢false (sym (ap is_pencil_kind is) ∙ ap is_pencil_kind other.2)

abbrev pencil_number : Kind → ℕ
pencil_number kind.Empty = 0
pencil_number (kind.Armature a pose) = 0
pencil_number (kind.Pencil p ms) = p

-- its pencil is there, and its modifiers are enough
pub pencil_within : (s : SceneRecord) (o : ObjectId) (count : ℕ) (i : IsPencilObject s o count) (object : Object) → object_of s o ≡ Some object → (p : ℕ) (ms : List Modifier) → object.kind ≡ kind.Pencil p ms → p < length s.pencils
pencil_within s o count i object found p ms is =
    let same : p ≡ i.pencil = ap pencil_number (sym is ∙ same_found s o count i object found) in
    omega (arith, i.pencil_is_there)

pub modifiers_enough : (s : SceneRecord) (o : ObjectId) (count : ℕ) (i : IsPencilObject s o count) (object : Object) → object_of s o ≡ Some object → (p : ℕ) (ms : List Modifier) → object.kind ≡ kind.Pencil p ms → count ≤ length ms
modifiers_enough s o count i object found p ms is =
    let same : length ms ≡ length i.modifiers = ap (λ k. length (modifiers_of k)) (sym is ∙ same_found s o count i object found) in
    omega (arith, i.enough)
