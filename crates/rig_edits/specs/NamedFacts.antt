-- What the names of objects and bones mean is there in a scene: edits go by name, and the conditions on paths by id.
use Rattle.std.proofs.Common.{◌≡◌, ℕ, ◌<◌, true, false, List, [], length, Option, Some, None, sym, ap, ◌∙◌, arith}
use Rattle.std.specs.Prelude.{nat_lt, option_and_then, option_map, IsTrue}
use Rattle.std.specs.List.{position_or_len}
use Rattle.std.specs.Option.{option_map_or}
use Rattle.std.proofs.lemmas.Bool.{false_from_ne_true, lt-ltb, not-false}
use Rattle.std.proofs.lemmas.List.Elements.{All-contains}
use Rattle.rig_scene.specs.declared.armature.ArmatureData.{ArmatureData}
use Rattle.rig_scene.specs.declared.armature.RestBone.{RestBone}
use Rattle.rig_scene.specs.declared.id.ObjectId.{ObjectId}
use Rattle.rig_scene.specs.declared.object.Object.{Object}
use Rattle.rig_scene.specs.Facts.{HasObject, HasBone, ObjectFacts, SceneFacts}
use Rattle.rig_scene.specs.FactsHold.{bone_is_there}
use Rattle.rig_scene.specs.Found.{find-contains}
use Rattle.rig_scene.specs.Id.{same_object}
use Rattle.rig_scene.specs.Pairs.{AllPairs-weaker}
use Rattle.rig_scene.specs.Same.{same_object-equal, same_object-itself}
use Rattle.rig_scene.specs.Scene.{SceneRecord, object_of, armature_of}
use Rattle.rig_scene.specs.Text.{same_text}
use Rattle.rig_edits.specs.Named.{object_named, bone_index, bones_of_kind, id_of}
use Rattle.rig_scene.specs.declared.id.AnimId.{AnimId}
use Rattle.rig_scene.specs.declared.path.Path.{Path}
use Rattle.rig_scene.specs.WellFormed.{bones_of, has_bone, has_path}
use Rattle.rig_edits.specs.declared.edit.IdName.{IdName}
use Rattle.rig_edits.specs.Conditions.{lacks_path}
use Rattle.rig_edits.specs.Lists.{only_one_found, position_within}
use Rattle.rig_edits.specs.Replaced.{at_first}

-- an object of a name is one of the scene's, so it has its facts
pub named_facts : (s : SceneRecord) (f : SceneFacts s) (name : List ℕ) (o : Object) → object_named s name ≡ Some o → ObjectFacts s o
named_facts s f name o e = All-contains (ObjectFacts s) s.objects o f.objects.each (find-contains (λ (o : Object). same_text o.name name) s.objects o e).0

-- and its id finds it
pub named_by_id : (s : SceneRecord) (f : SceneFacts s) (name : List ℕ) (o : Object) → object_named s name ≡ Some o → object_of s o.id ≡ Some o
named_by_id s f name o e =
    only_one_found (λ (q : Object). same_object q.id o.id) s.objects (position_or_len (λ (q : Object). same_text q.name name) s.objects) o
    (at_first (λ (q : Object). same_text q.name name) (λ q. q) s.objects o e) (same_object-itself o.id)
    (AllPairs-weaker (λ p q. p.id.0 < q.id.0) (λ p q. same_object q.id o.id ≡ true → same_object p.id o.id ≡ false) apart s.objects f.objects.ids_rise)
  where
    below : (x y : ℕ) → x < y → x ≡ y → ⊥
    below x y l e = omega arith

    apart : (p q : Object) → p.id.0 < q.id.0 → same_object q.id o.id ≡ true → same_object p.id o.id ≡ false
    apart p q l is =
        let last : q.id ≡ o.id = same_object-equal q.id o.id is in
        false_from_ne_true (same_object p.id o.id) (λ is. below p.id.0 q.id.0 l (ap (λ (id : ObjectId). id.0) (same_object-equal p.id o.id is ∙ sym last)))

-- so it is there
pub named_object : (s : SceneRecord) (f : SceneFacts s) (name : List ℕ) (o : Object) → object_named s name ≡ Some o → HasObject s o.id
named_object s f name o e = record { object = o; is_object = named_by_id s f name o e }

-- the path of an id that has it
pub path_of_id : (s : SceneRecord) (id : IdName) (path : Path) (a : AnimId) → id_of s id ≡ Some a → lacks_path s id path ≡ false
    → IsTrue (has_path s a path)
path_of_id s id path a e has = sym (ap (λ r. option_map_or (λ a. has_path s a path) r false) e) ∙ not-false _ has

-- the bones of an object that its id finds
pub bones_of_found : (s : SceneRecord) (id : ObjectId) (o : Object) → object_of s id ≡ Some o
    → bones_of s id ≡ option_map (λ (a : ArmatureData). a.bones) (armature_of s o.kind)
bones_of_found s id o is = ap (option_and_then (λ (o : Object). option_map (λ (a : ArmatureData). a.bones) (armature_of s o.kind))) is

-- a bone of an object's armature
bone_of_kind : (bone : ℕ) (r : Option ArmatureData) → bone < length (option_map_or (λ (a : ArmatureData). a.bones) r [])
    → IsTrue (option_map_or (λ bones. nat_lt bone (length bones)) (option_map (λ (a : ArmatureData). a.bones) r) false)
bone_of_kind bone None l = absurd (omega arith)
bone_of_kind bone (Some a) l = lt-ltb _ _ l

-- an object's bone of a name is there
pub bone_of_name : (s : SceneRecord) (o : Object) (name : List ℕ) (bone : ℕ) → object_of s o.id ≡ Some o
    → bone_index s o.kind name ≡ Some bone → IsTrue (has_bone s o.id bone)
bone_of_name s o name bone is e =
    ap (λ r. option_map_or (λ bones. nat_lt bone (length bones)) r false) (bones_of_found s o.id o is)
    ∙ bone_of_kind bone (armature_of s o.kind) (position_within (λ (b : RestBone). same_text b.name name) (bones_of_kind s o.kind) bone e)

-- a bone of it that has a name is there
pub named_bone : (s : SceneRecord) (f : SceneFacts s) (name bone : List ℕ) (o : Object) (i : ℕ) → object_named s name ≡ Some o
    → bone_index s o.kind bone ≡ Some i → HasBone s o.id i
named_bone s f name bone o i e found = bone_is_there s o.id i (bone_of_name s o bone i (named_by_id s f name o e) found)
