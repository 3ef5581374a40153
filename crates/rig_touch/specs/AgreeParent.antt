-- The parent of an object set: two scenes have in common what isn't that object's world transform.
use Rattle.std.proofs.Common.{◌≡◌, ℕ, List, [], ◌∷◌, Option, Some, None, refl, ap, arith}
use Rattle.std.specs.Prelude.{IsTrue, Contains, option_map, option_and_then}
use Rattle.std.proofs.lemmas.Bool.{or_parts}
use Rattle.rig_scene.specs.declared.object.Object.{Object}
use Rattle.rig_scene.specs.declared.operation.OpId.{OpId}
use Rattle.rig_scene.specs.declared.operation.OpId.TheVariants.{Time, Animation, Driver, Local, World, PoseInit, Bone, PoseDone, Layer, Geometry, ModifierOp, GeometryDone}
use Rattle.rig_scene.specs.Operations.{operations, ins}
use Rattle.rig_scene.specs.Scene.{SceneRecord}
use Rattle.rig_scene.specs.WellFormed.{is_scene}
use Rattle.rig_edits.specs.declared.edit.Edit.TheVariants.{SetParent}
use Rattle.rig_edits.specs.declared.edit.NewParent.{NewParent}
use Rattle.rig_edits.specs.Accepted.{accepted}
use Rattle.rig_edits.specs.Conditions.{first_cause, lacks_object, lacks_parent}
use Rattle.rig_edits.specs.Edited.{parent_of, edited}
use Rattle.rig_edits.specs.KeepsObjects.{known_object}
use Rattle.rig_edits.specs.Named.{object_named}
use Rattle.rig_touch.specs.Agree.{Agree}
use Rattle.rig_touch.specs.AgreeObjects.{untouched_of, Keeps, Rest, agree_rest, originals_still, own_still, bone_still, modifier_still}
use Rattle.rig_touch.specs.OneObject.{another}
use Rattle.rig_touch.specs.Touch.{touch}

-- its world transform is touched
pub touched_object : (s : SceneRecord) (object : List ℕ) (parent : Option NewParent) (x : Object) (op : OpId) → object_named s object ≡ Some x
    → (Contains (touch s (SetParent object parent)) op → ⊥) → Contains (World x.id ∷ []) op → ⊥
unfolding touch
touched_object s object parent x op e h = untouched_of (λ (o : Object). World o.id ∷ []) (object_named s object) x op e h

-- what isn't touched by an object's new parent
pub agree_set_parent : (s : SceneRecord) → IsTrue (is_scene s) → (object : List ℕ) (parent : Option NewParent)
    → first_cause s (SetParent object parent) ≡ None → (op : OpId) → Contains (operations s) op
    → Contains (operations (edited s (SetParent object parent))) op → (Contains (touch s (SetParent object parent)) op → ⊥)
    → ins s op ≡ ins (edited s (SetParent object parent)) op → Agree s (edited s (SetParent object parent)) op
agree_set_parent s is object parent accept op old new untouched links =
    agree_rest s object change there.0 there.1 keeps op (rest op (touched_object s object parent there.0 op there.1 untouched))
  where
    there : (x : Object) × (object_named s object ≡ Some x)
    there =
        known_object s object (or_parts (lacks_object s object) (lacks_parent s parent)
        (accepted s (SetParent object parent) accept).id_is_known).0

    change : Object → Object
    change o = record o { parent = option_and_then (parent_of s) parent }

    keeps : Keeps s there.0 (change there.0)
    keeps = record { id = refl; action = refl; armature = refl; pencil = refl }

    rest : (op : OpId) → (Contains (World there.0.id ∷ []) op → ⊥) → Rest s object change there.0 there.1 keeps op
    rest Time h = tt
    rest (Animation id) h = tt
    rest (Driver id path) h = originals_still s object change there.0 there.1 keeps refl (λ b. refl) id path
    rest (Local o) h = own_still s object change there.0 there.1 keeps refl o
    rest (World o) h =
        ap (option_map (λ (x : Object). x.parent)) (another s object change there.0 there.1 keeps.id o (λ e. h (0, omega arith, ap World e)))
    rest (PoseInit o) h = tt
    rest (Bone o b) h = bone_still s object change there.0 there.1 keeps b refl o
    rest (PoseDone o) h = tt
    rest (Layer p l) h = tt
    rest (Geometry o) h = tt
    rest (ModifierOp o i) h = modifier_still s object change there.0 there.1 keeps refl o i
    rest (GeometryDone o) h = tt
