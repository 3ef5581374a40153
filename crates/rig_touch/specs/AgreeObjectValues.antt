-- An original number of an object set, whatever its path: two scenes have in common what isn't touched.
use Rattle.std.proofs.Common.{◌≡◌, ℕ, List, None}
use Rattle.std.specs.Prelude.{ℤ, IsTrue, Contains}
use Rattle.rig_scene.specs.declared.operation.OpId.{OpId}
use Rattle.rig_scene.specs.declared.path.Path.{Path}
use Rattle.rig_scene.specs.declared.path.Path.TheVariants.{Own, Bone, Layer}
use Rattle.rig_scene.specs.Operations.{operations, ins}
use Rattle.rig_scene.specs.Scene.{SceneRecord}
use Rattle.rig_scene.specs.WellFormed.{is_scene}
use Rattle.rig_edits.specs.declared.edit.Edit.TheVariants.{SetValue}
use Rattle.rig_edits.specs.declared.edit.IdName.TheVariants as named
use Rattle.rig_edits.specs.Conditions.{first_cause}
use Rattle.rig_edits.specs.Edited.{edited}
use Rattle.rig_touch.specs.Agree.{Agree}
use Rattle.rig_touch.specs.OtherPencils.{itself_agrees}
use Rattle.rig_touch.specs.AgreePoses.{agree_set_pose}
use Rattle.rig_touch.specs.AgreeValues.{agree_set_own}
use Rattle.rig_touch.specs.Touch.{touch}

pub agree_set_object_value : (s : SceneRecord) → IsTrue (is_scene s) → (object : List ℕ) (p : Path) (value : ℤ)
    → first_cause s (SetValue (named.Object object) p value) ≡ None → (op : OpId) → Contains (operations s) op
    → Contains (operations (edited s (SetValue (named.Object object) p value))) op
    → (Contains (touch s (SetValue (named.Object object) p value)) op → ⊥)
    → ins s op ≡ ins (edited s (SetValue (named.Object object) p value)) op → Agree s (edited s (SetValue (named.Object object) p value)) op
agree_set_object_value s is object (Own channel) value = agree_set_own s is object channel value
agree_set_object_value s is object (Bone bone channel) value = agree_set_pose s is object bone channel value
agree_set_object_value s is object (Layer layer axis) value = λ accept op old new untouched links. itself_agrees s op
