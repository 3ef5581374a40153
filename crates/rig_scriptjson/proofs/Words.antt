-- The word of an edit.
use Rattle.std.proofs.Common.{◌≡◌, ℕ, Bool, true, false, List, refl, ◌∙◌}
use Rattle.serde_json.specs.Data.{Data}
use Rattle.rig_scene.specs.Same.{same_text-Decides}
use Rattle.rig_scene.specs.Text.{same_text}
use Rattle.rig_scenejson.specs.declared.member.Member.TheVariants as m
use Rattle.rig_scenejson.specs.Given.{text_at}
use Rattle.rig_scriptjson.specs.EditFaults.{is_edit}

-- an edit has no word that its text isn't
pub is_not : (word : List ℕ) (d : Data) (s : List ℕ) → s ≡ text_at m.Edit d → (s ≡ word → ⊥) → is_edit word d ≡ false
is_not word d s is differs = by (same_text (text_at m.Edit d) word) refl
  where
    by : (b : Bool) → same_text (text_at m.Edit d) word ≡ b → b ≡ false
    by true e = absurd (differs (is ∙ (same_text-Decides (text_at m.Edit d) word).0 e))
    by false e = refl
