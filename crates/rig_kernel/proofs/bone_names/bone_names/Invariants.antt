use Rattle.std.proofs.Common.{◌≡◌, ℕ, List, take, position}
use Rattle.indexmap.specs.IndexMap.{get}
use Rattle.rig_scene.specs.Text.{same_text}
use Rattle.rig_kernel.proofs.bone_names.bone_names.Given as goal

abbrev pub invariant-loop-index : goal.invariant-loop-index
invariant-loop-index l = (name : List ℕ) → get same_text l.names name ≡ position (λ b. same_text b.name name) (take l.index l.bones)
