-- What carries an object, by the inputs of its transform in the world.
use Rattle.std.proofs.Common.{◌≡◌, ℕ, List, [], ◌∷◌, drop, Option, Some, None, refl, sym, ap, ◌∙◌}
use Rattle.std.specs.Prelude.{option_map}
use Rattle.rig_fixed.specs.Transform.{compose}
use Rattle.rig_scene.specs.declared.object.Object.{Object}
use Rattle.rig_scene.specs.declared.object.Parent.{Parent}
use Rattle.rig_scene.specs.Pose.{carried_by, parent_space}
use Rattle.rig_laws.specs.Kernel.{world_transform, parent_transform}
use Rattle.rig_laws.specs.Output.{Output, transform_at}

-- a parent's transforms stand behind the object's own one
at_parent : (inputs : List Output) (bone : Option ℕ)
    → parent_space (transform_at inputs 1) (option_map (λ _. transform_at inputs 2) bone)
    ≡ parent_space (transform_at (drop 1 inputs) 0) (option_map (λ _. transform_at (drop 1 inputs) 1) bone)
at_parent [] named = refl
at_parent (x ∷ xs) named = refl

pub parent_bone : (parent : Parent) (bone : ℕ) (inputs : List Output) → parent.bone ≡ Some bone
    → compose (transform_at inputs 1) (transform_at inputs 2) ≡ parent_transform parent (drop 1 inputs)
parent_bone parent bone inputs is =
    ap (λ b. parent_space (transform_at inputs 1) (option_map (λ _. transform_at inputs 2) b)) (sym is) ∙ at_parent inputs parent.bone

pub parent_alone : (parent : Parent) (inputs : List Output) → parent.bone ≡ None
    → transform_at inputs 1 ≡ parent_transform parent (drop 1 inputs)
parent_alone parent inputs is =
    ap (λ b. parent_space (transform_at inputs 1) (option_map (λ _. transform_at inputs 2) b)) (sym is) ∙ at_parent inputs parent.bone

pub with_parent : (object : Object) (parent : Parent) (inputs : List Output) → object.parent ≡ Some parent
    → compose (parent_transform parent (drop 1 inputs)) (transform_at inputs 0) ≡ world_transform object inputs
unfolding world_transform
with_parent object parent inputs is =
    ap (λ p. carried_by (option_map (λ parent. parent_transform parent (drop 1 inputs)) p) (transform_at inputs 0)) (sym is)

pub without_parent : (object : Object) (inputs : List Output) → object.parent ≡ None → transform_at inputs 0 ≡ world_transform object inputs
unfolding world_transform
without_parent object inputs is =
    ap (λ p. carried_by (option_map (λ parent. parent_transform parent (drop 1 inputs)) p) (transform_at inputs 0)) (sym is)
