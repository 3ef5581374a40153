-- Bones at rest: what stands above a bone, whatever the depth that is enough for it.
use Rattle.std.proofs.Common.{◌≡◌, ℕ, zero, suc, ◌+◌, ◌<◌, List, [], ◌∷◌, slice_get, IsTrue, Some, None, refl, subst, arith}
use Rattle.std.proofs.lemmas.Bool.{and_parts}
use Rattle.std.proofs.lemmas.Bool.Decides.{nat_tests}
use Rattle.std.proofs.lemmas.Option.{same_Some}
use Rattle.std.specs.List.{list_all, enumerate_from}
use Rattle.rig_fixed.specs.Transform.{Transform, compose}
use Rattle.rig_scene.specs.declared.armature.RestBone.{RestBone}
use Rattle.rig_scene.specs.WellFormed.{is_below}
use Rattle.rig_scene.specs.Pose.{transform_of, rest_through}
use Rattle.rig_scene.specs.Facts.{have_earlier_parents}

-- the bone of a index, where bones are counted from another index on, has an earlier parent
below_from : (first : ℕ) (bones : List RestBone) (k : ℕ) (bone : RestBone) → IsTrue (list_all (λ b. is_below b.0 b.1.parent) (enumerate_from first bones)) → slice_get bones k ≡ Some bone → IsTrue (is_below (first + k) bone.parent)
below_from first [] k bone each is = cc
below_from first (b ∷ bones) zero bone each is =
    let own = (and_parts (is_below first b.parent) (list_all (λ b. is_below b.0 b.1.parent) (enumerate_from (first + 1) bones)) each).0 in
    let count : first ≡ first + 0 = omega arith in
    subst (λ (n : ℕ). IsTrue (is_below n bone.parent)) count (subst (λ (x : RestBone). IsTrue (is_below first x.parent)) (same_Some b bone is) own)
below_from first (b ∷ bones) (suc k) bone each is =
    let later = (and_parts (is_below first b.parent) (list_all (λ b. is_below b.0 b.1.parent) (enumerate_from (first + 1) bones)) each).1 in
    let count : first + 1 + k ≡ first + suc k = omega arith in
    subst (λ (n : ℕ). IsTrue (is_below n bone.parent)) count (below_from (first + 1) bones k bone later is)

-- the parent of a bone is an earlier bone
pub earlier : (bones : List RestBone) (index : ℕ) (bone : RestBone) (parent : ℕ) → IsTrue (have_earlier_parents bones) → slice_get bones index ≡ Some bone → bone.parent ≡ Some parent → parent < index
earlier bones index bone parent each is above =
    let below = subst (λ o. IsTrue (is_below (0 + index) o)) above (below_from 0 bones index bone each is) in
    grind (arith, nat_tests)

-- a bone without a parent is at rest where its own numbers say
pub root_rest : (bones : List RestBone) (index : ℕ) (bone : RestBone) → slice_get bones index ≡ Some bone → bone.parent ≡ None → (depth : ℕ) → index < depth → transform_of bone.rest ≡ rest_through depth bones index
root_rest bones index bone is above zero enough = absurd (omega arith)
root_rest bones index bone is above (suc depth) enough = rw (is, above) refl

-- a bone with a parent is carried by the parent at rest
pub child_rest : (bones : List RestBone) (index parent : ℕ) (bone : RestBone) (carrier : Transform) → slice_get bones index ≡ Some bone → bone.parent ≡ Some parent → parent < index → ((depth : ℕ) → parent < depth → carrier ≡ rest_through depth bones parent) → (depth : ℕ) → index < depth → compose carrier (transform_of bone.rest) ≡ rest_through depth bones index
child_rest bones index parent bone carrier is above earlier stands zero enough = absurd (omega arith)
child_rest bones index parent bone carrier is above earlier stands (suc depth) enough =
    let e = stands depth (omega arith) in
    rw (is, above, ← e) refl
