use Rattle.std.proofs.Common.{◌≡◌, [], ◌∷◌, true, None, refl, ◌∙◌}
use Rattle.rig_scene.specs.declared.object.Kind.TheVariants.{Empty}
use Rattle.rig_scene.specs.declared.object.Object.{Object}
use Rattle.rig_scene.specs.WellFormed.{is_scene}
use Rattle.rig_scene.proofs.find.tests.arm_and_armature.Goals as goal

two_alone : (arm armature : Object) → arm.id.0 ≡ 3 → armature.id.0 ≡ 7 → arm.name ≡ 65 ∷ 114 ∷ 109 ∷ [] → armature.name ≡ 65 ∷ 114 ∷ 109 ∷ 97 ∷ 116 ∷ 117 ∷ 114 ∷ 101 ∷ [] → arm.action ≡ None → arm.parent ≡ None → armature.action ≡ None → armature.parent ≡ None → arm.kind ≡ Empty → armature.kind ≡ Empty → is_scene (record { actions = []; armatures = []; pencils = []; objects = arm ∷ armature ∷ []; drivers = []; next = 8 }) ≡ true
unfolding is_scene
two_alone arm armature a b c d e f g h i j = simp (a, b, c, d, e, f, g, h, i, j)

pub invariant_of-result : goal.invariant_of-result
invariant_of-result c =
    let a : c.object-arm.result.name ≡ 65 ∷ 114 ∷ 109 ∷ [] = c.object-arm.ensures.name ∙ c.in_ok-of.ensures.name.0 in
    let b : c.object-armature.result.name ≡ 65 ∷ 114 ∷ 109 ∷ 97 ∷ 116 ∷ 117 ∷ 114 ∷ 101 ∷ [] = c.object-armature.ensures.name ∙ c.in_ok-of-2.ensures.name.0 in
    let objects : c.from-objects.result ≡ c.object-arm.result ∷ c.object-armature.result ∷ [] = c.from-objects.ensures ∙ c.in_ok-vec.ensures.items in
    record {
      is_scene = rw (c.new.ensures, c.new-2.ensures, c.new-3.ensures, c.new-4.ensures, objects) (two_alone c.object-arm.result c.object-armature.result c.object-arm.ensures.id c.object-armature.ensures.id a b c.object-arm.ensures.alone.0 c.object-arm.ensures.alone.1 c.object-armature.ensures.alone.0 c.object-armature.ensures.alone.1 c.object-arm.ensures.kind c.object-armature.ensures.kind);
      counts_keys = rw c.new.ensures refl;
      counts_layer_keys = rw c.new-3.ensures refl;
    }
