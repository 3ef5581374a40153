-- Armatures without a fault are armatures of a whole scene.
use Rattle.std.proofs.Common.{◌≡◌, ℕ, suc, ◌+◌, true, false, not, List, [], length, map, Option, Some, None, option_map, refl, ap, ◌∙◌, add-one, pos, int_le}
use Rattle.std.specs.Prelude.{nat_le, nat_lt, position, unwrap_or}
use Rattle.std.specs.List.{list_any}
use Rattle.std.specs.Option.{option_map_or}
use Rattle.std.proofs.lemmas.Bool.{and_from}
use Rattle.serde_json.specs.Data.{Data, Items, no_items, item}
use Rattle.rig_fixed.specs.Fixed.{unit, highest}
use Rattle.rig_scene.specs.declared.armature.ArmatureData.{ArmatureData}
use Rattle.rig_scene.specs.declared.armature.RestBone.{RestBone}
use Rattle.rig_scene.specs.declared.limits.TheConstants.{MAX_ARMATURES, MAX_BONES}
use Rattle.rig_scene.specs.Distinct.{are_distinct}
use Rattle.rig_scene.specs.Text.{same_text}
use Rattle.rig_scene.specs.WellFormed.{is_below, are_bones_from, is_armature, are_armatures}
use Rattle.rig_scenejson.specs.declared.before.ArmaturesBefore.{ArmaturesBefore}
use Rattle.rig_scenejson.specs.declared.before.Catalog.{Catalog}
use Rattle.rig_scenejson.specs.declared.fault.Cause.TheVariants.{UnknownRef}
use Rattle.rig_scenejson.specs.declared.member.Member.TheVariants as m
use Rattle.rig_scenejson.specs.Tests.{field, optional, items_faults}
use Rattle.rig_scenejson.specs.Value.{whole_faults, fixed_of, text_of}
use Rattle.rig_scenejson.specs.Given.{text_at, items_at, fixed_at, values_from, index_of, bones_at, bone_given, armature_given}
use Rattle.rig_scenejson.specs.PassOne.{list_faults, bone_faults, after_named, armature_faults, after_armature, no_armatures, after_any}
use Rattle.rig_scenejson.specs.PassTwo.{each_from, each_faults, parent_bone_faults, bone_references, armature_references}
use Rattle.rig_scenejson.proofs.Lists.{left_none, right_none, unless_none, of_optional, optional_list_none, each_none, head_none, rest_none, each_head_none, each_rest_none, length_values_from, map_values_from, values_from_values}
use Rattle.rig_scenejson.proofs.Items.{all_values_from, new_values}
use Rattle.rig_scenejson.proofs.Numbers.{new_name_none, scale_none}

-- ---- bones

-- a parent without a fault is before its bone
parent_none : (names : List (List ℕ)) (i : ℕ) (d : Data) → bone_references names i tt d ≡ [] → is_below i (option_map (λ p. index_of names (text_of p)) (field m.Parent d)) ≡ true
parent_none names i d e =
    of_optional (λ o. is_below i (option_map (λ p. index_of names (text_of p)) o) ≡ true) m.Parent (parent_bone_faults names i) d refl
    (λ v none. by (position (same_text (text_of v)) names) (unless_none (option_map_or (λ p. nat_lt p i) (position (same_text (text_of v)) names) false) UnknownRef none)) e
  where
    by : (o : Option ℕ) → option_map_or (λ p. nat_lt p i) o false ≡ true → nat_lt (unwrap_or o 0) i ≡ true
    by None e = cc
    by (Some p) e = e

rest_scale_none : (d : Data) → optional m.Scale (whole_faults (pos 1) highest) d ≡ [] → int_le (pos 1) (fixed_at unit m.Scale d) ≡ true
rest_scale_none d e = of_optional (λ o. int_le (pos 1) (option_map_or fixed_of o unit) ≡ true) m.Scale (whole_faults (pos 1) highest) d refl scale_none e

module _ (names : List (List ℕ)) where
  bones_given : (i : ℕ) (b : List (List ℕ)) (ds : Items) → items_faults bone_faults after_named i b ds ≡ [] → each_from (bone_references names) after_any i tt ds ≡ [] → are_bones_from i (values_from (bone_given names) i ds) ≡ true
  bones_given i b no_items e h = refl
  bones_given i b (item d ds) e h =
      let parent = parent_none names i d (each_head_none (bone_references names) after_any i tt d ds h) in
      let scale = rest_scale_none d (right_none _ _ (head_none bone_faults after_named i b d ds e)) in
      let rest : are_bones_from (i + 1) (values_from (bone_given names) (suc i) ds) ≡ true =
      rw add-one (bones_given (suc i) (after_named b d) ds (rest_none bone_faults after_named i b d ds e) (each_rest_none (bone_references names) after_any i tt d ds h)) in
      and_from _ _ (and_from _ _ parent scale) rest

bone_name_none : (b : List (List ℕ)) (d : Data) → bone_faults b d ≡ [] → not (list_any (same_text (text_at m.Name d)) b) ≡ true
bone_name_none b d e = new_name_none b m.Name d (right_none _ _ (left_none _ _ (left_none _ _ (left_none _ _ (left_none _ _ e)))))

-- ---- armatures

armature_name_none : (b : ArmaturesBefore) (d : Data) → armature_faults b d ≡ [] → not (list_any (same_text (text_at m.Name d)) b.names) ≡ true
armature_name_none b d e = new_name_none b.names m.Name d (right_none _ _ (left_none _ _ e))

-- an armature without a fault in either pass
armature_none : (c : Catalog) (i : ℕ) (b : ArmaturesBefore) (d : Data) → armature_faults b d ≡ [] → armature_references c i tt d ≡ [] → is_armature (armature_given c i d) ≡ true
armature_none c i b d e h =
    let ds : Items = items_at m.Bones d in
    let names : List (List ℕ) = bones_at c i in
    let bones = optional_list_none m.Bones MAX_BONES bone_faults after_named [] d (right_none _ _ e) in
    let many : nat_le (length (values_from (bone_given names) 0 ds)) MAX_BONES ≡ true = ap (λ n. nat_le n MAX_BONES) (length_values_from (bone_given names) 0 ds) ∙ bones.0 in
    let distinct : are_distinct same_text (map (λ (b : RestBone). b.name) (values_from (bone_given names) 0 ds)) ≡ true =
    ap (are_distinct same_text) (map_values_from (λ (b : RestBone). b.name) (bone_given names) 0 ds ∙ values_from_values (text_at m.Name) 0 ds)
    ∙ new_values same_text (text_at m.Name) (λ b. b) bone_faults after_named bone_name_none (λ b d. refl) 0 [] ds bones.1 in
    let each = bones_given names 0 [] ds bones.1 (each_none m.Bones (bone_references names) after_any tt d h) in
    and_from _ _ (and_from _ _ many distinct) each

-- the armatures that the members give
pub are_armatures_given : (c : Catalog) (d : Data) → optional m.Armatures (list_faults 0 MAX_ARMATURES armature_faults after_armature no_armatures) d ≡ []
    → each_faults m.Armatures (armature_references c) after_any tt d ≡ [] → are_armatures (values_from (armature_given c) 0 (items_at m.Armatures d)) ≡ true
are_armatures_given c d e h =
    let ds : Items = items_at m.Armatures d in
    let armatures = optional_list_none m.Armatures MAX_ARMATURES armature_faults after_armature no_armatures d e in
    let many : nat_le (length (values_from (armature_given c) 0 ds)) MAX_ARMATURES ≡ true = ap (λ n. nat_le n MAX_ARMATURES) (length_values_from (armature_given c) 0 ds) ∙ armatures.0 in
    let names : are_distinct same_text (map (λ (a : ArmatureData). a.name) (values_from (armature_given c) 0 ds)) ≡ true =
    ap (are_distinct same_text) (map_values_from (λ (a : ArmatureData). a.name) (armature_given c) 0 ds ∙ values_from_values (text_at m.Name) 0 ds)
    ∙ new_values same_text (text_at m.Name) (λ (b : ArmaturesBefore). b.names) armature_faults after_armature armature_name_none (λ b d. refl) 0 no_armatures ds armatures.1 in
    let each = all_values_from is_armature (armature_given c) armature_faults after_armature (armature_references c) after_any (λ i b u d. armature_none c i b d) 0 no_armatures tt ds armatures.1
    (each_none m.Armatures (armature_references c) after_any tt d h) in
    and_from _ _ (and_from _ _ many names) each
