-- What is kept of the operations that a frame shows.
use Rattle.std.proofs.Common.{◌≡◌, ℕ, ◌<◌, ◌≤◌, ◌^◌, List, length, map, Option, Some, None, refl, sym, ap, ◌∙◌, subst, arith}
use Rattle.std.specs.Prelude.{slice_get, option_map, option_and_then, IsTrue, IsSome, ℤ}
use Rattle.std.specs.List.{All, Contains}
use Rattle.std.proofs.lemmas.List.Elements.{All-contains}
use Rattle.std.proofs.lemmas.Option.{slice_get-map}
use Rattle.std.proofs.lemmas.Simd.{map-map}
use Rattle.rig_laws.specs.Output.{Output}
use Rattle.rig_scene.specs.declared.limits.TheConstants.{MAX_BONES}
use Rattle.rig_scene.specs.declared.modifier.Mode.{Mode}
use Rattle.rig_scene.specs.declared.object.Kind.{Kind}
use Rattle.rig_scene.specs.declared.object.Kind.TheVariants.{Empty, Armature, Pencil}
use Rattle.rig_scene.specs.declared.object.Object.{Object}
use Rattle.rig_scene.specs.declared.operation.OpId.{OpId}
use Rattle.rig_scene.specs.Facts.{ObjectFacts, ArmatureFacts}
use Rattle.rig_scene.specs.FactsHold.{scene_facts}
use Rattle.rig_scene.specs.Found.{Contains-slice_get}
use Rattle.rig_scene.specs.Operations.{operations}
use Rattle.rig_scene.specs.Pairs.{All-of_map}
use Rattle.rig_scene.specs.Scene.{SceneRecord}
use Rattle.rig_scene.specs.WellFormed.{is_scene, pose_count}
use Rattle.rig_flush.specs.ByNumber.{kept_at}
use Rattle.rig_flush.specs.Options.{same_values, All-there}
use Rattle.rig_flush.specs.Shown.{shown_operations, output_of, shown}

-- ---- what is kept at the numbers that are shown

module _ (s : SceneRecord) (mode : Mode) (frame : ℤ) (kept : List (Option Output)) (is_kept : kept ≡ map (λ op. Some (output_of s mode frame op)) (operations s))
    (ops : List OpId) (same : ops ≡ operations s) (numbers : List ℕ) (are_shown : map (slice_get ops) numbers ≡ map Some (shown_operations s)) where
  each_kept : (n : ℕ) → kept_at kept n ≡ option_map (output_of s mode frame) (slice_get ops n)
  each_kept n =
      ap (λ l. kept_at l n) is_kept
      ∙ ap (option_and_then (λ out. out)) (slice_get-map (λ op. Some (output_of s mode frame op)) (operations s) n)
      ∙ at (slice_get (operations s) n)
      ∙ ap (λ l. option_map (output_of s mode frame) (slice_get l n)) (sym same)
    where
      at : (o : Option OpId) → option_and_then (λ out. out) (option_map (λ op. Some (output_of s mode frame op)) o) ≡ option_map (output_of s mode frame) o
      at None = refl
      at (Some op) = refl

  are_kept : map (kept_at kept) numbers ≡ map Some (map (output_of s mode frame) (shown_operations s))
  are_kept =
      ap (λ f. map f numbers) (λ i n. each_kept n i)
      ∙ sym (map-map (option_map (output_of s mode frame)) (slice_get ops) numbers)
      ∙ ap (map (option_map (output_of s mode frame))) are_shown
      ∙ map-map (option_map (output_of s mode frame)) Some (shown_operations s)
      ∙ sym (map-map Some (output_of s mode frame) (shown_operations s))

  pub all_there : All (λ n. IsSome (kept_at kept n)) numbers
  all_there =
      All-of_map (λ o. IsSome o) (kept_at kept) numbers
      (subst (λ l. All (λ o. IsSome o) l) (sym are_kept) (All-there (map (output_of s mode frame) (shown_operations s))))

  pub outs_shown : (outs : List Output) → map Some outs ≡ map (kept_at kept) numbers → outs ≡ shown s mode frame
  unfolding shown
  outs_shown outs is = same_values outs (map (output_of s mode frame) (shown_operations s)) (is ∙ are_kept)

-- ---- the bones

-- an object with few enough bones that a `u32` counts them
abbrev pub FewBones : Object → Type 0
FewBones o = pose_count o.kind < 2 ^ 32

module _ (s : SceneRecord) (met : IsTrue (is_scene s)) where
  few_bones_of : (o : Object) → ObjectFacts s o → (k : Kind) → o.kind ≡ k → pose_count k < 2 ^ 32
  few_bones_of o facts Empty e = omega arith
  few_bones_of o facts (Armature index pose) e =
      let kind = facts.armature index pose e in
      let count : length kind.armature.bones ≤ MAX_BONES = (All-contains ArmatureFacts s.armatures kind.armature (scene_facts s met).armatures.each (Contains-slice_get s.armatures index kind.armature kind.is_armature)).count in
      let poses : length pose ≡ length kind.armature.bones = kind.poses in
      omega arith
  few_bones_of o facts (Pencil index modifiers) e = omega arith

  pub few_bones : (o : Object) → Contains s.objects o → FewBones o
  few_bones o e = few_bones_of o (All-contains (ObjectFacts s) s.objects o (scene_facts s met).objects.each e) o.kind refl
