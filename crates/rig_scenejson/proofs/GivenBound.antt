-- The layers that the members give are bound to bones that are there.
use Rattle.std.proofs.Common.{◌≡◌, ℕ, true, [], Option, Some, None, option_map, refl, ap, ◌∙◌}
use Rattle.std.specs.Prelude.{is_some}
use Rattle.std.specs.List.{list_all}
use Rattle.std.specs.Option.{option_map_or}
use Rattle.serde_json.specs.Data.{Data}
use Rattle.rig_scene.specs.declared.pencil.Layer.{Layer}
use Rattle.rig_scene.specs.declared.pencil.PencilData.{PencilData}
use Rattle.rig_scene.specs.Scene.{SceneRecord}
use Rattle.rig_scene.specs.WellFormed.{is_bound, are_bound}
use Rattle.rig_scenejson.specs.declared.before.Catalog.{Catalog}
use Rattle.rig_scenejson.specs.declared.member.Member.TheVariants as m
use Rattle.rig_scenejson.specs.Tests.{field, required}
use Rattle.rig_scenejson.specs.Value.{text_of, item_count}
use Rattle.rig_scenejson.specs.Given.{text_at, items_at, index_of, bones_named, object_named, layer_given, pencil_given}
use Rattle.rig_scenejson.specs.PassOne.{where_true, after_any}
use Rattle.rig_scenejson.specs.PassTwo.{each_faults, known_faults, layer_references, pencil_references}
use Rattle.rig_scenejson.proofs.Lists.{left_none, right_none, each_none}
use Rattle.rig_scenejson.proofs.Items.{all_referring}
use Rattle.rig_scenejson.proofs.References.{required_known, Names, Stands, bone_is_there}

module _ (s : SceneRecord) (c : Catalog) (d : Data) (scene : Stands s c d) (names : Names c d) where
  -- a layer without a fault in the second pass
  layer_bound : (drawings i : ℕ) (u : Unit {0}) (x : Data) → layer_references c drawings i u x ≡ [] → is_bound s (layer_given c i x).bound ≡ true
  layer_bound drawings i u x e = by (field m.Armature x) (right_none _ _ (left_none _ _ e))
    where
      by : (o : Option Data) → where_true (is_some o) (required m.Bone (known_faults (bones_named c (option_map_or text_of o []))) x) ≡ []
          → is_bound s (option_map (λ a. record { object = object_named c (text_of a); bone = index_of (bones_named c (text_of a)) (text_at m.Bone x) }) o) ≡ true
      by None e = refl
      by (Some a) e = bone_is_there s c d scene names (text_of a) (text_at m.Bone x) (required_known (bones_named c (text_of a)) m.Bone x e)

  pencil_bound : (i : ℕ) (u : Unit {0}) (x : Data) → pencil_references c i u x ≡ [] → list_all (λ (l : Layer). is_bound s l.bound) (pencil_given c i x).layers ≡ true
  pencil_bound i u x e =
      let drawings : ℕ = item_count (items_at m.Drawings x) in
      all_referring (λ (l : Layer). is_bound s l.bound) (layer_given c) (layer_references c drawings) after_any (layer_bound drawings) 0 tt (items_at m.Layers x)
      (each_none m.Layers (layer_references c drawings) after_any tt x (right_none _ _ e))

  pub are_bound_given : each_faults m.Pencils (pencil_references c) after_any tt d ≡ [] → are_bound s ≡ true
  are_bound_given e =
      ap (list_all (λ (p : PencilData). list_all (λ (l : Layer). is_bound s l.bound) p.layers)) scene.pencils
      ∙ all_referring (λ (p : PencilData). list_all (λ (l : Layer). is_bound s l.bound) p.layers) (pencil_given c) (pencil_references c) after_any pencil_bound 0 tt (items_at m.Pencils d)
      (each_none m.Pencils (pencil_references c) after_any tt d e)
