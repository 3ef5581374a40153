use Rattle.std.proofs.Common.{◌≡◌, ◌++◌, drop}
use Rattle.std.specs.List.{flat_map}
use Rattle.rig_scene.specs.Operations.{object_operations}
use Rattle.rig_links.specs.Numbers.{numbered_links}
use Rattle.rig_links.proofs.scene_links.push_objects.Given as goal

abbrev pub invariant-loop-index : goal.invariant-loop-index
invariant-loop-index l =
    l.links.items ++ flat_map (λ o. flat_map (numbered_links l.scene) (object_operations l.scene o)) (drop l.index l.object-items)
    ≡ l.initial.links.items ++ flat_map (λ o. flat_map (numbered_links l.scene) (object_operations l.scene o)) l.object-items
