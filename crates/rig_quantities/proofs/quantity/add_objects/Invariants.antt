use Rattle.std.proofs.Common.{◌≡◌, ◌++◌, drop}
use Rattle.std.specs.List.{flat_map}
use Rattle.rig_scene.specs.Quantities.{object_quantities}
use Rattle.rig_quantities.proofs.quantity.add_objects.Given as goal

abbrev pub invariant-loop-index : goal.invariant-loop-index
invariant-loop-index l =
    l.items.items ++ flat_map (object_quantities l.scene) (drop l.index l.object-items)
    ≡ l.initial.items.items ++ flat_map (object_quantities l.scene) l.object-items
