use Rattle.std.proofs.Common.{◌≡◌, ◌++◌, drop}
use Rattle.std.specs.List.{flat_map, enumerate_from}
use Rattle.rig_scene.specs.Quantities.{pencil_quantities}
use Rattle.rig_quantities.proofs.quantity.add_pencils.Given as goal

abbrev pub invariant-loop-index : goal.invariant-loop-index
invariant-loop-index l =
    l.items.items ++ flat_map (λ e. pencil_quantities l.scene e.0 e.1) (enumerate_from l.index (drop l.index l.pencil-items))
    ≡ l.initial.items.items ++ flat_map (λ e. pencil_quantities l.scene e.0 e.1) (enumerate_from 0 l.pencil-items)
