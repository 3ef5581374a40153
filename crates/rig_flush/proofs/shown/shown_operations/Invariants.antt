use Rattle.std.proofs.Common.{◌≡◌, ◌++◌, ◌∷◌, drop}
use Rattle.std.specs.List.{flat_map}
use Rattle.rig_scene.specs.declared.operation.OpId.TheVariants.{World}
use Rattle.rig_flush.specs.Shown.{shown_of_kind}
use Rattle.rig_flush.proofs.shown.shown_operations.Given as goal

abbrev pub invariant-loop-object : goal.invariant-loop-object
invariant-loop-object l =
    l.ops.items ++ flat_map (λ o. World o.id ∷ shown_of_kind o.id o.kind) (drop l.object-index l.object-items)
    ≡ flat_map (λ o. World o.id ∷ shown_of_kind o.id o.kind) l.object-items
