use Rattle.std.proofs.Common.{◌≡◌, ◌++◌}
use Rattle.std.specs.List.{flat_map, range_with_len}
use Rattle.rig_scene.specs.declared.operation.OpId.TheVariants.{ModifierOp}
use Rattle.rig_links.specs.Numbers.{numbered_links}
use Rattle.rig_links.proofs.geometry.push_modifiers.Given as goal

abbrev pub invariant-loop-before : goal.invariant-loop-before
invariant-loop-before l = l.links.items ≡ l.initial.links.items ++ flat_map (λ i. numbered_links l.scene (ModifierOp l.object i)) (range_with_len 1 l.before)
