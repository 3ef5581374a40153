use Rattle.std.proofs.Common.{◌≡◌, ◌++◌}
use Rattle.std.specs.List.{flat_map, range_with_len}
use Rattle.rig_scene.specs.declared.operation.OpId.TheVariants.{Layer}
use Rattle.rig_links.specs.Numbers.{numbered_links}
use Rattle.rig_links.proofs.layer.push_layers.Given as goal

abbrev pub invariant-loop-l : goal.invariant-loop-l
invariant-loop-l l = l.links.items ≡ l.initial.links.items ++ flat_map (λ n. numbered_links l.scene (Layer l.pencil n)) (range_with_len 0 l.l)
