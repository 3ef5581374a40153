use Rattle.std.proofs.Common.{◌≡◌, ◌++◌}
use Rattle.std.specs.List.{flat_map, range_with_len}
use Rattle.rig_scene.specs.declared.operation.OpId.TheVariants.{Bone}
use Rattle.rig_links.specs.Numbers.{numbered_links}
use Rattle.rig_links.proofs.pose.push_bones.Given as goal

abbrev pub invariant-loop-b : goal.invariant-loop-b
invariant-loop-b l = l.links.items ≡ l.initial.links.items ++ flat_map (λ b. numbered_links l.scene (Bone l.object b)) (range_with_len 0 l.b)
