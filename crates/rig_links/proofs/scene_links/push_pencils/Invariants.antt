use Rattle.std.proofs.Common.{◌≡◌, ◌++◌, drop}
use Rattle.std.specs.List.{flat_map, enumerate_from}
use Rattle.rig_scene.specs.Operations.{pencil_operations}
use Rattle.rig_links.specs.Numbers.{numbered_links}
use Rattle.rig_links.proofs.scene_links.push_pencils.Given as goal

abbrev pub invariant-loop-p : goal.invariant-loop-p
invariant-loop-p l =
    l.links.items ++ flat_map (λ e. flat_map (numbered_links l.scene) (pencil_operations l.scene e.0 e.1)) (enumerate_from l.p (drop l.p l.pencil-items))
    ≡ l.initial.links.items ++ flat_map (λ e. flat_map (numbered_links l.scene) (pencil_operations l.scene e.0 e.1)) (enumerate_from 0 l.pencil-items)
