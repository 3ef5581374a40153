use Rattle.std.proofs.Common.{◌≡◌, map, take, position}
use Rattle.rig_scene.specs.declared.path.Path.{Path}
use Rattle.rig_scene.specs.Path.{same_path}
use Rattle.rig_kernel.specs.Tables.{curve_in}
use Rattle.rig_kernel.proofs.action_curves.action_curves.Given as goal

abbrev pub invariant-loop-index : goal.invariant-loop-index
invariant-loop-index l = (path : Path) → curve_in l.table path ≡ position (λ p. same_path p path) (take l.index (map (λ c. c.path) l.curves))
