use Rattle.std.proofs.Common.{map, take}
use Rattle.std.specs.List.{AllZip}
use Rattle.rig_kernel.specs.Tables.{AreCurvesOf}
use Rattle.rig_kernel.proofs.tables.curve_tables.Given as goal

abbrev pub invariant-loop-action : goal.invariant-loop-action
invariant-loop-action l = AllZip (λ t a. AreCurvesOf t (map (λ c. c.path) a.curves)) l.tables (take l.action-index l.actions)
