use Rattle.std.proofs.Common.{◌≡◌, ◌++◌, List, drop, map, filter}
use Rattle.std.specs.List.{list_any}
use Rattle.rig_scene.specs.declared.driver.Driver.{Driver}
use Rattle.rig_scene.specs.declared.operation.OpId.{OpId}
use Rattle.rig_scene.specs.declared.operation.OpId.TheVariants as op
use Rattle.rig_touch.specs.Touch.{is_property}
use Rattle.rig_touch.proofs.channel.push_readers.Given as goal

abbrev pub invariant-loop-driver : goal.invariant-loop-driver
invariant-loop-driver l =
    let readers : List Driver → List OpId = λ drivers. map (λ d. op.Driver d.id d.path) (filter (λ d. list_any (is_property l.id l.path) d.variables) drivers) in
    l.ops ++ readers (drop l.driver-index l.drivers) ≡ l.initial.ops ++ readers l.drivers
