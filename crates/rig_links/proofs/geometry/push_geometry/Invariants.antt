use Rattle.std.proofs.Common.{◌≡◌, ◌++◌}
use Rattle.rig_links.specs.Parts.{of_geometry}
use Rattle.rig_links.proofs.geometry.push_geometry.Given as goal

abbrev pub invariant-loop-layer : goal.invariant-loop-layer
invariant-loop-layer l = l.links.items ≡ l.initial.links.items ++ of_geometry l.scene l.reader l.pencil l.layer
