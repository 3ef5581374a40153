use Rattle.std.proofs.Common.{◌≡◌, map, take, Some}
use Rattle.rig_flush.specs.ByNumber.{input_from}
use Rattle.rig_flush.proofs.from_scratch.inputs_of.Given as goal

abbrev pub invariant-loop-link : goal.invariant-loop-link
invariant-loop-link l = map Some l.inputs.items ≡ map (input_from l.nodes l.kept) (take l.link-index l.row)
