use Rattle.std.proofs.Common.{◌≡◌, ◌++◌, drop}
use Rattle.std.specs.List.{flat_map}
use Rattle.rig_text.specs.Fault.{hop_text}
use Rattle.rig_text.proofs.fault.push_hops.Given as goal

-- what is there, and the steps to come
abbrev pub invariant-loop-hop : goal.invariant-loop-hop
invariant-loop-hop l = l.text.items ++ flat_map hop_text (drop l.hop-index l.place) ≡ l.fn.text.items ++ flat_map hop_text l.place
