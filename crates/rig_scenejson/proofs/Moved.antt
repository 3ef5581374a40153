-- What was answered of a value, as that of the value in which it stands.
use Rattle.std.proofs.Common.{List, map, Some, option_map, Result, Ok, Err, ap, sym, ◌∙◌}
use Rattle.rig_scenejson.specs.declared.fault.Hop.{Hop}
use Rattle.rig_scenejson.specs.declared.fault.Fault.{Fault}
use Rattle.rig_scenejson.specs.declared.fault.SceneStop.{SceneStop}
use Rattle.rig_scenejson.specs.declared.fault.SceneStop.TheVariants as stops
use Rattle.rig_scenejson.specs.Tests.{Reads, MovedTo, moved, first}
use Rattle.rig_scenejson.proofs.First.{first_map}

module _ {A : Type 0} (hop : Hop) where
  pub reads_moved : (a b : Result A SceneStop) (value : A) (faults : List Fault) → MovedTo hop a b → Reads a value (first faults) → Reads b value (first (map (moved hop) faults))
  reads_moved (Ok x) (Ok y) value faults m r = (m ∙ r.0, first_map (moved hop) faults ∙ ap (option_map (moved hop)) r.1)
  reads_moved (Ok x) (Err stop) value faults m r = absurd m
  reads_moved (Err stop) (Ok y) value faults m r = absurd m
  reads_moved (Err stop) (Err stops.NoMemory) value faults m r = tt
  reads_moved (Err stops.NoMemory) (Err (stops.Fault f)) value faults m r = absurd m
  reads_moved (Err (stops.Fault g)) (Err (stops.Fault f)) value faults m r = first_map (moved hop) faults ∙ ap (option_map (moved hop)) r ∙ ap Some (sym m)
