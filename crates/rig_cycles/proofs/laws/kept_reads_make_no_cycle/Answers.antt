use Rattle.rig_cycles.specs.Acyclic.{acyclic_kept_after}
use Rattle.rig_cycles.proofs.laws.kept_reads_make_no_cycle.Goals as goal

pub returns : goal.returns
returns g c = acyclic_kept_after
