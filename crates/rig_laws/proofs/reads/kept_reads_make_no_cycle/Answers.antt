-- By the lemmas on inner and on kept reads.
use Rattle.rig_laws.specs.KeptReads.{inner_acyclic, kept_acyclic}
use Rattle.rig_laws.proofs.reads.kept_reads_make_no_cycle.Goals as goal

pub returns : goal.returns
returns c = record { inner = inner_acyclic; kept = kept_acyclic }
