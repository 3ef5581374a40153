-- By the lemma on the rank.
use Rattle.rig_laws.specs.RankFalls.{rank_falls}
use Rattle.rig_laws.proofs.reads.inner_reads_fall_in_rank.Goals as goal

pub returns : goal.returns
returns c = rank_falls
