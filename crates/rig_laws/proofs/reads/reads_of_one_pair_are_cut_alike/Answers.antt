-- By the lemmas on kept reads.
use Rattle.rig_laws.specs.KeptReads.{kept_alike, kept_exactly, cut_at_test, inner_not_cut}
use Rattle.rig_laws.proofs.reads.reads_of_one_pair_are_cut_alike.Goals as goal

pub returns : goal.returns
returns c = record { both = kept_alike; kept = kept_exactly; at_its_test = cut_at_test; inner = inner_not_cut }
