use Rattle.rig_cycles.specs.CutAlike.{cut_by_pair, cut_alike, kept_where_no_pair, pair_in_the_end}
use Rattle.rig_cycles.proofs.laws.reads_of_one_pair_are_cut_alike.Goals as goal

pub returns-clause-at_its_test : goal.returns-clause-at_its_test
returns-clause-at_its_test g c = cut_by_pair

pub returns-clause-two : goal.returns-clause-two
returns-clause-two g c = cut_alike

pub returns-clause-kept_or_cut : goal.returns-clause-kept_or_cut
returns-clause-kept_or_cut g c = kept_where_no_pair

pub returns-clause-in_the_end : goal.returns-clause-in_the_end
returns-clause-in_the_end g c = pair_in_the_end
