use Rattle.rig_cycles.specs.CutSteps.{kept_or_cut, kept_is_tested, kept_stays, cut_is_tested}
use Rattle.rig_cycles.specs.CutAlike.{split}
use Rattle.rig_cycles.proofs.laws.each_read_is_kept_or_cut.Goals as goal

pub returns-clause-tested : goal.returns-clause-tested
returns-clause-tested g c = kept_or_cut

pub returns-clause-kept_ones : goal.returns-clause-kept_ones
returns-clause-kept_ones g c = kept_is_tested

pub returns-clause-always_kept : goal.returns-clause-always_kept
returns-clause-always_kept g c = kept_stays

pub returns-clause-cut_ones : goal.returns-clause-cut_ones
returns-clause-cut_ones g c = cut_is_tested

pub returns-clause-cuts : goal.returns-clause-cuts
returns-clause-cuts g c = λ same equal kept rest acyclic. (split same equal kept rest acyclic).0

pub returns-clause-kept : goal.returns-clause-kept
returns-clause-kept g c = λ same equal kept rest acyclic. (split same equal kept rest acyclic).1
