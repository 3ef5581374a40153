use Rattle.rig_fixed.proofs.number.+root_by_digits.Given as goal

abbrev pub decreases-root_by_digits : goal.decreases-root_by_digits
decreases-root_by_digits l = l.n
