use Rattle.std.proofs.Common.{rules}
use Rattle.rig_fixed.proofs.Root.{root_unique}
use Rattle.rig_fixed.proofs.number.isqrt.Goals as goal

pub returns-then-is_root : goal.returns-then-is_root
returns-then-is_root c = root_unique c.args.n c.root_guess-guess.result (search rules)

pub returns-then-is_root-2 : goal.returns-then-is_root-2
returns-then-is_root-2 c = root_unique c.args.n _ (search rules)

pub returns-then-is_root-3 : goal.returns-then-is_root-3
returns-then-is_root-3 c = root_unique c.args.n _ (search rules)

pub returns-else-guess-gt0 : goal.returns-else-guess-gt0
returns-else-guess-gt0 c = root_unique c.args.n c.root_by_digits.result c.root_by_digits.ensures
