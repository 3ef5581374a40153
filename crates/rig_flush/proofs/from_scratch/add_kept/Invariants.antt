use Rattle.std.proofs.Common.{◌≡◌, ◌++◌, map, take, Some}
use Rattle.rig_flush.specs.ByNumber.{kept_at}
use Rattle.rig_flush.proofs.from_scratch.add_kept.Given as goal

abbrev pub invariant-loop-n : goal.invariant-loop-n
invariant-loop-n l =
    (map Some l.done.outs ≡ map Some l.initial.done.outs ++ map (kept_at l.kept) (take l.n-index l.numbers)) × (l.done.frame ≡ l.initial.done.frame)
    × (l.done.mode ≡ l.initial.done.mode) × (l.done.cuts ≡ l.initial.done.cuts)
