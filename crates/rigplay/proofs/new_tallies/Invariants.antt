use Rattle.std.proofs.Common.{◌≡◌, ◌^◌, ◌≤◌, vec_len}
use Rattle.std.specs.Prelude.{All}
use Rattle.rigplay.proofs.new_tallies.Given as goal

-- each count so far is 0, and so far from its end
abbrev pub invariant-loop-i : goal.invariant-loop-i
invariant-loop-i l = record {
  many : vec_len l.tallies ≡ l._i;
  room : All (λ t. t.ticks ≤ 2 ^ 61) l.tallies.items;
  zero : All (λ t. t.ticks ≡ 0) l.tallies.items;
}
