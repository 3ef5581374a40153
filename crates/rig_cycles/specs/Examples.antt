-- Short ways to write reads in examples.
use Rattle.std.specs.Prelude.{ℕ, zero, suc, ◌+◌, max, List, [], ◌∷◌, true, false, nat_eq, if◌then◌else◌}
use Rattle.rig_cycles.specs.Cut.{Arrow}

-- a reference read, and a read that is always kept, between numbered nodes
abbrev pub reference : ℕ → ℕ → Arrow ℕ
reference reader source = record { reader = reader; source = source; is_reference = true }

abbrev pub inner : ℕ → ℕ → Arrow ℕ
inner reader source = record { reader = reader; source = source; is_reference = false }

-- 1 reads 2, and 2 reads 3
abbrev pub chain : List (Arrow ℕ)
chain = inner 1 2 ∷ inner 2 3 ∷ []

-- 1 and 2 read one another
abbrev pub two_cycle : List (Arrow ℕ)
two_cycle = reference 1 2 ∷ reference 2 1 ∷ []

-- The number of reads of the longest walk from a node, by recursion to a depth: one more than that of the source of one
-- of its reads.
abbrev pub longest_by : List (Arrow ℕ) → ℕ → (ℕ → ℕ) → ℕ
longest_by [] node get = 0
longest_by (a ∷ rest) node get = max (if nat_eq a.reader node then get a.source + 1 else 0) (longest_by rest node get)

abbrev pub longest_at : List (Arrow ℕ) → ℕ → ℕ → ℕ
longest_at reads zero node = 0
longest_at reads (suc depth) node = longest_by reads node (longest_at reads depth)
