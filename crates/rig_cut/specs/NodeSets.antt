-- Sets of nodes, in the order in which they were added.
use Rattle.std.specs.Prelude.{◌≡◌, ℕ, ◌<◌, ◌≤◌, ◌^◌, List, [], ◌∷◌, ◌++◌, length, slice_index, nat_eq, if◌then◌else◌}
use Rattle.std.specs.List.{All, list_any}

-- some of the nodes below a number
pub record Nodes : Type 0 where
  pub count : ℕ
  pub members : List ℕ

-- a node goes to the end, unless it is there
abbrev pub with_node : List ℕ → ℕ → List ℕ
with_node members node = if list_any (nat_eq node) members then members else members ++ node ∷ []

-- a list goes on as another begins
abbrev pub Begins : List ℕ → List ℕ → Type 0
Begins xs ys = (more : List ℕ) × (ys ≡ xs ++ more)

-- each member's position is its index among the members
pub record IsNodeSet (members positions : List ℕ) (capacity : ℕ) : Type 0 where
  pub at : (i : ℕ) → i < length members → slice_index positions (slice_index members i) ≡ i
  pub below : All (λ n. n < length positions) members
  pub room : length positions ≤ capacity
  pub few : length positions < 2 ^ 32
