-- Plans: operations, each after those it needs.
use Rattle.std.specs.Prelude.{ℕ, ◌+◌, List, [], ◌∷◌, ◌++◌, map, length}

-- an operation, and the positions in the plan of those it needs
pub record PlanNode : Type 0 where
  pub op : ℕ
  pub ins : List ℕ

-- the ends of a link, as positions in a plan
pub record Ends : Type 0 where
  pub source : ℕ
  pub reader : ℕ

-- the ends of all links into nodes of which the first stands at this position, node after node
abbrev pub ends_from : ℕ → List PlanNode → List Ends
ends_from position [] = []
ends_from position (node ∷ nodes) = map (λ source. record { source = source; reader = position }) node.ins ++ ends_from (position + 1) nodes

-- the ends of all links of a plan
abbrev pub ends_of : List PlanNode → List Ends
ends_of nodes = ends_from 0 nodes

abbrev pub link_count : List PlanNode → ℕ
link_count nodes = length (ends_of nodes)
