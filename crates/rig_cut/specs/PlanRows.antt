-- Plans as their operations, and as the rows of their in-links.
use Rattle.std.specs.Prelude.{◌≡◌, ℕ, ◌<◌, ◌≤◌, ◌^◌, List, [], ◌∷◌, length, slice_index_or}
use Rattle.std.specs.List.{All}
use Rattle.rig_rows.specs.Rows.{joined}
use Rattle.rig_cut.specs.declared.plan.TheConstants.{MAX_NODES}
use Rattle.rig_cut.specs.Plan.{PlanNode}

-- the nodes of which these are the operations and the in-links
abbrev pub nodes_of : List ℕ → List (List ℕ) → List PlanNode
nodes_of [] rows = []
nodes_of (op ∷ ops) [] = []
nodes_of (op ∷ ops) (row ∷ rows) = record { op = op; ins = row } ∷ nodes_of ops rows

-- each operation has its in-links, which are of earlier ones
pub record ArePlanned (ops : List ℕ) (rows : List (List ℕ)) : Type 0 where
  pub same_length : length rows ≡ length ops
  pub few_nodes : length ops ≤ MAX_NODES
  pub few_links : length (joined rows) < 2 ^ 32
  pub earlier : (i : ℕ) → i < length rows → All (λ j. j < i) (slice_index_or rows i [])
