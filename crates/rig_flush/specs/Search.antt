-- What a search from sources to their readers has found, and what is asked of a list of numbers that becomes a plan.
use Rattle.std.specs.Prelude.{◌≡◌, ℕ, ◌<◌, ◌≤◌, List, [], length, slice_index, slice_index_or, slice_get, Contains}
use Rattle.std.specs.Option.{option_map_or}
use Rattle.std.specs.List.{All, fold, sum_by}
use Rattle.rig_cycles.specs.Cut.{Arrow}
use Rattle.rig_cycles.specs.Walk.{Walk}
use Rattle.rig_cut.specs.Plan.{PlanNode}
use Rattle.rig_cut.specs.declared.plan.TheConstants.{MAX_NODES}
use Rattle.rig_cut.specs.NodeSets.{with_node}
use Rattle.rig_rows.specs.Rows.{joined}
use Rattle.rig_links.specs.declared.table.In.{In}
use Rattle.rig_links.specs.Links.{kept_reads}
use Rattle.rig_flush.specs.Tables.{places_in}

-- nodes after others
abbrev pub with_nodes : List ℕ → List ℕ → List ℕ
with_nodes members nodes = fold with_node members nodes

-- The start is found, walks lead from all that is found to the start, and the readers of the first nodes are found.
pub record IsSpread (rows : List (List In)) (start members : List ℕ) (next : ℕ) : Type 0 where
  pub begun : (n : ℕ) → Contains start n → Contains members n
  pub reached : (n : ℕ) → Contains members n → (t : ℕ) × Contains start t × Walk (kept_reads rows) n t
  pub done : (i : ℕ) → i < next → (read : Arrow ℕ) → Contains (kept_reads rows) read → read.source ≡ slice_index members i → Contains members read.reader
  pub within : next ≤ length members

-- the in-links of a number
abbrev pub row_of : List (List In) → ℕ → List In
row_of rows n = slice_index_or rows n []

-- the node of a plan for one of its numbers
abbrev pub node_of : List (List In) → List ℕ → ℕ → PlanNode
node_of rows plan n = record { op = n; ins = option_map_or (places_in plan) (slice_get rows n) [] }

-- few enough numbers, each behind those that it needs, with at most all in-links
pub record IsPlannable (rows : List (List In)) (plan : List ℕ) : Type 0 where
  pub room : length plan ≤ MAX_NODES
  pub within : All (λ n. n < length rows) plan
  pub earlier : (i : ℕ) → i < length plan → All (λ j. j < i) (places_in plan (row_of rows (slice_index plan i)))
  pub few : sum_by (λ n. length (row_of rows n)) plan ≤ length (joined rows)
