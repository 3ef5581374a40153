-- What a search along kept links has found.
use Rattle.std.specs.Prelude.{◌≡◌, ℕ, ◌<◌, ◌≤◌, List, length, slice_index, Bool, false, Contains, if◌then◌else◌}
use Rattle.std.specs.List.{fold}
use Rattle.rig_cycles.specs.Cut.{Arrow}
use Rattle.rig_cycles.specs.Walk.{Walk}
use Rattle.rig_cut.specs.NodeSets.{with_node}
use Rattle.rig_cut.specs.Graphs.{GraphEnds, IsListing, flag}

-- the source of a link is found, unless the link is cut
abbrev pub with_source : GraphEnds → List Bool → List ℕ → ℕ → List ℕ
with_source ends cuts members j = if flag cuts j then members else with_node members (slice_index ends.sources j)

abbrev pub with_sources : GraphEnds → List Bool → List ℕ → List ℕ → List ℕ
with_sources ends cuts members row = fold (with_source ends cuts) members row

-- The start is found, walks lead to all that is found, and the sources of the kept links of the first nodes are found.
pub record IsSearched (ends : GraphEnds) (cuts : List Bool) (start : ℕ) (members : List ℕ) (next : ℕ) : Type 0 where
  pub begun : Contains members start
  pub reached : (reads : List (Arrow ℕ)) → IsListing ends cuts reads → (n : ℕ) → Contains members n → Walk reads start n
  pub done : (i : ℕ) → i < next → (j : ℕ) → j < length ends.sources → flag cuts j ≡ false →
      slice_index ends.readers j ≡ slice_index members i → Contains members (slice_index ends.sources j)
  pub within : next ≤ length members
