-- Nodes in the order in which nothing that they need is pending.
use Rattle.std.specs.Prelude.{◌≡◌, ℕ, ◌<◌, ◌≤◌, ◌&&◌, List, length, take, slice_index, Bool, true, false, not, nat_eq}
use Rattle.std.specs.List.{count_by, list_any, enumerate_from}
use Rattle.rig_cut.specs.Graphs.{GraphEnds, flag}

-- whether a link is kept, and into this node
abbrev pub is_kept_into : GraphEnds → List Bool → ℕ → ℕ → Bool
is_kept_into ends cuts node j = not (flag cuts j) && nat_eq (slice_index ends.readers j) node

-- the number of kept links into a node whose sources are not among those done
abbrev pub pending_after : GraphEnds → List Bool → List ℕ → ℕ → ℕ
pending_after ends cuts done node =
    count_by (λ e. is_kept_into ends cuts node e.0 && not (list_any (nat_eq e.1) done)) (enumerate_from 0 ends.sources)

-- the members are the nodes for which nothing is pending
abbrev pub AreReady : ℕ → List ℕ → List ℕ → Type 0
AreReady nodes pending members = (n : ℕ) → n < nodes → list_any (nat_eq n) members ≡ nat_eq (slice_index pending n) 0

-- each of the first members stands behind the sources of its kept links
abbrev pub AreBehindSources : GraphEnds → List Bool → List ℕ → ℕ → Type 0
AreBehindSources ends cuts members next =
    (i : ℕ) → i < next → (j : ℕ) → j < length ends.sources → flag cuts j ≡ false →
    slice_index ends.readers j ≡ slice_index members i →
    list_any (nat_eq (slice_index ends.sources j)) (take i members) ≡ true

-- the first members are done
pub record IsReleased (ends : GraphEnds) (cuts : List Bool) (pending members : List ℕ) (next : ℕ) : Type 0 where
  pub counts : (n : ℕ) → n < ends.nodes → slice_index pending n ≡ pending_after ends cuts (take next members) n
  pub ready : AreReady ends.nodes pending members
  pub behind : AreBehindSources ends cuts members next
  pub within : next ≤ length members
