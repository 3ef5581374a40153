-- Topological orders of nodes.
use Rattle.std.specs.Prelude.{◌≡◌, List, ◌∷◌, ◌++◌, Contains, IsPermutation}
use Rattle.rig_cycles.specs.Cut.{Arrow}

-- an order of these nodes in which the sources of each node's reads stand before the node
pub record IsTopologicalOrder {A : Type 0} (nodes : List A) (reads : List (Arrow A)) (order : List A) : Type 0 where
  pub same_nodes : IsPermutation nodes order
  pub sources_first : (before after : List A) (node : A) → order ≡ before ++ node ∷ after →
      (read : Arrow A) → Contains reads read → read.reader ≡ node → Contains before read.source
