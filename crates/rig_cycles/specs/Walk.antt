-- Walks along reads, and what it is for reads to make no cycle.
use Rattle.std.specs.Prelude.{ℕ, ◌<◌, List, Contains}
use Rattle.rig_cycles.specs.Cut.{Arrow}

-- Reads of a list in a row, each from its reader to its source, where the next one begins. A node leads to itself by
-- none.
pub data Walk {A : Type 0} (reads : List (Arrow A)) : A → A → Type 0 where
  none : {node : A} → Walk reads node node
  first : (read : Arrow A) → Contains reads read → {end : A} → Walk reads read.source end → Walk reads read.reader end

-- no walk leads from the source of a read back to its reader
abbrev pub IsAcyclic : {A : Type 0} → List (Arrow A) → Type 0
IsAcyclic {A} reads = (read : Arrow A) → Contains reads read → Walk reads read.source read.reader → ⊥

-- a rank falls along each of the reads, from its reader to its source
abbrev pub IsRank : {A : Type 0} → (A → ℕ) → List (Arrow A) → Type 0
IsRank {A} rank reads = (read : Arrow A) → Contains reads read → rank read.source < rank read.reader

-- each read of one list is a read of another
abbrev pub IsPart : {A : Type 0} → List (Arrow A) → List (Arrow A) → Type 0
IsPart {A} part whole = (read : Arrow A) → Contains part read → Contains whole read

-- the reads are by these nodes and of these nodes
abbrev pub AreReadsOf : {A : Type 0} → List A → List (Arrow A) → Type 0
AreReadsOf {A} nodes reads = (read : Arrow A) → Contains reads read → Contains nodes read.reader × Contains nodes read.source
