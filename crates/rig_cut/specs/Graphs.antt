-- Links by their indices.
use Rattle.std.specs.Prelude.{◌≡◌, ℕ, ◌<◌, ◌^◌, List, map, length, slice_index, slice_index_or, Bool, false, Contains}
use Rattle.std.specs.List.{All}
use Rattle.rig_cycles.specs.Cut.{Arrow}
use Rattle.rig_rows.specs.Rows.{grouped}
use Rattle.rig_cut.specs.declared.links.Link.{Link}

-- the number of nodes, and the source and the reader of each link
pub record GraphEnds : Type 0 where
  pub nodes : ℕ
  pub sources : List ℕ
  pub readers : List ℕ

abbrev pub ends_of_links : ℕ → List Link → GraphEnds
ends_of_links nodes links = record { nodes = nodes; sources = map (λ l. l.source) links; readers = map (λ l. l.reader) links }

-- all ends are nodes, and the rows are the links by their readers and by their sources
pub record IsGraph (sources readers : List ℕ) (rows outs : List (List ℕ)) : Type 0 where
  pub rows_are : rows ≡ grouped (length rows) readers
  pub outs_are : outs ≡ grouped (length rows) sources
  pub same_length : length readers ≡ length sources
  pub sources_below : All (λ n. n < length rows) sources
  pub readers_below : All (λ n. n < length rows) readers
  pub few_nodes : length rows < 2 ^ 32
  pub few_links : length sources < 2 ^ 32

-- whether a link is cut
abbrev pub flag : List Bool → ℕ → Bool
flag cuts j = slice_index_or cuts j false

-- the reads are those of the links that aren't cut
pub record IsListing (ends : GraphEnds) (cuts : List Bool) (reads : List (Arrow ℕ)) : Type 0 where
  pub of : (read : Arrow ℕ) → Contains reads read →
      (j : ℕ) × (j < length ends.sources) × (flag cuts j ≡ false) × (slice_index ends.sources j ≡ read.source) × (slice_index ends.readers j ≡ read.reader)
  pub has : (j : ℕ) → j < length ends.sources → flag cuts j ≡ false →
      (read : Arrow ℕ) × Contains reads read × (read.source ≡ slice_index ends.sources j) × (read.reader ≡ slice_index ends.readers j)
