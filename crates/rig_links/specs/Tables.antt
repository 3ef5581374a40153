-- What holds of the rows of a table, and of its order.
use Rattle.std.specs.Prelude.{◌≡◌, ℕ, ◌<◌, ◌^◌, List, length, map, slice_get, slice_index, Some}
use Rattle.std.specs.List.{All, range_with_len}
use Rattle.rig_rows.specs.Rows.{joined}
use Rattle.rig_links.specs.declared.table.In.{In}
use Rattle.rig_links.specs.Links.{readers_of}

-- the place of each number in an order of all numbers below its length
pub record ArePlaces (order places : List ℕ) : Type 0 where
  pub count : length places ≡ length order
  pub at : (n : ℕ) → n < length order → slice_get order (slice_index places n) ≡ Some n

-- the rows of in-links, and those of the readers that follow from them, an order of their numbers, and the places in it
pub record IsTable (ins : List (List In)) (readers : List (List ℕ)) (order places : List ℕ) : Type 0 where
  pub readers_are : readers ≡ map (λ n. readers_of n ins) (range_with_len 0 (length ins))
  pub sources_within : All (λ row. All (λ l. l.source < length ins) row) ins
  pub few : length (joined ins) < 2 ^ 32
  pub one_each : length order ≡ length ins
  pub places_are : ArePlaces order places
