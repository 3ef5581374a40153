-- The cut reads that cut in-links stand for.
use Rattle.std.specs.Prelude.{List, [], ◌∷◌, slice_get, Option, Some, if◌then◌else◌}
use Rattle.std.specs.Option.{option_map_or}
use Rattle.std.specs.List.{flat_map, enumerate_from}
use Rattle.rig_scene.specs.declared.operation.OpId.{OpId}
use Rattle.rig_scene.specs.declared.quantity.CutRead.{CutRead}
use Rattle.rig_scene.specs.declared.quantity.Quantity.{Quantity}
use Rattle.rig_scene.specs.StandsFor.{quantity_of}
use Rattle.rig_links.specs.declared.table.In.{In}

-- the read of a source by a reader, where both are there
abbrev pub read_between : Option Quantity → Option Quantity → List CutRead
read_between (Some source) (Some reader) = record { source = source; reader = reader } ∷ []
read_between source reader = []

-- the read of an operation by another, where both stand for a quantity
abbrev pub cut_read : OpId → OpId → List CutRead
cut_read source reader = read_between (quantity_of source) (quantity_of reader)

-- the read that an in-link of an operation stands for, where it is cut
abbrev pub read_of_link : List OpId → OpId → In → List CutRead
read_of_link ops reader l = if l.cut then option_map_or (λ source. cut_read source reader) (slice_get ops l.source) [] else []

-- those of all in-links of an operation
abbrev pub reads_of_row : List OpId → OpId → List In → List CutRead
reads_of_row ops reader row = flat_map (read_of_link ops reader) row

-- those of the rows of all operations
abbrev pub reads_of_rows : List OpId → List (List In) → List CutRead
reads_of_rows ops rows = flat_map (λ e. option_map_or (λ reader. reads_of_row ops reader e.1) (slice_get ops e.0) []) (enumerate_from 0 rows)
