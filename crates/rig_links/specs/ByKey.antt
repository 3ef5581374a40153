-- Links in rows: the in-links of each reader, and the readers of each source.
use Rattle.std.specs.Prelude.{ℕ, ◌==◌, List, map, filter, not}
use Rattle.std.specs.List.{range_with_len}
use Rattle.rig_cut.specs.declared.links.Link.{Link}
use Rattle.rig_cut.specs.Links.{is_cut}
use Rattle.rig_links.specs.declared.table.In.{In}

-- a link among all as an in-link of its reader
abbrev pub in_of : List Link → Link → In
in_of links l = record { source = l.source; cut = is_cut links l }

-- the links of one reader, in order
abbrev pub links_by : List Link → ℕ → List Link
links_by links n = filter (λ l. l.reader == n) links

-- a row for each number: the in-links of the reader of that number
abbrev pub in_rows : List Link → ℕ → List (List In)
in_rows links count = map (λ n. map (in_of links) (links_by links n)) (range_with_len 0 count)

-- the links that aren't cut
abbrev pub uncut : List Link → List Link
uncut links = filter (λ l. not (is_cut links l)) links

-- a row for each number: the readers of the source of that number, by links that aren't cut
abbrev pub reader_rows : List Link → ℕ → List (List ℕ)
reader_rows links count = map (λ n. map (λ l. l.reader) (filter (λ l. l.source == n) (uncut links))) (range_with_len 0 count)
