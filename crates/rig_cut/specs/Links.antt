-- Links of a graph between numbered nodes, and which of them are cut.
use Rattle.std.specs.Prelude.{ℕ, ◌&&◌, List, map, filter, Bool, not, nat_eq}
use Rattle.rig_cycles.specs.Cut.{Arrow}
use Rattle.rig_cycles.specs.Pair.{is_pair_cut}
use Rattle.rig_cut.specs.declared.links.Link.{Link}

-- a link as a read of its source by its reader
abbrev pub arrow_of : Link → Arrow ℕ
arrow_of l = record { reader = l.reader; source = l.source; is_reference = l.reference }

-- the reads of the links that are always kept, and of those that are tested
abbrev pub inner_of : List Link → List (Arrow ℕ)
inner_of links = filter (λ a. not a.is_reference) (map arrow_of links)

abbrev pub references_of : List Link → List (Arrow ℕ)
references_of links = filter (λ a. a.is_reference) (map arrow_of links)

-- whether a link is cut: a reference that is among the cuts
abbrev pub is_cut : List Link → Link → Bool
is_cut links l = l.reference && is_pair_cut nat_eq (inner_of links) (references_of links) (arrow_of l)

-- the reads of the links that aren't cut
abbrev pub kept_of : List Link → List (Arrow ℕ)
kept_of links = map arrow_of (filter (λ l. not (is_cut links l)) links)
