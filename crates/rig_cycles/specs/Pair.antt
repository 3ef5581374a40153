-- Whether a reference read is cut: as its test finds it, and as its source and reader among the cuts tell it.
use Rattle.std.specs.Prelude.{◌&&◌, List, Bool}
use Rattle.std.specs.List.{list_any}
use Rattle.rig_cycles.specs.Cut.{Arrow, closes_cycle, cuts_from, kept_after}

-- whether a read is cut when it is tested, after these were kept and those before it were tested
abbrev pub is_cut_at : {A : Type 0} → (A → A → Bool) → List (Arrow A) → List (Arrow A) → Arrow A → Bool
is_cut_at same kept before read = closes_cycle same (kept_after same kept before) read

-- whether a read of this one's source by its reader is among these
abbrev pub has_pair : {A : Type 0} → (A → A → Bool) → List (Arrow A) → Arrow A → Bool
has_pair same reads read = list_any (λ a. same a.source read.source && same a.reader read.reader) reads

-- whether a read of this one's source by its reader is among the cuts of the reads to come
abbrev pub is_pair_cut : {A : Type 0} → (A → A → Bool) → List (Arrow A) → List (Arrow A) → Arrow A → Bool
is_pair_cut same kept rest read = has_pair same (cuts_from same kept rest) read
