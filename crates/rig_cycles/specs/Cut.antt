-- Which reads are cut: those that would close a cycle, in their order. By walks alone, over nodes of any type.
use Rattle.std.specs.Prelude.{◌≡◌, ℕ, zero, suc, ◌&&◌, ◌||◌, List, [], ◌∷◌, ◌++◌, length, Bool, if◌then◌else◌}
use Rattle.std.specs.Bool.{Decides}
use Rattle.std.specs.List.{list_any}

-- a read of a source by a reader
pub record Arrow (A : Type 0) : Type 0 where
  pub reader : A
  pub source : A
  pub is_reference : Bool

-- what is asked of a test of two nodes: that it is true exactly where they are one
abbrev pub IsEquality : {A : Type 0} → (A → A → Bool) → Type 0
IsEquality {A} same = (a b : A) → Decides (same a b) (a ≡ b)

-- whether a walk of at most so many reads leads from one node to another, each read from its reader to its source
abbrev pub leads_within : {A : Type 0} → (A → A → Bool) → ℕ → List (Arrow A) → A → A → Bool
leads_within same zero kept start end = same start end
leads_within same (suc n) kept start end =
    same start end || list_any (λ a. same a.reader start && leads_within same n kept a.source end) kept

-- Whether a walk leads from one node to another. Where one does, one does that takes no read twice.
abbrev pub leads : {A : Type 0} → (A → A → Bool) → List (Arrow A) → A → A → Bool
leads same kept start end = leads_within same (length kept) kept start end

-- whether a read closes a cycle with kept ones: its source is its reader, or already depends on it by kept reads
abbrev pub closes_cycle : {A : Type 0} → (A → A → Bool) → List (Arrow A) → Arrow A → Bool
closes_cycle same kept read = leads same kept read.source read.reader

-- the cut ones of the reads to come, after these were kept: a read that closes a cycle is cut, and else it is kept
abbrev pub cuts_from : {A : Type 0} → (A → A → Bool) → List (Arrow A) → List (Arrow A) → List (Arrow A)
cuts_from same kept [] = []
cuts_from same kept (a ∷ rest) =
    if closes_cycle same kept a then a ∷ cuts_from same kept rest else cuts_from same (kept ++ a ∷ []) rest

-- what is kept in the end: these reads, and those of the reads to come that aren't cut
abbrev pub kept_after : {A : Type 0} → (A → A → Bool) → List (Arrow A) → List (Arrow A) → List (Arrow A)
kept_after same kept [] = kept
kept_after same kept (a ∷ rest) =
    if closes_cycle same kept a then kept_after same kept rest else kept_after same (kept ++ a ∷ []) rest
