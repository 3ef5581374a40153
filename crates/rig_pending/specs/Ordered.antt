-- Traces in which each operation runs once, after all that it needs.
use Rattle.std.specs.Prelude.{◌≡◌, ℕ, List, ◌∷◌, ◌++◌, Contains}
use Rattle.rig_pending.specs.declared.mark.Mark.{Mark}
use Rattle.rig_pending.specs.declared.mark.Mark.TheVariants.{Start, Finish}

-- the operation of a mark
abbrev pub operation : Mark → ℕ
operation (Start n) = n
operation (Finish n) = n

-- a mark stands at one place of a trace
pub record StandsOnce (trace : List Mark) (mark : Mark) : Type 0 where
  pub before : List Mark
  pub after : List Mark
  pub trace_is : trace ≡ before ++ mark ∷ after
  pub not_before : Contains before mark → ⊥
  pub not_after : Contains after mark → ⊥

-- a mark stands before another
pub record StandsBefore (trace : List Mark) (first second : Mark) : Type 0 where
  pub before : List Mark
  pub between : List Mark
  pub after : List Mark
  pub trace_is : trace ≡ before ++ first ∷ (between ++ second ∷ after)

-- Each of some operations starts once and finishes once, behind its start, and no other has a mark. What one of them needs of them
-- has finished before it starts.
pub record IsOrdered (needs : ℕ → ℕ → Type 0) (ops : List ℕ) (trace : List Mark) : Type 0 where
  pub starts : (n : ℕ) → Contains ops n → StandsOnce trace (Start n)
  pub finishes : (n : ℕ) → Contains ops n → StandsOnce trace (Finish n)
  pub others : (mark : Mark) → Contains trace mark → Contains ops (operation mark)
  pub runs : (n : ℕ) → Contains ops n → StandsBefore trace (Start n) (Finish n)
  pub sources : (n source : ℕ) → Contains ops n → Contains ops source → needs n source → StandsBefore trace (Finish source) (Start n)
