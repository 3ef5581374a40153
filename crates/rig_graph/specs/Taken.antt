-- Entries of the history that a graph takes, one after the other.
use Rattle.std.specs.Prelude.{◌≡◌, ◌<◌, ◌≤◌, ◌^◌, ◌-◌, ⊤, ℕ, List, [], ◌∷◌, take, length, None}
use Rattle.rig_edits.specs.Conditions.{first_cause}
use Rattle.rig_edits.specs.declared.change.TheConstants.{MAX_NEXT}
use Rattle.rig_flush.specs.Graph.{GraphState, taken}
use Rattle.rig_originals.specs.declared.entry.Entry.{Entry}

-- An entry can be taken: its turn isn't below the version, there is a version after it, and the edit is accepted.
pub record CanTakeOne (g : GraphState) (entry : Entry) : Type 0 where
  pub later : g.version ≤ entry.turn
  pub turn : entry.turn < 2 ^ 32 - 1
  pub next : g.copy.next < MAX_NEXT
  pub accepted : first_cause g.copy entry.edit ≡ None

-- each of some entries can be taken after those before it
abbrev pub CanTake : GraphState → List Entry → Type 0
CanTake g [] = ⊤
CanTake g (entry ∷ entries) = CanTakeOne g entry × CanTake (taken g entry.edit entry.turn) entries

-- the state after some entries
abbrev pub taken_all : GraphState → List Entry → GraphState
taken_all g [] = g
taken_all g (entry ∷ entries) = taken_all (taken g entry.edit entry.turn) entries

-- some entries were taken, the first ones in order, and no other
pub record IsTakenInPart (before : GraphState) (entries : List Entry) (after : GraphState) : Type 0 where
  pub count : ℕ
  pub fewer : count < length entries
  pub state : after ≡ taken_all before (take count entries)
