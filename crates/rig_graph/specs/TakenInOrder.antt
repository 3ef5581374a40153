-- Entries that are taken one after the other.
use Rattle.std.specs.Prelude.{take}
use Rattle.std.proofs.Common.{◌≡◌, ℕ, zero, suc, ◌+◌, ◌<◌, List, [], ◌∷◌, length, get_or, refl, ap, ◌∙◌, arith}
use Rattle.rig_flush.specs.Graph.{GraphState, taken}
use Rattle.rig_graph.specs.Taken.{CanTakeOne, CanTake, taken_all}
use Rattle.rig_originals.specs.declared.entry.Entry.{Entry}

-- the next one can be taken
pub can_take_next : (g : GraphState) (entries : List Entry) (i : ℕ) (d : Entry) → CanTake g entries → i < length entries
    → CanTakeOne (taken_all g (take i entries)) (get_or entries i d)
can_take_next g [] i d can within = absurd (omega arith)
can_take_next g (entry ∷ entries) zero d can within = can.0
can_take_next g (entry ∷ entries) (suc i) d can within = can_take_next (taken g entry.edit entry.turn) entries i d can.1 (omega arith)

-- what it leads to
pub taken_next : (g : GraphState) (entries : List Entry) (i : ℕ) (d : Entry) → i < length entries
    → taken_all g (take (i + 1) entries) ≡ taken (taken_all g (take i entries)) (get_or entries i d).edit (get_or entries i d).turn
taken_next g [] i d within = absurd (omega arith)
taken_next g (entry ∷ entries) zero d within = refl
taken_next g (entry ∷ entries) (suc i) d within =
    ap (λ n. taken_all g (take n (entry ∷ entries))) {x = suc i + 1} {y = suc (i + 1)} (omega arith)
    ∙ taken_next (taken g entry.edit entry.turn) entries i d (omega arith)
