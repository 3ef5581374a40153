-- The index of an operation among others: where it stands, and that it stands nowhere without one.
use Rattle.std.proofs.Common.{◌≡◌, ℕ, false, List, get_or, slice_get, position, Some, Contains, sym, ap, ◌∙◌}
use Rattle.std.specs.List.{list_any}
use Rattle.std.proofs.lemmas.Bool.{false≢true}
use Rattle.std.proofs.lemmas.List.Folds.{list_any_at}
use Rattle.std.proofs.lemmas.List.Quantifiers.{position-Some}
use Rattle.std.proofs.lemmas.Option.{slice_get-get_or}
use Rattle.rig_scene.specs.contracts.operation.OpIdPartialEq.TheImpl.{eq-value}
use Rattle.rig_scene.specs.declared.operation.OpId.{OpId}
use Rattle.rig_kernel.proofs.SameOperation.{same-operation, operation-itself}

pub at_number : (ops : List OpId) (op : OpId) (n : ℕ) → position ((eq-value).it op) ops ≡ Some n → slice_get ops n ≡ Some op
at_number ops op n is =
    let at = position-Some ((eq-value).it op) ops n op is in
    slice_get-get_or ops n op at.0 ∙ ap Some (sym (same-operation op (get_or ops n op) at.1))

pub no_number : (ops : List OpId) (op : OpId) → list_any ((eq-value).it op) ops ≡ false → Contains ops op → ⊥
no_number ops op none there =
    false≢true (sym none ∙ list_any_at ((eq-value).it op) ops there.0 op there.1 (ap ((eq-value).it op) there.2 ∙ operation-itself op))
