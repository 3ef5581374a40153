-- The number of an operation among others: where it stands, and that it stands nowhere without one.
use Rattle.std.proofs.Common.{◌≡◌, ◌≢◌, ℕ, ◌<◌, false, List, [], ◌∷◌, get_or, slice_get, position, Some, Contains, sym, ap, ◌∙◌}
use Rattle.std.specs.List.{list_any, IsDistinct}
use Rattle.std.proofs.lemmas.Bool.{false≢true}
use Rattle.std.proofs.lemmas.List.Elements.{All-weaker, All-from_recursion}
use Rattle.std.proofs.lemmas.List.Folds.{list_any_at}
use Rattle.std.proofs.lemmas.List.Quantifiers.{position-Some}
use Rattle.std.proofs.lemmas.Option.{slice_get-get_or, get_or_from_slice_get}
use Rattle.rig_scene.specs.contracts.operation.OpIdPartialEq.TheImpl.{eq-value}
use Rattle.rig_scene.specs.declared.operation.OpId.{OpId}
use Rattle.rig_scene.specs.Pairs.{NoneTwice, AllPairs-nil, AllPairs-cons}
use Rattle.rig_nodes.proofs.Same.{same-operation, operation-itself}

pub at_number : (ops : List OpId) (op : OpId) (n : ℕ) → position ((eq-value).it op) ops ≡ Some n → slice_get ops n ≡ Some op
at_number ops op n is =
    let at = position-Some ((eq-value).it op) ops n op is in
    slice_get-get_or ops n op at.0 ∙ ap Some (sym (same-operation op (get_or ops n op) at.1))

pub first_number : (ops : List OpId) (op : OpId) (n : ℕ) → position ((eq-value).it op) ops ≡ Some n → (k : ℕ) → k < n → slice_get ops k ≡ Some op → ⊥
first_number ops op n is k l at =
    let found = position-Some ((eq-value).it op) ops n op is in
    false≢true (sym (found.2 k l) ∙ ap ((eq-value).it op) (get_or_from_slice_get ops k op op at) ∙ operation-itself op)

pub no_number : (ops : List OpId) (op : OpId) → list_any ((eq-value).it op) ops ≡ false → Contains ops op → ⊥
no_number ops op none there =
    false≢true (sym none ∙ list_any_at ((eq-value).it op) ops there.0 op there.1 (ap ((eq-value).it op) there.2 ∙ operation-itself op))

-- operations of which none compares as equal to a later one
pub once : (ops : List OpId) → IsDistinct ((eq-value).it) ops → NoneTwice ops
unfolding IsDistinct
once [] d = AllPairs-nil (λ a b. a ≢ b)
once (op ∷ ops) d =
    AllPairs-cons (λ a b. a ≢ b) op ops
    (All-weaker (λ b. (eq-value).it op b ≡ false) (λ b. op ≢ b) (λ b e same. false≢true (sym e ∙ ap ((eq-value).it op) (sym same) ∙ operation-itself op)) ops
    (All-from_recursion (λ b. (eq-value).it op b ≡ false) ops d.0)) (once ops d.1)
