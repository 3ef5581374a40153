-- What is kept of each operation after its number changed.
use Rattle.std.specs.Prelude.{slice_get, Contains, option_map, option_and_then}
use Rattle.std.specs.List.{position}
use Rattle.std.proofs.Common.{◌≡◌, ℕ, ◌<◌, List, map, get_or, Option, Some, None, refl, sym, ap, ◌∙◌, arith}
use Rattle.std.proofs.lemmas.Option.{slice_get-map, slice_get-get_or}
use Rattle.rig_laws.specs.Output.{Output}
use Rattle.rig_links.specs.Numbers.{same_operation}
use Rattle.rig_scene.specs.declared.operation.OpId.{OpId}
use Rattle.rig_scene.specs.Pairs.{NoneTwice}
use Rattle.rig_copies.specs.Copies.{kept_at, kept_for, renumbered}
use Rattle.rig_copies.specs.Numbers.{number_once, number_none}

-- the number of an operation that is listed
number_of_listed : (ops : List OpId) → NoneTwice ops → (op : OpId) (listed : Contains ops op) → position (same_operation op) ops ≡ Some listed.0
number_of_listed ops once op listed =
    number_once ops once op listed.0 (slice_get-get_or ops listed.0 op listed.1 ∙ ap Some listed.2)

-- what is kept of an operation of the new list is what was kept of it by the old
pub moved_for : (old new : List OpId) (kept : List (Option Output)) → NoneTwice new → (op : OpId) → Contains new op → kept_for new (renumbered old new kept) op ≡ kept_for old kept op
moved_for old new kept once op listed =
    ap (λ o. option_and_then (kept_at (renumbered old new kept)) o) (number_of_listed new once op listed)
    ∙ ap (λ o. option_and_then (λ out. out) o) (slice_get-map (kept_for old kept) new listed.0
    ∙ ap (λ o. option_map (kept_for old kept) o) (slice_get-get_or new listed.0 op listed.1 ∙ ap Some listed.2))

-- nothing is kept of an operation that a list hasn't
pub none_for : (ops : List OpId) (kept : List (Option Output)) (op : OpId) → (Contains ops op → ⊥) → kept_for ops kept op ≡ None
none_for ops kept op absent = ap (λ o. option_and_then (kept_at kept) o) (number_none ops op absent)
