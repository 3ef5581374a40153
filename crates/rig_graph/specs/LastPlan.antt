-- The plan of the last evaluation, and what was tagged when it was made.
use Rattle.std.specs.Prelude.{◌≡◌, ℕ, ◌+◌, ◌++◌, List, [], ◌∷◌, filter, slice_get, take, nat_eq, false, Some, IsTrue}
use Rattle.std.specs.List.{flat_map, position}
use Rattle.std.specs.Option.{option_map_or}
use Rattle.std.proofs.Common.{sym, ap, ◌∙◌}
use Rattle.std.proofs.lemmas.List.{take_more, append-nil}
use Rattle.std.proofs.lemmas.List.Concat.{flat_map-append}
use Rattle.std.proofs.lemmas.Option.{slice_get_within, get_or_from_slice_get}
use Rattle.rig_flush.specs.Reach.{is_reached}
use Rattle.rig_flush.specs.Tables.{numbers_of, plan_of}
use Rattle.rig_graph.specs.declared.last_plan.LastPlan.{LastPlan}
use Rattle.rig_links.specs.Links.{Links, kept_reads}
use Rattle.rig_links.specs.Numbers.{same_operation}
use Rattle.rig_scene.specs.declared.operation.OpId.{OpId}

-- the numbers that are reached from some, in the order of evaluation
abbrev pub reached_from : Links → List ℕ → List ℕ
reached_from links tagged = filter (is_reached nat_eq (kept_reads links.ins) tagged) links.order

-- a plan is of what some numbers reach
pub record IsPlanOf (links : Links) (tagged : List ℕ) (last : LastPlan) : Type 0 where
  pub plan : last.plan ≡ plan_of links.ins (reached_from links tagged)
  pub members : last.reached.members ≡ reached_from links tagged

-- where a plan is made, it is of its own numbers
abbrev pub IsLast : Links → LastPlan → Type 0
IsLast links last = IsTrue last.is_made → IsPlanOf links last.tagged.items last

-- no plan is that of any numbers
pub no_plan : (links : Links) (last : LastPlan) → last.is_made ≡ false → IsLast links last
no_plan links last unmade made = absurd (cc)

-- the numbers of some tags, and that of the next one
pub numbers_with_next : (ops tags : List OpId) (i : ℕ) (op : OpId) → slice_get tags i ≡ Some op →
    numbers_of ops (take i tags) ++ option_map_or (λ n. n ∷ []) (position (same_operation op) ops) [] ≡ numbers_of ops (take (i + 1) tags)
numbers_with_next ops tags i op at =
    sym (ap (flat_map number_of) (take_more tags i op (slice_get_within tags i op at) ∙ ap (λ o. take i tags ++ o ∷ []) (get_or_from_slice_get tags i op op at))
    ∙ flat_map-append number_of (take i tags) (op ∷ [])
    ∙ ap (λ l. numbers_of ops (take i tags) ++ l) (append-nil (number_of op)))
  where
    number_of : OpId → List ℕ
    number_of tag = option_map_or (λ n. n ∷ []) (position (same_operation tag) ops) []
