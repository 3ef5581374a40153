-- Evaluated copies: the outputs that are kept of a scene's operations, by number.
use Rattle.std.specs.Prelude.{ℕ, ◌-◌, List, [], ◌∷◌, ◌++◌, length, map, slice_get, slice_set}
use Rattle.std.specs.Prelude.{Option, Some, None, option_and_then, replicate}
use Rattle.std.specs.List.{position}
use Rattle.rig_cut.specs.Plan.{PlanNode}
use Rattle.rig_laws.specs.Output.{Output}
use Rattle.rig_links.specs.Numbers.{same_operation}
use Rattle.rig_scene.specs.declared.operation.OpId.{OpId}

-- the output that is kept at each number, where there is one, and for how many outputs there is room
pub record KeptOutputs : Type 0 where
  pub kept : List (Option Output)
  pub spare : ℕ

-- the output that is kept at a number, where there is one
abbrev pub kept_at : List (Option Output) → ℕ → Option Output
kept_at kept n = option_and_then (λ out. out) (slice_get kept n)

-- the output that is kept of an operation, where the numbers are those of a list of operations
abbrev pub kept_for : List OpId → List (Option Output) → OpId → Option Output
kept_for ops kept op = option_and_then (kept_at kept) (position (same_operation op) ops)

-- Outputs put one after another, each at the number of its node: what was there is replaced.
abbrev pub put_each : List (Option Output) → List PlanNode → List Output → List (Option Output)
put_each kept [] outs = kept
put_each kept (node ∷ nodes) [] = kept
put_each kept (node ∷ nodes) (out ∷ outs) = put_each (slice_set kept node.op (Some out)) nodes outs

-- the same outputs, with numbers up to a count
abbrev pub extended : List (Option Output) → ℕ → List (Option Output)
extended kept count = kept ++ replicate (count - length kept) None

-- what is kept of each operation of a new list, by its number there
abbrev pub renumbered : List OpId → List OpId → List (Option Output) → List (Option Output)
renumbered old new kept = map (kept_for old kept) new
