-- The keys of outputs in a slab, by number.
use Rattle.std.specs.Prelude.{◌≡◌, ℕ, List, slice_index_or, Option, Some, None, option_and_then, IsSome}
use Rattle.std.specs.List.{position}
use Rattle.slab.specs.Slab.{Slab, get}
use Rattle.rig_laws.specs.Output.{Output}
use Rattle.rig_links.specs.Numbers.{same_operation}
use Rattle.rig_scene.specs.declared.operation.OpId.{OpId}

-- the output under a key, where there are both
abbrev pub kept_under : Slab Output → Option ℕ → Option Output
kept_under outs key = option_and_then (get outs) key

-- no key stands at two numbers
abbrev pub NoKeyTwice : List (Option ℕ) → Type 0
NoKeyTwice keys = (m n key : ℕ) → slice_index_or keys m None ≡ Some key → slice_index_or keys n None ≡ Some key → m ≡ n

-- each key has an output, and none stands at two numbers
pub record AreHeld (outs : Slab Output) (keys : List (Option ℕ)) : Type 0 where
  pub held : (n key : ℕ) → slice_index_or keys n None ≡ Some key → IsSome (get outs key)
  pub once : NoKeyTwice keys

-- the key of an operation, where the numbers are those of a list of operations
abbrev pub key_for : List OpId → List (Option ℕ) → OpId → Option ℕ
key_for ops keys op = option_and_then (λ n. slice_index_or keys n None) (position (same_operation op) ops)
