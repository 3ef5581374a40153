-- What was evaluated of a scene, kept by the numbers of its operations, and what is taken of that at an in-link.
use Rattle.std.specs.Prelude.{◌≡◌, ◌<◌, ℕ, List, ◌∷◌, ◌++◌, length, slice_get, true, false, if◌then◌else◌, Option, Some, option_map, option_and_then, IsSome, ℤ}
use Rattle.std.specs.List.{All}
use Rattle.rig_laws.specs.Output.{Output, rest_output}
use Rattle.rig_links.specs.declared.table.In.{In}
use Rattle.rig_scene.specs.declared.modifier.Mode.{Mode}
use Rattle.rig_scene.specs.declared.operation.OpId.{OpId}
use Rattle.rig_scene.specs.Operations.{operations}
use Rattle.rig_scene.specs.Scene.{SceneRecord}
use Rattle.rig_scene.specs.StandsFor.{quantity_of}
use Rattle.rig_flush.specs.Shown.{output_of}

-- the output that is kept at a number, where there is one
abbrev pub kept_at : List (Option Output) → ℕ → Option Output
kept_at kept n = option_and_then (λ out. out) (slice_get kept n)

-- what is taken at an in-link: the rest value where it is cut, and else what is kept
abbrev pub input_from : List OpId → List (Option Output) → In → Option Output
input_from ops kept link = if link.cut then option_map rest_output (slice_get ops link.source) else kept_at kept link.source

-- an in-link at which something can be taken: its operation stands for a quantity where it is cut, and is kept where it isn't
pub record CanTake (ops : List OpId) (kept : List (Option Output)) (link : In) : Type 0 where
  pub within : link.source < length ops
  pub rest : link.cut ≡ true → IsSome (option_and_then quantity_of (slice_get ops link.source))
  pub there : link.cut ≡ false → IsSome (kept_at kept link.source)

-- at each of some numbers the output of the operation is kept, with its value from scratch
abbrev pub AreKept : SceneRecord → Mode → ℤ → List (Option Output) → List ℕ → Type 0
AreKept s mode frame kept numbers = All (λ n. slice_get kept n ≡ Some (option_map (output_of s mode frame) (slice_get (operations s) n))) numbers

-- a number is next in an order of evaluation: the outputs of those before it are kept
pub record IsNext (s : SceneRecord) (mode : Mode) (frame : ℤ) (order : List ℕ) (kept : List (Option Output)) (n : ℕ) : Type 0 where
  pub before : List ℕ
  pub after : List ℕ
  pub order_is : order ≡ before ++ n ∷ after
  pub one_each : length kept ≡ length (operations s)
  pub are_kept : AreKept s mode frame kept before
