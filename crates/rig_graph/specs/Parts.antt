-- What the parts of a graph have to do with one another.
use Rattle.std.specs.Prelude.{◌≡◌, ℕ, ◌<◌, List, [], ◌∷◌, length, map, filter, slice_get, slice_set, nat_eq, Bool, true, false, if◌then◌else◌, Option, Some, option_map, IfSome, IsTrue, Contains, ℤ}
use Rattle.std.specs.List.{All, position, range_with_len}
use Rattle.std.specs.Option.{option_map_or}
use Rattle.rig_copies.specs.Copies.{kept_at}
use Rattle.rig_flush.specs.Shown.{output_of, shown_operations}
use Rattle.rig_flush.specs.Tables.{AreTablesOf}
use Rattle.rig_graph.specs.declared.frame.Change.{Change}
use Rattle.rig_graph.specs.declared.scene_copy.SceneCopy.{SceneCopy}
use Rattle.rig_kernel.specs.declared.done.Done.{Done}
use Rattle.rig_kernel.specs.Tables.{table_parts}
use Rattle.rig_kernel.specs.Tables.{AreTables as AreSceneTables}
use Rattle.rig_laws.specs.Output.{Output, rest_output}
use Rattle.rig_links.specs.declared.table.In.{In}
use Rattle.rig_scene.specs.Cut.{cuts}
use Rattle.rig_scene.specs.declared.modifier.Mode.{Mode}
use Rattle.rig_scene.specs.declared.operation.OpId.{OpId}
use Rattle.rig_scene.specs.Operations.{operations}
use Rattle.rig_scene.specs.Scene.{SceneRecord}
use Rattle.rig_scene.specs.WellFormed.{is_scene}
use Rattle.rig_graph.specs.State.{GraphRecord, tags_of, published_of}

-- ---- a scene with its tables

-- at the source of each cut in-link there is the rest value of its operation
abbrev pub AreRests : List OpId → List (List In) → List (Option Output) → Type 0
AreRests ops rows rests = (n : ℕ) (row : List In) → slice_get rows n ≡ Some row → (l : In) → Contains row l → l.cut ≡ true →
    kept_at rests l.source ≡ option_map rest_output (slice_get ops l.source)

-- the tables are those of the scene
pub record IsCopy (c : SceneCopy) : Type 0 where
  pub met : IsTrue (is_scene c.scene)
  pub tables : AreTablesOf c.scene c.nodes c.links
  pub looked_up : AreSceneTables c.tables (table_parts c.scene)
  pub shown_count : c.shown.count ≡ length c.nodes
  pub shown : map (slice_get c.nodes) c.shown.members ≡ map Some (shown_operations c.scene)
  pub rests : AreRests c.nodes c.links.ins c.rests.items

-- ---- what an operation takes while a plan runs

-- What there is of a number while the operations of some numbers run in order: the result of one that ran, nothing of one that has not run
-- yet, and what is kept of one that doesn't run.
abbrev pub given_at : List ℕ → List Output → List (Option Output) → ℕ → Option Output
given_at numbers results kept n = option_map_or (slice_get results) (position (nat_eq n) numbers) (kept_at kept n)

-- what is taken at an in-link
abbrev pub input_at : List (Option Output) → List ℕ → List Output → List (Option Output) → In → Option Output
input_at rests numbers results kept link = if link.cut then kept_at rests link.source else given_at numbers results kept link.source

-- what there is of each of so many numbers
abbrev pub given : ℕ → List ℕ → List Output → List (Option Output) → List (Option Output)
given count numbers results kept = map (given_at numbers results kept) (range_with_len 0 count)

-- the output from scratch of the operation of a number
abbrev pub output_at_number : SceneRecord → Mode → ℤ → ℕ → Option Output
output_at_number s mode frame n = option_map (output_of s mode frame) (slice_get (operations s) n)

-- The numbers that run are those of an order of evaluation that pass a test, and what is kept of each other number is from scratch.
pub record IsPlanned (s : SceneRecord) (mode : Mode) (frame : ℤ) (order numbers : List ℕ) (kept : List (Option Output)) : Type 0 where
  pub runs : ℕ → Bool
  pub numbers_are : numbers ≡ filter runs order
  pub others : (n : ℕ) → n < length (operations s) → runs n ≡ false → kept_at kept n ≡ output_at_number s mode frame n

-- ---- what is kept

-- what is kept at a number is of its operation, and no rest value
pub record IsOutputOf (ops : List OpId) (n : ℕ) (out : Output) : Type 0 where
  pub op : slice_get ops n ≡ Some out.op
  pub no_rest : out.is_rest ≡ false

abbrev pub AreOutputs : List OpId → List (Option Output) → Type 0
AreOutputs ops kept = (n : ℕ) (out : Output) → kept_at kept n ≡ Some out → IsOutputOf ops n out

-- ---- the frame that is shown

-- a frame has what is kept of some numbers
abbrev pub ShowsKept : List ℕ → List (Option Output) → List Output → Type 0
ShowsKept shown kept outputs = map Some outputs ≡ map (kept_at kept) shown

-- the results that a frame shows, each with its place in the frame
abbrev pub changes_of : List ℕ → List ℕ → List Output → List Change
changes_of shown [] results = []
changes_of shown (n ∷ numbers) [] = []
changes_of shown (n ∷ numbers) (out ∷ results) =
    option_map_or (λ place. record { place = place; out = out } ∷ changes_of shown numbers results) (position (nat_eq n) shown) (changes_of shown numbers results)

-- outputs with changes in their places
abbrev pub changed : List Output → List Change → List Output
changed outputs [] = outputs
changed outputs (change ∷ changes) = changed (slice_set outputs change.place change.out) changes

-- ---- a graph

-- a published frame that fits shows what is kept, and the cuts of the copy
pub record Fits (c : SceneCopy) (kept : List (Option Output)) (published : Option Done) : Type 0 where
  pub done : Done
  pub is : published ≡ Some done
  pub outs : ShowsKept c.shown.members kept done.outs
  pub cuts : done.cuts ≡ cuts c.scene

-- what a graph is seen as, by its parts
abbrev pub record_of : Mode → ℕ → SceneCopy → List OpId → List (Option Output) → Option Done → GraphRecord
record_of mode version c tags kept published = record {
  mode = mode;
  version = version;
  copy = c.scene;
  tags = tags_of c.scene tags;
  kept = kept;
  published = option_map published_of published;
}

-- what the parts of a graph promise
pub record AreParts (mode : Mode) (c : SceneCopy) (tags : List OpId) (kept : List (Option Output)) (count : ℕ) (published : Option Done) (fits : Bool) : Type 0 where
  pub copy : IsCopy c
  pub there : All (Contains c.nodes) tags
  pub outputs : AreOutputs c.nodes kept
  pub one_each : length kept ≡ length c.nodes
  pub counted : count ≡ length c.nodes
  pub of_mode : IfSome published (λ d. d.mode ≡ mode)
  pub fitting : IsTrue fits → Fits c kept published
