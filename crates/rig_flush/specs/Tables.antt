-- The tables of a scene, and what is reached in them by number.
use Rattle.std.specs.Prelude.{◌≡◌, ℕ, ◌≤◌, List, [], ◌∷◌, length, map, filter, slice_get, nat_eq, if◌then◌else◌}
use Rattle.std.specs.Option.{option_map_or}
use Rattle.std.specs.List.{flat_map, position, range_with_len}
use Rattle.rig_cut.specs.Plan.{PlanNode}
use Rattle.rig_cut.specs.declared.plan.TheConstants.{MAX_NODES}
use Rattle.rig_cycles.specs.Order.{IsTopologicalOrder}
use Rattle.rig_links.specs.declared.table.In.{In}
use Rattle.rig_links.specs.Links.{Links, AreInsOf, kept_reads}
use Rattle.rig_links.specs.Numbers.{same_operation}
use Rattle.rig_scene.specs.declared.operation.OpId.{OpId}
use Rattle.rig_scene.specs.Operations.{operations}
use Rattle.rig_scene.specs.Scene.{SceneRecord}
use Rattle.rig_flush.specs.Reach.{is_reached}

-- operations and links that fit together: as many rows of in-links as operations, and an order of evaluation
pub record AreTables (ops : List OpId) (links : Links) : Type 0 where
  pub rows : length links.ins ≡ length ops
  pub few : length ops ≤ MAX_NODES
  pub order : IsTopologicalOrder (range_with_len 0 (length ops)) (kept_reads links.ins) links.order

-- the tables of a scene
pub record AreTablesOf (s : SceneRecord) (ops : List OpId) (links : Links) : Type 0 where
  pub same : ops ≡ operations s
  pub ins : AreInsOf s links.ins
  pub fit : AreTables ops links

-- the numbers of those of some operations that are listed
abbrev pub numbers_of : List OpId → List OpId → List ℕ
numbers_of ops tags = flat_map (λ tag. option_map_or (λ n. n ∷ []) (position (same_operation tag) ops) []) tags

-- the numbers that are reached from those of tags, in the order of evaluation
abbrev pub reached_numbers : List OpId → Links → List OpId → List ℕ
reached_numbers ops links tags = filter (is_reached nat_eq (kept_reads links.ins) (numbers_of ops tags)) links.order

-- the in-links of an operation in a plan of numbers: its uncut ones from operations of the plan, as positions in it
abbrev pub places_in : List ℕ → List In → List ℕ
places_in plan row = flat_map (λ l. if l.cut then [] else option_map_or (λ i. i ∷ []) (position (nat_eq l.source) plan) []) row

abbrev pub plan_of : List (List In) → List ℕ → List PlanNode
plan_of rows plan = map (λ n. record { op = n; ins = option_map_or (places_in plan) (slice_get rows n) [] }) plan

-- the operations of numbers
abbrev pub operations_at : List OpId → List ℕ → List OpId
operations_at ops numbers = flat_map (λ n. option_map_or (λ op. op ∷ []) (slice_get ops n) []) numbers
