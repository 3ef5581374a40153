-- The numbers of operations, and links between them.
use Rattle.std.specs.Prelude.{◌≡◌, ℕ, ◌+◌, ◌<◌, ◌^◌, ◌==◌, ◌&&◌, List, map, Bool, true, false}
use Rattle.std.specs.List.{flat_map}
use Rattle.rig_cycles.specs.RankOrder.{index_in}
use Rattle.rig_cut.specs.declared.links.Link.{Link}
use Rattle.rig_scene.specs.declared.id.ObjectId.{ObjectId}
use Rattle.rig_scene.specs.declared.operation.OpId.{OpId}
use Rattle.rig_scene.specs.declared.operation.OpId.TheVariants.{Time, Animation, Driver, Local, World, PoseInit, Bone, PoseDone, Layer, Geometry, ModifierOp, GeometryDone}
use Rattle.rig_scene.specs.Id.{same_object, same_id}
use Rattle.rig_scene.specs.Operations.{operations}
use Rattle.rig_scene.specs.Path.{same_path}
use Rattle.rig_scene.specs.Scene.{SceneRecord}
use Rattle.rig_laws.specs.LinkArrows.{link_arrows}

-- whether two operations are the same
abbrev pub same_operation : OpId → OpId → Bool
same_operation Time Time = true
same_operation (Animation i) (Animation j) = same_id i j
same_operation (Driver i p) (Driver j q) = same_id i j && same_path p q
same_operation (Local a) (Local b) = same_object a b
same_operation (World a) (World b) = same_object a b
same_operation (PoseInit a) (PoseInit b) = same_object a b
same_operation (Bone a i) (Bone b j) = same_object a b && (i == j)
same_operation (PoseDone a) (PoseDone b) = same_object a b
same_operation (Layer p i) (Layer q j) = (p == q) && (i == j)
same_operation (Geometry a) (Geometry b) = same_object a b
same_operation (ModifierOp a i) (ModifierOp b j) = same_object a b && (i == j)
same_operation (GeometryDone a) (GeometryDone b) = same_object a b
same_operation a b = false

-- the number of an operation of a scene, and that behind the last one for any other
unfoldable pub number_of : SceneRecord → OpId → ℕ
number_of s op = index_in same_operation (operations s) op

-- The numbers of the operations of an object's pose of so many bones: the start's, behind it in order those of the bones, and behind
-- them the end's.
pub record IsPoseFrom (s : SceneRecord) (o : ObjectId) (start count : ℕ) : Type 0 where
  pub start_is : number_of s (PoseInit o) ≡ start
  pub bones_are : (b : ℕ) → b < count → number_of s (Bone o b) ≡ start + 1 + b
  pub done_is : number_of s (PoseDone o) ≡ start + 1 + count
  pub few : start + 1 + count < 2 ^ 32

-- a link between the operations of two numbers, which is never cut
abbrev pub between : ℕ → ℕ → Link
between reader source = record { source = source; reader = reader; reference = false }

-- a link to an operation from the one of a number
abbrev pub link_to : SceneRecord → ℕ → Bool → OpId → Link
link_to s reader reference op = record { source = number_of s op; reader = reader; reference = reference }

-- the links of an operation, in order
unfoldable pub numbered_links : SceneRecord → OpId → List Link
numbered_links s op = map (λ a. link_to s (number_of s op) a.is_reference a.source) (link_arrows s op)

-- the links of all operations, in order
abbrev pub all_links : SceneRecord → List Link
all_links s = flat_map (numbered_links s) (operations s)
