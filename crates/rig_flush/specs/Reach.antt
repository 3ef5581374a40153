-- What is reached from tagged operations: along in-links that aren't cut, from what is needed to who needs it.
use Rattle.std.specs.Prelude.{List, filter, Bool}
use Rattle.std.specs.List.{list_any}
use Rattle.rig_cycles.specs.Cut.{Arrow, leads}
use Rattle.rig_scene.specs.declared.operation.OpId.{OpId}
use Rattle.rig_scene.specs.Operations.{operations}
use Rattle.rig_scene.specs.Scene.{SceneRecord}
use Rattle.rig_laws.specs.Kept.{kept_links}
use Rattle.rig_links.specs.Numbers.{same_operation}

-- whether reads lead from a node to one of some others, or it is one of them
abbrev pub is_reached : {A : Type 0} → (A → A → Bool) → List (Arrow A) → List A → A → Bool
is_reached same reads from node = list_any (leads same reads node) from

-- the operations of a scene that need a tagged one, themselves or through others, and the tagged ones: in the scene's order
unfoldable pub reach : SceneRecord → List OpId → List OpId
reach s tags = filter (is_reached same_operation (kept_links s) tags) (operations s)
