-- The text of `check` for a scene.
use Rattle.std.specs.Prelude.{ℕ, List, length}
use Rattle.std.specs.List.{flat_map}
use Rattle.rig_scene.specs.Cut.{cuts}
use Rattle.rig_scene.specs.Operations.{ins, operations}
use Rattle.rig_scene.specs.Scene.{SceneRecord}
use Rattle.rig_text.specs.Check.{check_lines}

-- How many objects, operations, links and cut reads a scene has, and its cut reads. The links are the in-links of all operations,
-- cut ones among them.
unfoldable pub check_text_of : SceneRecord → List ℕ
check_text_of scene = check_lines scene (length (operations scene)) (length (flat_map (ins scene) (operations scene))) (cuts scene)
