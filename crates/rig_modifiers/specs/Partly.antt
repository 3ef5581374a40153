-- What is left in a list of strokes where not all could be added.
use Rattle.std.specs.Prelude.{◌≡◌, ℕ, ◌<◌, List, ◌++◌, length, take}
use Rattle.rig_scene.specs.declared.pencil.Stroke.{Stroke}

-- the old strokes, and the first few of those to add, fewer than all
pub record AddsFewer (more old new : List Stroke) : Type 0 where
  pub count : ℕ
  pub fewer : count < length more
  pub added : new ≡ old ++ take count more
