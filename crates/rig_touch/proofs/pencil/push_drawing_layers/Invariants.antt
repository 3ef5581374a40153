use Rattle.std.proofs.Common.{◌≡◌, ◌++◌, ℕ, List, drop, map, filter}
use Rattle.std.specs.List.{enumerate_from}
use Rattle.rig_scene.specs.declared.operation.OpId.{OpId}
use Rattle.rig_scene.specs.declared.operation.OpId.TheVariants as op
use Rattle.rig_scene.specs.declared.pencil.Layer.{Layer}
use Rattle.rig_touch.specs.Touch.{shows_drawing}
use Rattle.rig_touch.proofs.pencil.push_drawing_layers.Given as goal

abbrev pub invariant-loop-l : goal.invariant-loop-l
invariant-loop-l l =
    let shown : List (ℕ × Layer) → List OpId = λ layers. map (λ e. op.Layer l.pencil e.0) (filter (λ e. shows_drawing l.drawing e.1) layers) in
    l.ops ++ shown (enumerate_from l.l (drop l.l l.layers)) ≡ l.initial.ops ++ shown (enumerate_from 0 l.layers)
