use Rattle.std.proofs.Common.{ap, ◌∙◌, sym, length}
use Rattle.rig_scene.specs.Operations.{operations}
use Rattle.rig_play.proofs.PlainOperations.{operations_count}
use Rattle.rig_play.proofs.engine.Engine.operation_count.Goals as goal

pub returns : goal.returns
returns c =
    let e = c.self.inside in
    let s = c.self.invariant in
    c.count_operations.ensures ∙ sym (operations_count e.scene s.is_scene s.plain) ∙ ap (λ p. length (operations p.scene)) c.self.view_is
