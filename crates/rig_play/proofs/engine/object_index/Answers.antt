use Rattle.std.proofs.Common.{position, ap, sym, ◌∙◌}
use Rattle.rig_scene.specs.Text.{same_text}
use Rattle.rig_play.specs.State.{object_index}
use Rattle.rig_play.proofs.engine.object_index.Goals as goal

pub returns-in-Object-clause-index : goal.returns-in-Object-clause-index
returns-in-Object-clause-index c =
    c.index_named.ensures.index
    ∙ ap (position (λ o. same_text o.name c.in-Object.name)) (c.as_slice.ensures ∙ ap (λ s. s.objects) c.scene.view_is)
    ∙ sym (ap (object_index c.args.scene.now) c.in-Object.is)
