use Rattle.rig_edits.specs.Keeps.{keeps}
use Rattle.rig_play.proofs.Steps.{plain_is_edit, stands-edit}
use Rattle.rig_play.proofs.engine.Engine.edit.Goals as goal

pub invariant_of-self : goal.invariant_of-self
invariant_of-self c =
    let e = c.self.inside in
    let edit = c.args.edit.now in
    let s = c.self.invariant in
    let accepted = c.in-Ok.ensures.accepted in
    let holds = keeps e.scene edit (plain_is_edit edit c.requires) s.is_scene accepted.0 in
    rw (c.mark.ensures, accepted.1, c.index_of-index.ensures.index)
    (stands-edit e.scene e.marks e.worlds e.last edit s c.requires holds)
