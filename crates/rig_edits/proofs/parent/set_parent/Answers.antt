use Rattle.std.proofs.Common.{◌∙◌, refl, sym, subst}
use Rattle.rig_edits.proofs.KeyCounts.{still_counted}
use Rattle.rig_edits.proofs.ParentFacts.{IsParent, parent_kept}
use Rattle.rig_edits.proofs.parent.set_parent.Goals as goal
use Rattle.rig_edits.proofs.parent.set_parent.Goals.{in-None, in-Some+in_ok-parent_of-in-Some}

pub invariant_of-scene : goal.invariant_of-scene
invariant_of-scene c =
    let is_parent : IsParent c.args.scene.now c.args.parent.now c.match-parent.parent =
    elim c.match-parent.branch [
      | in-None w ↦ subst (λ new. IsParent c.args.scene.now new c.match-parent.parent) (sym w.in-None.is) w.parent-is
      | in-Some+in_ok-parent_of-in-Some w ↦
          let found = w.in_ok-parent_of-in-Some.ensures in
          subst (λ new. IsParent c.args.scene.now new c.match-parent.parent) (sym w.in-Some.is) (found.0, found.1 ∙ sym w.parent-is)
    ] in
    rw c.carry.ensures (still_counted _ _ _ _ c.scene.invariant
    (parent_kept _ c.args.scene.now c.scene.view_is c.scene.invariant.is_scene c.args.object.now c.in_ok-object.object c.in_ok-object.ensures
    c.args.parent.now c.match-parent.parent is_parent) refl refl)
