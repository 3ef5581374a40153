use Rattle.std.proofs.Common.{sym, ap, ◌∙◌, subst}
use Rattle.std.specs.Prelude.{IsTrue}
use Rattle.std.specs.List.{All}
use Rattle.std.proofs.lemmas.List.Elements.{All-get_or}
use Rattle.rig_laws.specs.Lists.{All-elements}
use Rattle.rig_scene.specs.Scene.{SceneRecord}
use Rattle.rig_scene.specs.WellFormed.{is_scene}
use Rattle.rig_flush.proofs.ShownOf.{FewBones, few_bones}
use Rattle.rig_flush.proofs.shown.shown_operations.Goals as goal

pub push_shown-requires : goal.push_shown-requires
push_shown-requires c =
    let is : IsTrue (is_scene c.args.scene.now) = subst (λ s. IsTrue (is_scene s)) c.scene.view_is c.scene.invariant.is_scene in
    subst FewBones (sym c.object-item.is)
    (All-get_or FewBones c.as_slice-object-items.result.now c.loop-object.object-index c.object-item.result c.loop-object-test.true
    (subst (λ objects. All FewBones objects) (sym (c.as_slice-object-items.ensures ∙ ap (λ (s : SceneRecord). s.objects) c.scene.view_is))
    (All-elements FewBones c.args.scene.now.objects (few_bones c.args.scene.now is))))
