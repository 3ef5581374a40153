use Rattle.std.proofs.Common.{◌≡◌, ◌<◌, List, [], ◌∷◌, ◌++◌, length, ap, sym, subst, ◌∙◌}
use Rattle.std.specs.Prelude.{IsTrue, OnOk, if◌then◌else◌}
use Rattle.std.specs.List.{All}
use Rattle.rig_scene.specs.declared.driver.Driver.{Driver}
use Rattle.rig_scene.specs.declared.id.AnimId.TheVariants as anim
use Rattle.rig_scene.specs.declared.operation.OpId.{OpId}
use Rattle.rig_scene.specs.declared.operation.OpId.TheVariants.{Animation}
use Rattle.rig_scene.specs.Scene.{SceneRecord}
use Rattle.rig_scene.specs.WellFormed.{is_scene}
use Rattle.rig_nodes.specs.DriverRows.{indices_within}
use Rattle.rig_nodes.proofs.Fits.{few_bones, few_modifiers}
use Rattle.rig_nodes.proofs.Pushed.{channels_pushed, object_animation, object_pushed}
use Rattle.rig_nodes.proofs.list.push_object.Goals as goal

pub push_drivers-requires : goal.push_drivers-requires
push_drivers-requires c =
    subst (λ (drivers : List Driver). All (λ i. i < length drivers) c.args.row.now) (sym (c.as_slice.ensures ∙ ap (λ (s : SceneRecord). s.drivers) c.scene.view_is))
    (subst (λ row. All (λ i. i < length c.args.scene.now.drivers) row) (sym c.requires.row) (indices_within c.args.scene.now (anim.Object c.args.object.now.id)))

pub push_kind-requires-clause-bones : goal.push_kind-requires-clause-bones
push_kind-requires-clause-bones c =
    few_bones c.args.scene.now (subst (λ s. IsTrue (is_scene s)) c.scene.view_is c.scene.invariant.is_scene) c.args.object.now c.requires.object

pub push_kind-requires-clause-modifiers : goal.push_kind-requires-clause-modifiers
push_kind-requires-clause-modifiers c =
    few_modifiers c.args.scene.now (subst (λ s. IsTrue (is_scene s)) c.scene.view_is c.scene.invariant.is_scene) c.args.object.now c.requires.object

pub returns : goal.returns
returns c =
    subst (λ (l : List OpId). OnOk c.push_kind.result (c.push_kind.new.ops.items ≡ l))
    (object_pushed c.args.scene.now c.args.object.now c.requires.object c.args.ops.now.items c.push_drivers.new.ops.items c.push.new.self.items c.push-2.new.self.items
    (channels_pushed c.args.scene.now (anim.Object c.args.object.now.id) c.args.row.now c.requires.row c.as_slice.result.now (c.as_slice.ensures ∙ ap (λ (s : SceneRecord). s.drivers) c.scene.view_is)
    c.args.ops.now.items c.push_animation.new.ops.items c.push_drivers.new.ops.items
    (subst (λ (l : List OpId). c.push_animation.new.ops.items ≡ c.args.ops.now.items ++ l) (object_animation c.args.scene.now c.args.object.now c.requires.object)
    (subst (λ b. c.push_animation.new.ops.items ≡ c.args.ops.now.items ++ (if b then Animation (anim.Object c.args.object.now.id) ∷ [] else [])) c.is_some.ensures c.in_ok-push_animation.ensures))
    c.in_ok-push_drivers.ensures)
    c.in_ok-push.ensures.items c.in_ok-push-2.ensures.items)
    c.push_kind.ensures
