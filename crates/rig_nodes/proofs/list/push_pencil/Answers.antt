use Rattle.std.proofs.Common.{◌≡◌, ◌<◌, List, [], ◌∷◌, ◌++◌, length, ap, sym, subst, ◌∙◌, arith}
use Rattle.std.specs.Prelude.{IsTrue, OnOk, if◌then◌else◌}
use Rattle.std.specs.List.{All}
use Rattle.rig_scene.specs.declared.driver.Driver.{Driver}
use Rattle.rig_scene.specs.declared.id.AnimId.TheVariants as anim
use Rattle.rig_scene.specs.declared.operation.OpId.{OpId}
use Rattle.rig_scene.specs.declared.operation.OpId.TheVariants.{Animation}
use Rattle.rig_scene.specs.Scene.{SceneRecord}
use Rattle.rig_scene.specs.WellFormed.{is_scene}
use Rattle.rig_nodes.specs.DriverRows.{indices_within}
use Rattle.rig_nodes.proofs.Fits.{few_layers}
use Rattle.rig_nodes.proofs.Pushed.{channels_pushed, pencil_animation, pencil_pushed}
use Rattle.rig_nodes.proofs.list.push_pencil.Goals as goal

pub push_drivers-requires : goal.push_drivers-requires
push_drivers-requires c =
    subst (λ (drivers : List Driver). All (λ i. i < length drivers) c.args.row.now) (sym (c.as_slice.ensures ∙ ap (λ (s : SceneRecord). s.drivers) c.scene.view_is))
    (subst (λ row. All (λ i. i < length c.args.scene.now.drivers) row) (sym c.requires.row) (indices_within c.args.scene.now (anim.Pencil c.args.p)))

pub overflow_cast-len : goal.overflow_cast-len
overflow_cast-len c =
    let is : IsTrue (is_scene c.args.scene.now) = subst (λ s. IsTrue (is_scene s)) c.scene.view_is c.scene.invariant.is_scene in
    omega (arith, few_layers c.args.scene.now is c.args.p c.args.pencil.now c.requires.pencil)

pub returns : goal.returns
returns c =
    subst (λ (l : List OpId). OnOk c.push_layers.result (c.push_layers.new.ops.items ≡ l))
    (pencil_pushed c.args.scene.now c.args.p c.args.pencil.now c.requires.pencil c.args.ops.now.items c.push_drivers.new.ops.items c.len.result
    (channels_pushed c.args.scene.now (anim.Pencil c.args.p) c.args.row.now c.requires.row c.as_slice.result.now (c.as_slice.ensures ∙ ap (λ (s : SceneRecord). s.drivers) c.scene.view_is)
    c.args.ops.now.items c.push_animation.new.ops.items c.push_drivers.new.ops.items
    (subst (λ (l : List OpId). c.push_animation.new.ops.items ≡ c.args.ops.now.items ++ l) (pencil_animation c.args.scene.now c.args.p c.args.pencil.now c.requires.pencil)
    (subst (λ b. c.push_animation.new.ops.items ≡ c.args.ops.now.items ++ (if b then Animation (anim.Pencil c.args.p) ∷ [] else [])) c.is_some.ensures c.in_ok-push_animation.ensures))
    c.in_ok-push_drivers.ensures)
    c.len.ensures)
    c.push_layers.ensures
