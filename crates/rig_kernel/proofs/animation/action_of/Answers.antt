use Rattle.std.proofs.Common.{◌≡◌, length, Some, IsSome, is_some, sym, ap, subst, ◌∙◌, arith}
use Rattle.std.specs.Prelude.{IsTrue, slice_get, option_and_then}
use Rattle.std.proofs.lemmas.Option.{slice_get_within, same_Some}
use Rattle.rig_scene.specs.declared.object.Object.{Object}
use Rattle.rig_scene.specs.declared.pencil.PencilData.{PencilData}
use Rattle.rig_scene.specs.Scene.{SceneRecord}
use Rattle.rig_scene.specs.WellFormed.{is_scene}
use Rattle.rig_kernel.proofs.ActionOf.{animated_object, animated_pencil}
use Rattle.rig_kernel.proofs.animation.action_of.Goals as goal

pub object_of-requires : goal.object_of-requires
object_of-requires c = λ met. ap is_some (animated_object c.args.scene.now met c.args.id c.in-Object.o c.requires c.in-Object.is).1

pub action_at-requires : goal.action_at-requires
action_at-requires c = λ met.
    let s = c.args.scene.now in
    let there = animated_object s met c.args.id c.in-Object.o c.requires c.in-Object.is in
    let same : there.0 ≡ c.object_of.result.now = same_Some there.0 c.object_of.result.now (sym there.1 ∙ c.object_of.ensures.object) in
    subst (λ (o : Object). IsSome (option_and_then (slice_get s.actions) o.action)) same there.2

pub get-requires : goal.get-requires
get-requires c =
    let s = c.args.scene.now in
    let met = subst (λ s. IsTrue (is_scene s)) c.scene.view_is c.scene.invariant.is_scene in
    let there = animated_pencil s met c.args.id c.in-Pencil.p c.requires c.in-Pencil.is in
    omega (arith, slice_get_within s.pencils c.in-Pencil.p there.0 there.1, ap (λ (s : SceneRecord). length s.pencils) c.scene.view_is)

pub action_at-requires-in-Pencil : goal.action_at-requires-in-Pencil
action_at-requires-in-Pencil c = λ met.
    let s = c.args.scene.now in
    let there = animated_pencil s met c.args.id c.in-Pencil.p c.requires c.in-Pencil.is in
    let at : slice_get s.pencils c.in-Pencil.p ≡ Some c.get.result.now = ap (λ (s : SceneRecord). slice_get s.pencils c.in-Pencil.p) (sym c.scene.view_is) ∙ c.get.ensures in
    let same : there.0 ≡ c.get.result.now = same_Some there.0 c.get.result.now (sym there.1 ∙ at) in
    subst (λ (p : PencilData). IsSome (option_and_then (slice_get s.actions) p.action)) same there.2
