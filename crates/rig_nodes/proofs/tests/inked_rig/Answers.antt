use Rattle.std.proofs.Common.{◌≡◌, [], ◌∷◌, ap, ◌∙◌}
use Rattle.rig_scene.specs.declared.armature.ArmatureData.{ArmatureData}
use Rattle.rig_scene.specs.declared.channel.Axis.TheVariants.{X}
use Rattle.rig_scene.specs.declared.channel.Channel.TheVariants.{LocX}
use Rattle.rig_scene.specs.declared.driver.Driver.{Driver}
use Rattle.rig_scene.specs.declared.id.AnimId.TheVariants as anim
use Rattle.rig_scene.specs.declared.object.Object.{Object}
use Rattle.rig_scene.specs.declared.path.Path.TheVariants.{Own, Layer}
use Rattle.rig_scene.specs.declared.pencil.PencilData.{PencilData}
use Rattle.rig_scene.specs.Examples.{object}
use Rattle.rig_nodes.specs.Example.{inked_rig, rig, follower}
use Rattle.rig_nodes.proofs.SmallScenes.{inked_rig_counted, counted_as}
use Rattle.rig_nodes.proofs.tests.inked_rig.Goals as goal

pub invariant_of-result : goal.invariant_of-result
invariant_of-result c =
    let armatures : c.from.result ≡ inked_rig.armatures = c.from.ensures ∙ c.in_ok-vec.ensures.items ∙ ap (λ (a : ArmatureData). a ∷ []) c.in_ok-armature.ensures in
    let pencils : c.from-2.result ≡ inked_rig.pencils = c.from-2.ensures ∙ c.in_ok-vec-2.ensures.items ∙ ap (λ (p : PencilData). p ∷ []) c.in_ok-pencil.ensures in
    let objects : c.from-3.result ≡ inked_rig.objects =
    c.from-3.ensures ∙ c.in_ok-vec-3.ensures.items
    ∙ ap (λ (o : Object). o ∷ c.in_ok-face.field-0 ∷ []) c.in_ok-rig.ensures
    ∙ ap (λ (o : Object). rig ∷ o ∷ []) c.in_ok-face.ensures in
    let drivers : c.from-4.result ≡ inked_rig.drivers =
    c.from-4.ensures ∙ c.in_ok-vec-4.ensures.items
    ∙ ap (λ (d : Driver). d ∷ c.in_ok-line_x.line_x ∷ []) c.in_ok-face_x.ensures
    ∙ ap (λ (d : Driver). follower (anim.Object (object 7)) (Own LocX) ∷ d ∷ []) (c.in_ok-line_x.ensures ∙ ap (λ name. follower (anim.Pencil 0) (Layer name X)) c.in_ok-of.ensures.name.0) in
    counted_as inked_rig inked_rig_counted c.new.result c.from.result c.from-2.result c.from-3.result c.from-4.result c.new.ensures armatures pencils objects drivers
