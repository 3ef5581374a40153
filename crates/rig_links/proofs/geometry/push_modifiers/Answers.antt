use Rattle.std.proofs.Common.{◌+◌, length, refl, arith}
use Rattle.std.proofs.lemmas.Option.{slice_get_read}
use Rattle.rig_scene.specs.declared.object.Object.{Object}
use Rattle.rig_scene.specs.declared.operation.OpId.TheVariants.{ModifierOp}
use Rattle.rig_scene.specs.Quantities.{modifiers_of}
use Rattle.rig_scene.specs.Scene.{object_of}
use Rattle.rig_links.specs.Numbers.{numbered_links}
use Rattle.rig_links.proofs.Pushed.{one_more, element_at}
use Rattle.rig_links.proofs.geometry.push_modifiers.Goals as goal

pub push_modifier-requires-clause-modifier : goal.push_modifier-requires-clause-modifier
push_modifier-requires-clause-modifier c =
    element_at (λ (o : Object). modifiers_of o.kind) (object_of c.args.scene.now c.args.object) c.args.modifiers.now c.loop-before.before c.index-modifiers-before.result c.requires.modifiers
    (slice_get_read c.args.modifiers.now (length c.args.modifiers.now) c.loop-before.before c.index-modifiers-before.result refl c.loop-before-test.true c.index-modifiers-before.is)

pub loop-before-preserved : goal.loop-before-preserved
loop-before-preserved c =
    one_more (λ i. numbered_links c.args.scene.now (ModifierOp c.args.object i)) 1 c.loop-before.before (c.loop-before.before + 1) _ _ _ (omega arith) c.loop-before.invariant c.in_ok-push_modifier.ensures
