use Rattle.std.proofs.Common.{rules, not}
use Rattle.std.proofs.lemmas.Fn.{filter_same}
use Rattle.rig_scene.specs.declared.driver.Driver.{Driver}
use Rattle.rig_scene.specs.declared.id.AnimId.TheVariants as anim
use Rattle.rig_scene.specs.Id.{same_id}
use Rattle.rig_edits.proofs.object.drop_drivers.Goals as goal

pub returns : goal.returns
returns c =
    filter_same _ (λ (d : Driver). not (same_id d.id (anim.Object c.args.id))) _ (λ x b q k. search rules) c.args.drivers.now _ c.retain.ensures
