use Rattle.std.proofs.Common.{sym, ap, ◌∙◌}
use Rattle.rig_edits.specs.DriverCauses.{variable_causes}
use Rattle.rig_edits.proofs.DriverFacts.{err_is}
use Rattle.rig_edits.proofs.driver.variable_cause.Goals as goal

pub returns-in-Transform : goal.returns-in-Transform
returns-in-Transform c =
    c.err-in-Transform.ensures.value ∙ err_is c.transform_of.result _ _ (c.transform_of.ensures c.in-Transform.channel)
    ∙ ap (variable_causes c.args.scene.now) (sym c.in-Transform.is)
