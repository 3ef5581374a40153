use Rattle.std.proofs.Common.{ap, ◌∙◌}
use Rattle.rig_edits.specs.DriverCauses.{variable_causes}
use Rattle.rig_edits.proofs.DriverFacts.{not_built}
use Rattle.rig_edits.proofs.driver.variable_of.Goals as goal

pub returns-in_err-found-in-Transform : goal.returns-in_err-found-in-Transform
returns-in_err-found-in-Transform c =
    not_built c.from_residual-in_err-found-in-Transform.result _ _ _ c.from_residual-in_err-found-in-Transform.ensures.1
    (ap (variable_causes c.args.scene.now) c.in-Transform.is ∙ c.in_err-found-in-Transform.ensures c.in-Transform.channel)
