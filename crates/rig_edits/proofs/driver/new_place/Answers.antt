use Rattle.std.proofs.Common.{ap, sym, subst, ◌∙◌, ◌≤◌, length}
use Rattle.rig_scene.specs.declared.limits.TheConstants.{MAX_VARIABLES}
use Rattle.rig_edits.specs.DriverByNames.{DriverByNames}
use Rattle.rig_edits.specs.DriverCauses.{earlier, channel_causes, variables_causes}
use Rattle.rig_edits.proofs.DriverSet.{names_cause_first, few_drivers}
use Rattle.rig_edits.proofs.driver.new_place.Goals as goal

pub returns-in-Some : goal.returns-in-Some
returns-in-Some c = record {
  place =
      names_cause_first c.args.scene.now c.args.id.now c.args.path.now c.args.driver.now c.in-Some.cause
      (ap (λ (d : DriverByNames). earlier (channel_causes c.args.scene.now c.args.id.now c.args.path.now) (variables_causes c.args.scene.now d.variables))
      (sym c.driver.view_is)
      ∙ sym c.names_cause.ensures ∙ c.in-Some.is);
  few = subst (λ (d : DriverByNames). (1 ≤ length d.variables) × (length d.variables ≤ MAX_VARIABLES)) c.driver.view_is c.driver.invariant;
}

pub room_for-requires-clause-count : goal.room_for-requires-clause-count
room_for-requires-clause-count c = few_drivers _ c.scene.invariant.is_scene c.len.result c.len.ensures
