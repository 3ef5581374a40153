use Rattle.std.proofs.Common.{◌&&◌, sym, subst, MatchOption}
use Rattle.rig_scene.specs.declared.driver.Driver.{Driver}
use Rattle.rig_scene.specs.Id.{same_id}
use Rattle.rig_scene.specs.Path.{same_path}
use Rattle.rig_edits.proofs.StepFacts.{found}
use Rattle.rig_edits.specs.Steps.{FoundAt, FoundNowhere}
use Rattle.rig_edits.proofs.driver.driver_index.Goals as goal

pub returns : goal.returns
returns c =
    let test = λ (d : Driver). same_id d.id c.args.id && same_path d.path c.args.path.now in
    subst (λ r. MatchOption r (FoundNowhere test c.args.drivers.now) (FoundAt test c.args.drivers.now)) (sym c.driver_position.ensures)
    (found test c.args.drivers.now)
