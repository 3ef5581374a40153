use Rattle.std.proofs.Common.{sym, subst, MatchOption}
use Rattle.rig_scene.specs.declared.action.Curve.{Curve}
use Rattle.rig_scene.specs.Path.{same_path}
use Rattle.rig_edits.specs.Steps.{FoundAt, FoundNowhere}
use Rattle.rig_edits.proofs.StepFacts.{found}
use Rattle.rig_edits.proofs.curve.index_of_path.Goals as goal

pub returns : goal.returns
returns c =
    let test = λ (x : Curve). same_path x.path c.args.path.now in
    subst (λ r. MatchOption r (FoundNowhere test c.args.curves.now) (FoundAt test c.args.curves.now)) (sym c.position_of_path.ensures)
    (found test c.args.curves.now)
