use Rattle.std.proofs.Common.{sym, subst, MatchOption}
use Rattle.rig_scene.specs.Text.{same_text}
use Rattle.rig_edits.specs.Steps.{FoundAt, FoundNowhere}
use Rattle.rig_edits.proofs.StepFacts.{found}
use Rattle.rig_edits.proofs.find.index_named.Goals as goal

pub returns : goal.returns
returns g c =
    subst (λ r. MatchOption r (FoundNowhere (λ x. same_text (g.T.Named.name x) c.args.name.now) c.args.values.now)
    (FoundAt (λ x. same_text (g.T.Named.name x) c.args.name.now) c.args.values.now))
    (sym c.position_named.ensures) (found (λ x. same_text (g.T.Named.name x) c.args.name.now) c.args.values.now)
