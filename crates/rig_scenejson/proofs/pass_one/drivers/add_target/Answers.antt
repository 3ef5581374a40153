use Rattle.std.proofs.Common.{◌≡◌, ◌++◌, ◌∷◌, [], not, if◌then◌else◌, IfOk, subst}
use Rattle.std.specs.List.{list_any}
use Rattle.rig_scenejson.proofs.SameTarget.{equal_target}
use Rattle.rig_scenejson.proofs.pass_one.drivers.add_target.Goals as goal

pub returns : goal.returns
returns c =
    subst (λ same. IfOk c.add.result (λ added. (added ≡ not (list_any same c.args.targets.now)) × (c.add.new.self ≡ (if added then c.args.targets.now ++ c.args.target ∷ [] else c.args.targets.now)))) (equal_target c.args.target) c.add.ensures.ok
