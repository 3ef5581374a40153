use Rattle.std.proofs.Common.{◌≡◌, ◌++◌, ◌∷◌, [], not, if◌then◌else◌, IfOk, subst}
use Rattle.std.specs.List.{list_any}
use Rattle.rig_scenejson.proofs.SamePath.{equal_path}
use Rattle.rig_scenejson.proofs.pass_one.actions.add_path.Goals as goal

pub returns : goal.returns
returns c =
    subst (λ same. IfOk c.add.result (λ added. (added ≡ not (list_any same c.args.paths.now)) × (c.add.new.self ≡ (if added then c.args.paths.now ++ c.args.path ∷ [] else c.args.paths.now)))) (equal_path c.args.path) c.add.ensures.ok
