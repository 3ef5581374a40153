use Rattle.std.proofs.Common.{map, rules}
use Rattle.std.proofs.lemmas.Bool.{and_parts}
use Rattle.std.proofs.lemmas.Iterator.{YieldsList-from_slice}
use Rattle.std.proofs.lemmas.Iterator.Search.{find_from_yields_List}
use Rattle.std.specs.List.{list_all}
use Rattle.rig_scene.specs.declared.path.Path.TheVariants.{Own}
use Rattle.rig_scene.specs.Distinct.{are_distinct}
use Rattle.rig_scene.specs.Path.{same_path}
use Rattle.rig_scene.specs.WellFormed.{are_keys}
use Rattle.rig_play.proofs.Held.{found}
use Rattle.rig_play.proofs.animation.own_curve.Goals as goal

pub returns : goal.returns
returns c =
    let curves = c.args.action.now.curves in
    let is = find_from_yields_List (λ curve. same_path curve.path (Own c.args.channel)) _ _ c.find.result c.find.ensures.ran (YieldsList-from_slice curves cc) (λ x b q k. search rules) in
    let parts = and_parts (are_distinct same_path (map (λ c. c.path) curves)) (list_all (λ c. are_keys c.keys) curves) c.requires in
    found (λ curve. same_path curve.path (Own c.args.channel)) (λ curve. are_keys curve.keys) curves c.find.result parts.1 is
