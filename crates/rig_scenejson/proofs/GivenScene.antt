-- Where neither pass lists a fault, the scene that the members give keeps all conditions of a whole scene.
use Rattle.std.proofs.Common.{◌≡◌, true, List, [], ◌∷◌, length, None, refl, ap, ◌∙◌}
use Rattle.std.specs.Prelude.{IsTrue}
use Rattle.std.proofs.lemmas.Bool.{and_from}
use Rattle.serde_json.specs.Data.{Data}
use Rattle.rig_scene.specs.Scene.{SceneRecord}
use Rattle.rig_scene.specs.WellFormed.{are_actions, are_armatures, are_pencils, are_bound, are_objects, are_drivers, is_scene}
use Rattle.rig_scenejson.specs.declared.before.Catalog.{Catalog}
use Rattle.rig_scenejson.specs.Tests.{first}
use Rattle.rig_scenejson.specs.Given.{scene_given}
use Rattle.rig_scenejson.specs.PassOne.{after_armatures, catalog_of, pass_one}
use Rattle.rig_scenejson.specs.PassTwo.{pass_two}
use Rattle.rig_scenejson.specs.Reading.{scene_faults}
use Rattle.rig_scenejson.proofs.Lists.{left_none, right_none}
use Rattle.rig_scenejson.proofs.References.{Names, Stands, names_of, stands, actions_many}
use Rattle.rig_scenejson.proofs.GivenActions.{are_actions_given}
use Rattle.rig_scenejson.proofs.GivenArmatures.{are_armatures_given}
use Rattle.rig_scenejson.proofs.GivenPencils.{are_pencils_given}
use Rattle.rig_scenejson.proofs.GivenBound.{are_bound_given}
use Rattle.rig_scenejson.proofs.GivenObjects.{are_objects_given}
use Rattle.rig_scenejson.proofs.GivenDrivers.{are_drivers_given}

-- a scene that has what the members give
is_whole_by : (s : SceneRecord) (c : Catalog) (d : Data) → Stands s c d → Names c d → pass_one d ≡ [] → pass_two c d ≡ [] → IsTrue (is_scene s)
unfolding pass_one pass_two is_scene
is_whole_by s c d scene names one two =
    let one_drivers = right_none _ _ one in
    let one_objects = right_none _ _ (left_none _ _ one) in
    let one_pencils = right_none _ _ (left_none _ _ (left_none _ _ one)) in
    let one_armatures = right_none _ _ (left_none _ _ (left_none _ _ (left_none _ _ one))) in
    let one_actions = right_none _ _ (left_none _ _ (left_none _ _ (left_none _ _ (left_none _ _ one)))) in
    let two_drivers = right_none _ _ two in
    let two_objects = right_none _ _ (left_none _ _ two) in
    let two_pencils = right_none _ _ (left_none _ _ (left_none _ _ two)) in
    let two_armatures = left_none _ _ (left_none _ _ (left_none _ _ two)) in
    let actions : are_actions s.actions ≡ true = ap are_actions scene.actions ∙ are_actions_given d one_actions in
    let armatures : are_armatures s.armatures ≡ true = ap are_armatures scene.armatures ∙ are_armatures_given c d one_armatures two_armatures in
    let pencils : are_pencils (length s.actions) s.pencils ≡ true =
    ap (λ n. are_pencils n s.pencils) (actions_many s c d scene names) ∙ ap (are_pencils (length c.actions)) scene.pencils ∙ are_pencils_given c d one_pencils two_pencils in
    let bound : are_bound s ≡ true = are_bound_given s c d scene names two_pencils in
    let objects : are_objects s ≡ true = are_objects_given s c d scene names (after_armatures d).names one_objects two_objects in
    let drivers : are_drivers s ≡ true = are_drivers_given s c d scene names one_drivers two_drivers in
    and_from _ _ (and_from _ _ (and_from _ _ (and_from _ _ (and_from _ _ actions armatures) pencils) bound) objects) drivers

-- a scene in which neither pass lists a fault is whole
pub is_whole : (d : Data) → pass_one d ≡ [] → pass_two (catalog_of d) d ≡ [] → IsTrue (is_scene (scene_given (catalog_of d) d))
is_whole d one two = is_whole_by (scene_given (catalog_of d) d) (catalog_of d) d (stands (catalog_of d) d) (names_of d) one two

none_first : {A : Type 0} (xs : List A) → first xs ≡ None → xs ≡ []
none_first [] e = refl
none_first (x ∷ xs) e = cc

-- the same where no first fault was found
pub is_whole-no_first : (d : Data) → first (scene_faults d) ≡ None → IsTrue (is_scene (scene_given (catalog_of d) d))
is_whole-no_first d e =
    let none = none_first (scene_faults d) e in
    is_whole d (left_none (pass_one d) (pass_two (catalog_of d) d) none) (right_none (pass_one d) (pass_two (catalog_of d) d) none)
