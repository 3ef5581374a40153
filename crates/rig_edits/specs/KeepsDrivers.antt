-- A driver that is set or cleared leaves a scene.
use Rattle.std.proofs.Common.{◌≡◌, ℕ, suc, ◌+◌, ◌≤◌, Bool, true, false, not, ◌&&◌, List, [], ◌∷◌, ◌++◌, length, filter, Option, Some, None, refl, sym, ap, ◌∙◌, subst, le_trans, arith}
use Rattle.std.specs.Prelude.{IsTrue, is_some, is_none, if◌then◌else◌, option_and_then, option_map, unwrap_or, ⊤}
use Rattle.std.specs.List.{All, AllPairs, list_any}
use Rattle.std.specs.Option.{option_map_or}
use Rattle.std.proofs.lemmas.Bool.{and_parts, or_parts, false_from_ne_true, false≢true}
use Rattle.std.proofs.lemmas.List.{length-append, length-set}
use Rattle.std.proofs.lemmas.List.Elements.{All-cons, All-nil, All-set, All-push, All-filter, All-weaker}
use Rattle.std.proofs.lemmas.List.Quantifiers.{all_pairs_push}
use Rattle.rig_scene.specs.declared.driver.Driver.{Driver}
use Rattle.rig_scene.specs.declared.driver.Variable.{Variable}
use Rattle.rig_scene.specs.declared.driver.Variable.TheVariants as variable
use Rattle.rig_scene.specs.declared.limits.TheConstants.{MAX_DRIVERS, MAX_VARIABLES}
use Rattle.rig_scene.specs.declared.object.Object.{Object}
use Rattle.rig_scene.specs.declared.path.Path.{Path}
use Rattle.rig_scene.specs.Drivers.{driver_of}
use Rattle.rig_scene.specs.Facts.{ObjectFacts, DriverFacts, SceneFacts}
use Rattle.rig_scene.specs.FactsHold.{scene_facts}
use Rattle.rig_scene.specs.FactsSuffice.{scene_from_facts}
use Rattle.rig_scene.specs.Found.{find-contains}
use Rattle.rig_scene.specs.Id.{same_id}
use Rattle.rig_scene.specs.Pairs.{AllPairs-filter}
use Rattle.rig_scene.specs.Path.{same_path}
use Rattle.rig_scene.specs.Same.{same_id-equal, same_id-itself, same_path-equal, same_path-itself}
use Rattle.rig_scene.specs.Scene.{SceneRecord}
use Rattle.rig_scene.specs.WellFormed.{has_bone, has_space, is_variable, is_scene, same_target}
use Rattle.rig_edits.specs.declared.edit.Edit.TheVariants.{SetDriver, ClearDriver}
use Rattle.rig_edits.specs.declared.edit.IdName.{IdName}
use Rattle.rig_edits.specs.declared.edit.NewVariable.{NewVariable}
use Rattle.rig_edits.specs.declared.edit.NewVariable.TheVariants.{Property, Transform}
use Rattle.rig_edits.specs.DriverByNames.{DriverByNames}
use Rattle.rig_edits.specs.Named.{object_named, bone_index, id_of, update_first}
use Rattle.rig_edits.specs.Conditions.{lacks_id, lacks_path, lacks_bone, lacks_variable, lacks_property, lacks_transform, has_driver, full_at, first_cause}
use Rattle.rig_edits.specs.Edited.{space_of, variable_of, variables_of, new_driver, put_driver, edited}
use Rattle.rig_edits.specs.Accepted.{accepted, room_for}
use Rattle.rig_edits.specs.Carried.{object, scene, object_stays, layers_stay, driver_stays}
use Rattle.rig_edits.specs.Lists.{some_of, none_passes, find_none, filter_shorter}
use Rattle.rig_edits.specs.Replaced.{kept_first, AllPairs-replaced}
use Rattle.rig_edits.specs.NamedFacts.{named_by_id, bone_of_name, path_of_id}

-- two drivers of different channels
abbrev Apart : Driver → Driver → Type 0
Apart d e = ¬ ((d.id ≡ e.id) × (d.path ≡ e.path))

-- ---- a scene with other drivers

module _ (s : SceneRecord) (facts : SceneFacts s) (drivers : List Driver) where
  -- an object keeps its conditions
  other_object : (o : Object) → ObjectFacts s o → ObjectFacts (record s { drivers = drivers }) o
  other_object o f = object s s.objects drivers s.next (λ _. ⊤) (λ id p stays e. e) (omega arith) o (object_stays (λ _. ⊤) (λ _. tt) o) f

  -- a driver keeps its conditions
  other_driver : (d : Driver) → DriverFacts s d → DriverFacts (record s { drivers = drivers }) d
  other_driver d f = driver_stays (λ _. ⊤) (λ _. tt) s s.objects drivers s.next (λ id p stays e. e) (omega arith) d f

  -- a scene stays one with other drivers, where they meet their conditions in the scene as it was
  other_drivers : length drivers ≤ MAX_DRIVERS → AllPairs Apart drivers → All (DriverFacts s) drivers
      → IsTrue (is_scene (record s { drivers = drivers }))
  other_drivers count apart each =
      scene_from_facts (record s { drivers = drivers })
      (scene s s.objects drivers s.next (λ _. ⊤) (λ id p stays e. e) (omega arith) facts (layers_stay (λ _. ⊤) (λ _. tt) s.pencils)
      (record {
        count = facts.objects.count;
        pencil_objects = facts.objects.pencil_objects;
        pose_bones = facts.objects.pose_bones;
        names_distinct = facts.objects.names_distinct;
        ids_rise = facts.objects.ids_rise;
        each = All-weaker (ObjectFacts s) (ObjectFacts (record s { drivers = drivers })) other_object s.objects facts.objects.each;
      })
      (record {
        count = count;
        targets_distinct = apart;
        each = All-weaker (DriverFacts s) (DriverFacts (record s { drivers = drivers })) other_driver drivers each;
      }))

-- ---- what names mean

module _ (s : SceneRecord) (facts : SceneFacts s) where
  -- the transform that a variable names is there
  space_is_there : (name : List ℕ) (o : Object) (bone : Option (List ℕ)) (world : Bool) → object_named s name ≡ Some o
      → lacks_bone s name bone ≡ false → IsTrue (has_space s o.id (space_of s o bone world))
  space_is_there name o None true e has = ap is_some (named_by_id s facts name o e)
  space_is_there name o None false e has = ap is_some (named_by_id s facts name o e)
  space_is_there name o (Some bone) world e has =
      let known : is_none (bone_index s o.kind bone) ≡ false =
      sym (ap (λ r. is_none (option_and_then (λ (o : Object). bone_index s o.kind bone) r)) e) ∙ has in
      let index = some_of (bone_index s o.kind bone) known in
      subst (λ i. IsTrue (has_bone s o.id i)) (sym (ap (λ r. unwrap_or r 0) index.1))
      (bone_of_name s o bone index.0 (named_by_id s facts name o e) index.1)

  -- a variable whose names mean something
  known_variable : (v : NewVariable) → lacks_variable s v ≡ false → lacks_property s v ≡ false → lacks_transform s v ≡ false
      → (x : Variable) × (variable_of s v ≡ Some x) × IsTrue (is_variable s x)
  known_variable (Property id path) known has there =
      let a = some_of (id_of s id) known in
      (variable.Property a.0 path, ap (option_map (λ a. variable.Property a path)) a.1, path_of_id s id path a.0 a.1 has)
  known_variable (Transform name bone world channel) known has there =
      let o = some_of (object_named s name) known in (
        variable.Transform o.0.id (space_of s o.0 bone world) channel,
        ap (option_map (λ (o : Object). variable.Transform o.id (space_of s o bone world) channel)) o.1,
        space_is_there name o.0 bone world o.1 there,
      )

  -- the variables are as many as were named, and each is there
  known_variables : (vs : List NewVariable) → list_any (lacks_variable s) vs ≡ false → list_any (lacks_property s) vs ≡ false
      → list_any (lacks_transform s) vs ≡ false
      → (length (variables_of s vs) ≡ length vs) × All (λ v. IsTrue (is_variable s v)) (variables_of s vs)
  known_variables [] known has there = (refl, All-nil (λ v. IsTrue (is_variable s v)))
  known_variables (v ∷ vs) known has there =
      let a = or_parts _ _ known in
      let b = or_parts _ _ has in
      let c = or_parts _ _ there in
      let x = known_variable v a.0 b.0 c.0 in
      let rest = known_variables vs a.1 b.1 c.1 in
      let is : variables_of s (v ∷ vs) ≡ x.0 ∷ variables_of s vs =
      ap (λ r. option_map_or (λ x. x ∷ variables_of s vs) r (variables_of s vs)) x.1 in (
        ap length is ∙ ap suc rest.0,
        subst (All (λ v. IsTrue (is_variable s v))) (sym is) (All-cons (λ v. IsTrue (is_variable s v)) x.0 (variables_of s vs) x.2 rest.1),
      )

-- ---- a driver in its place among others

module _ (d : Driver) where
  -- what has the same target has the same id and path
  target_is : (e : Driver) → same_target d e ≡ true → (d.id ≡ e.id) × (d.path ≡ e.path)
  target_is e is =
      let parts = and_parts (same_id d.id e.id) (same_path d.path e.path) is in
      (same_id-equal d.id e.id parts.0, same_path-equal d.path e.path parts.1)

  -- and the other way round
  target_itself : (e : Driver) → (d.id ≡ e.id) × (d.path ≡ e.path) → same_target d e ≡ true
  target_itself e is = rw (← is.0, ← is.1, same_id-itself d.id, same_path-itself d.path) refl

  -- what has another target differs in one of them
  other_target : (e : Driver) → same_target d e ≡ false → Apart e d
  other_target e differs is = false≢true (sym differs ∙ target_itself e (sym is.0, sym is.1))

  -- the one of its channel is replaced
  replaced_count : (ds : List Driver) → length (update_first (same_target d) (λ _. d) ds) ≡ length ds
  replaced_count ds = kept_first (λ es. length es ≡ length ds) (λ _. d) (same_target d) ds refl (λ i e at found. length-set ds i d)

  -- what holds of each driver and of the new one holds of each
  replaced_all : (P : Driver → Type 0) (ds : List Driver) → P d → All P ds → All P (update_first (same_target d) (λ _. d) ds)
  replaced_all P ds h all = kept_first (All P) (λ _. d) (same_target d) ds all (λ i e at found. All-set P ds i d h all)

  -- each channel has one driver, as before
  replaced_apart : (ds : List Driver) → AllPairs Apart ds → AllPairs Apart (update_first (same_target d) (λ _. d) ds)
  replaced_apart ds pairs =
      kept_first (AllPairs Apart) (λ _. d) (same_target d) ds pairs
      (λ i e at found. let target = target_is e (find-contains (same_target d) ds e found).1 in
      AllPairs-replaced Apart e d (λ z h same. h (same.0 ∙ target.0, same.1 ∙ target.1))
      (λ z h same. h (sym target.0 ∙ same.0, sym target.1 ∙ same.1)) ds i at pairs)

  -- it comes behind all others
  added_apart : (ds : List Driver) → list_any (same_target d) ds ≡ false → AllPairs Apart ds → AllPairs Apart (ds ++ d ∷ [])
  added_apart ds none pairs =
      all_pairs_push Apart ds d pairs
      (All-weaker (λ e. same_target d e ≡ false) (λ e. Apart e d) other_target ds (none_passes (same_target d) ds none))

-- ---- the edits

module _ (s : SceneRecord) (facts : SceneFacts s) (d : Driver) (is_driver : DriverFacts s d) where
  -- a driver that meets its conditions, in its place
  put : (b : Bool) → list_any (same_target d) s.drivers ≡ b → (list_any (same_target d) s.drivers ≡ false → length s.drivers + 1 ≤ MAX_DRIVERS)
      → IsTrue (is_scene (record s { drivers = if b then update_first (same_target d) (λ _. d) s.drivers else s.drivers ++ d ∷ [] }))
  put true e room =
      other_drivers s facts (update_first (same_target d) (λ _. d) s.drivers)
      (subst (λ n. n ≤ MAX_DRIVERS) (sym (replaced_count d s.drivers)) facts.drivers.count)
      (replaced_apart d s.drivers facts.drivers.targets_distinct) (replaced_all d (DriverFacts s) s.drivers is_driver facts.drivers.each)
  put false e room =
      other_drivers s facts (s.drivers ++ d ∷ []) (subst (λ n. n ≤ MAX_DRIVERS) (sym (length-append s.drivers (d ∷ []))) (room e))
      (added_apart d s.drivers e facts.drivers.targets_distinct) (All-push (DriverFacts s) s.drivers d facts.drivers.each is_driver)

-- where no driver has the channel, none is found
none_driven : (s : SceneRecord) (d : Driver) → list_any (same_target d) s.drivers ≡ false → driver_of s d.id d.path ≡ None
none_driven s d none =
    find_none (λ e. same_id e.id d.id && same_path e.path d.path) s.drivers
    (All-weaker (λ e. same_target d e ≡ false) (λ e. (same_id e.id d.id && same_path e.path d.path) ≡ false)
    (λ e differs. false_from_ne_true _ (λ is. other_target d e differs (target_is e d is)))
    s.drivers (none_passes (same_target d) s.drivers none))

-- a driver that is set leaves a scene
pub keeps_set_driver : (s : SceneRecord) (id : IdName) (path : Path) (driver : DriverByNames)
    → (1 ≤ length driver.variables) × (length driver.variables ≤ MAX_VARIABLES)
    → IsTrue (is_scene s) → first_cause s (SetDriver id path driver) ≡ None → IsTrue (is_scene (edited s (SetDriver id path driver)))
keeps_set_driver s id path driver few is none =
    let facts = scene_facts s is in
    let ok = accepted s (SetDriver id path driver) none in
    let known = or_parts (lacks_id s id) (list_any (lacks_variable s) driver.variables) ok.id_is_known in
    let has = or_parts (lacks_path s id path) (list_any (lacks_property s) driver.variables) ok.path_is_known in
    let a = some_of (id_of s id) known.0 in
    let variables = known_variables s facts driver.variables known.1 has.1 ok.part_is_known in
    let d : Driver = new_driver s a.0 path driver in
    let d_is : DriverFacts s d = record {
      path_is_there = path_of_id s id path a.0 a.1 has.0;
      has_variables = subst (λ n. 1 ≤ n) (sym variables.0) few.0;
      count = subst (λ n. n ≤ MAX_VARIABLES) (sym variables.0) few.1;
      variables_are_there = variables.1;
    } in
    let room : list_any (same_target d) s.drivers ≡ false → length s.drivers + 1 ≤ MAX_DRIVERS = λ e.
    let free : has_driver s id path ≡ false =
    ap (λ r. is_some (option_and_then (λ a. driver_of s a path) r)) a.1 ∙ ap is_some (none_driven s d e) in
    room_for (length s.drivers) 1 MAX_DRIVERS
    (sym (ap (λ b. if b then None else full_at (length s.drivers) 1 MAX_DRIVERS) free) ∙ ok.has_room) in
    subst (λ r. IsTrue (is_scene (option_map_or (λ a. record s { drivers = put_driver (new_driver s a path driver) s.drivers }) r s))) (sym a.1)
    (put s facts d d_is (list_any (same_target d) s.drivers) refl room)

-- a driver that is cleared leaves a scene
pub keeps_clear_driver : (s : SceneRecord) (id : IdName) (path : Path)
    → IsTrue (is_scene s) → first_cause s (ClearDriver id path) ≡ None → IsTrue (is_scene (edited s (ClearDriver id path)))
keeps_clear_driver s id path is none =
    let facts = scene_facts s is in
    let ok = accepted s (ClearDriver id path) none in
    let a = some_of (id_of s id) ok.id_is_known in
    let others : Driver → Bool = λ d. not (same_id d.id a.0 && same_path d.path path) in
    let fewer : length (filter others s.drivers) ≤ length s.drivers = filter_shorter others s.drivers in
    let count : length s.drivers ≤ MAX_DRIVERS = facts.drivers.count in
    subst (λ r. IsTrue (is_scene
    (option_map_or (λ a. record s { drivers = filter (λ d. not (same_id d.id a && same_path d.path path)) s.drivers }) r s))) (sym a.1)
    (other_drivers s facts (filter others s.drivers) (le_trans fewer count)
    (AllPairs-filter Apart others s.drivers facts.drivers.targets_distinct)
    (All-filter others (DriverFacts s) s.drivers facts.drivers.each))
