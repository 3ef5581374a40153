-- The driver of an operation, found by its index in the scene's list.
use Rattle.std.proofs.Common.{◌≡◌, ℕ, zero, suc, List, [], ◌∷◌, map, cond, Bool, true, false, Some, ℤ, refl, sym, ap, subst, ◌∙◌, arith}
use Rattle.std.specs.Prelude.{◌&&◌, IsTrue, slice_get, option_map, Contains}
use Rattle.std.specs.Option.{option_map_or}
use Rattle.std.specs.List.{AllPairs, find, flat_map}
use Rattle.std.proofs.lemmas.Bool.{and_parts}
use Rattle.std.proofs.lemmas.List.Elements.{All-contains}
use Rattle.std.proofs.Math.ListN.{get_or-map}
use Rattle.std.proofs.lemmas.List.{length-map}
use Rattle.std.proofs.lemmas.Option.{same_Some, slice_get-map}
use Rattle.rig_scene.specs.declared.driver.Driver.{Driver as DriverRecord}
use Rattle.rig_scene.specs.declared.id.AnimId.{AnimId}
use Rattle.rig_scene.specs.declared.modifier.Mode.{Mode}
use Rattle.rig_scene.specs.declared.operation.OpId.{OpId}
use Rattle.rig_scene.specs.declared.operation.OpId.TheVariants.{Driver}
use Rattle.rig_scene.specs.declared.path.Path.{Path}
use Rattle.rig_scene.specs.declared.quantity.Quantity.TheVariants as quantity
use Rattle.rig_scene.specs.Drivers.{driver_of}
use Rattle.rig_scene.specs.Facts.{DriverFacts}
use Rattle.rig_scene.specs.FactsHold.{scene_facts}
use Rattle.rig_scene.specs.Found.{Contains-slice_get}
use Rattle.rig_scene.specs.Id.{same_id}
use Rattle.rig_scene.specs.Operations.{operations, ins, variable_links}
use Rattle.rig_scene.specs.Pairs.{AllPairs-head, AllPairs-tail}
use Rattle.rig_scene.specs.Path.{same_path}
use Rattle.rig_scene.specs.Same.{same_id-equal, same_id-itself, same_path-equal, same_path-itself}
use Rattle.rig_scene.specs.Scene.{SceneRecord}
use Rattle.rig_scene.specs.Value.{Number}
use Rattle.rig_scene.specs.WellFormed.{is_scene}
use Rattle.rig_laws.specs.HasOperation.{operation_has}
use Rattle.rig_laws.specs.Lists.{find-Some, is_some-Some, option_map-Some}
use Rattle.rig_kernel.specs.declared.tables.SceneTables.{SceneTables}
use Rattle.rig_laws.specs.Kernel.{kernel, driver_number}
use Rattle.rig_laws.specs.Output.{Output}
use Rattle.rig_kernel.specs.Tables.{AreTables, table_parts}

abbrev op_of : DriverRecord → OpId
op_of d = Driver d.id d.path

-- where no two drive one channel, one that stands at an index is the first of its channel
first_at : (drivers : List DriverRecord) → AllPairs (λ d e. ¬ ((d.id ≡ e.id) × (d.path ≡ e.path))) drivers → (i : ℕ) (x : DriverRecord) → slice_get drivers i ≡ Some x
    → find (λ d. same_id d.id x.id && same_path d.path x.path) drivers ≡ Some x
first_at [] distinct i x at = absurd cc
first_at (d ∷ drivers) distinct zero x at =
    let same : d ≡ x = same_Some d x at in
    ap (λ (d : DriverRecord). cond (same_id d.id x.id && same_path d.path x.path) (Some d) (find (λ d. same_id d.id x.id && same_path d.path x.path) drivers)) same
    ∙ ap (λ b. cond (b && same_path x.path x.path) (Some x) (find (λ d. same_id d.id x.id && same_path d.path x.path) drivers)) (same_id-itself x.id)
    ∙ ap (λ b. cond b (Some x) (find (λ d. same_id d.id x.id && same_path d.path x.path) drivers)) (same_path-itself x.path)
first_at (d ∷ drivers) distinct (suc i) x at =
    by (same_id d.id x.id && same_path d.path x.path) refl (first_at drivers (AllPairs-tail (λ d e. ¬ ((d.id ≡ e.id) × (d.path ≡ e.path))) d drivers distinct) i x at)
  where
    by : (b : Bool) → (same_id d.id x.id && same_path d.path x.path) ≡ b → find (λ d. same_id d.id x.id && same_path d.path x.path) drivers ≡ Some x
        → cond b (Some d) (find (λ d. same_id d.id x.id && same_path d.path x.path) drivers) ≡ Some x
    by true e rest =
        let parts = and_parts (same_id d.id x.id) (same_path d.path x.path) e in
        absurd (All-contains (λ e. ¬ ((d.id ≡ e.id) × (d.path ≡ e.path))) drivers x (AllPairs-head (λ d e. ¬ ((d.id ≡ e.id) × (d.path ≡ e.path))) d drivers distinct)
        (Contains-slice_get drivers i x at) (same_id-equal d.id x.id parts.0, same_path-equal d.path x.path parts.1))
    by false e rest = rest

module _ (s : SceneRecord) (met : IsTrue (is_scene s)) (tables : SceneTables) (are : AreTables tables (table_parts s)) (op : OpId) where
  -- the driver at the index of the operation
  pub driver_at : (i : ℕ) → slice_get tables.drivers i ≡ Some op → (d : DriverRecord) × (slice_get s.drivers i ≡ Some d) × (op_of d ≡ op)
  driver_at i at = option_map-Some op_of (slice_get s.drivers i) op (sym (slice_get-map op_of s.drivers i) ∙ ap (λ ops. slice_get ops i) (sym are.drivers) ∙ at)

  pub same_op : (i : ℕ) → slice_get tables.drivers i ≡ Some op → (d : DriverRecord) → slice_get s.drivers i ≡ Some d → op_of d ≡ op
  same_op i at d here =
      let found = driver_at i at in
      ap op_of (same_Some d found.0 (sym here ∙ found.1)) ∙ found.2

  pub facts_at : (i : ℕ) (d : DriverRecord) → slice_get s.drivers i ≡ Some d → DriverFacts s d
  facts_at i d here = All-contains (DriverFacts s) s.drivers d (scene_facts s met).drivers.each (Contains-slice_get s.drivers i d here)

  found_at : (i : ℕ) (d : DriverRecord) → slice_get s.drivers i ≡ Some d → driver_of s d.id d.path ≡ Some d
  found_at i d here = first_at s.drivers (scene_facts s met).drivers.targets_distinct i d here

  -- what it takes
  pub links_at : (i : ℕ) → slice_get tables.drivers i ≡ Some op → (d : DriverRecord) → slice_get s.drivers i ≡ Some d
      → ins s op ≡ flat_map (variable_links s (quantity.Chan d.id d.path)) d.variables
  unfolding ins
  links_at i at d here =
      ap (ins s) (sym (same_op i at d here))
      ∙ ap (λ found. option_map_or (λ (e : DriverRecord). flat_map (variable_links s (quantity.Chan d.id d.path)) e.variables) found []) (found_at i d here)

  -- what it gives
  pub driver_gives : (i : ℕ) → slice_get tables.drivers i ≡ Some op → (d : DriverRecord) → slice_get s.drivers i ≡ Some d
      → (mode : Mode) (frame : ℤ) (outs : List Output) → kernel s mode frame op outs ≡ Some (Number (driver_number s d outs))
  unfolding kernel
  driver_gives i at d here mode frame outs =
      ap (λ op. kernel s mode frame op outs) (sym (same_op i at d here))
      ∙ ap (option_map (λ d. Number (driver_number s d outs))) (found_at i d here)

  contains_map : (drivers : List DriverRecord) (d : DriverRecord) → Contains drivers d → Contains (map op_of drivers) (op_of d)
  contains_map drivers d within =
      (within.0, omega (arith, within.1, length-map drivers op_of), get_or-map op_of drivers within.0 d ∙ ap op_of within.2)

  -- the driver of an operation of the scene has an index
  pub has_index : Contains (operations s) op → (id : AnimId) (path : Path) → op ≡ Driver id path → Contains tables.drivers op
  has_index within id path is =
      let there = is_some-Some (driver_of s id path) (operation_has s met (Driver id path) (subst (Contains (operations s)) is within)) in
      let found = find-Some (λ d. same_id d.id id && same_path d.path path) s.drivers there.0 there.1 in
      let parts = and_parts (same_id there.0.id id) (same_path there.0.path path) found.1 in
      let same : op_of there.0 ≡ op = (λ i. Driver (same_id-equal there.0.id id parts.0 i) (same_path-equal there.0.path path parts.1 i)) ∙ sym is in
      subst (Contains tables.drivers) same
      (subst (λ ops. Contains ops (op_of there.0)) (sym are.drivers) (contains_map s.drivers there.0 found.0))
