-- The links of operations, in the order of the operations.
use Rattle.std.proofs.Common.{◌≡◌, ℕ, List, [], ◌++◌, sym, ap, ◌∙◌}
use Rattle.std.specs.List.{flat_map, enumerate_from}
use Rattle.std.proofs.lemmas.Grind.{flat_map-append}
use Rattle.std.proofs.lemmas.List.{append_assoc}
use Rattle.std.proofs.lemmas.List.Folds.{flat_map-map}
use Rattle.rig_cut.specs.declared.links.Link.{Link}
use Rattle.rig_nodes.specs.Drivers.{driver_indices}
use Rattle.rig_nodes.specs.DriverRows.{drivers_at, drivers_at-indices}
use Rattle.rig_scene.specs.declared.driver.Driver.{Driver as DriverRecord}
use Rattle.rig_scene.specs.declared.id.AnimId.{AnimId}
use Rattle.rig_scene.specs.declared.operation.OpId.{OpId}
use Rattle.rig_scene.specs.declared.operation.OpId.TheVariants.{Driver}
use Rattle.rig_scene.specs.Drivers.{drivers_of}
use Rattle.rig_scene.specs.Operations.{animation_of, driver_operations, pencil_operations, object_operations}
use Rattle.rig_scene.specs.Scene.{SceneRecord}
use Rattle.rig_links.specs.Numbers.{numbered_links, all_links}
use Rattle.rig_links.proofs.LinksOf.{time_links}
use Rattle.rig_links.proofs.Pushed.{both, flat_map-flat_map}

module _ (s : SceneRecord) where
  abbrev pub links_of_drivers : List ℕ → List Link
  links_of_drivers row = flat_map (λ (d : DriverRecord). numbered_links s (Driver d.id d.path)) (drivers_at s.drivers row)

  -- the animation of an id and its drivers, before other operations
  pub behind_drivers : (id : AnimId) (row : List ℕ) (ops : List OpId) (links : List Link) → row ≡ driver_indices s id → links ≡ flat_map (numbered_links s) ops
      → flat_map (numbered_links s) (animation_of s id) ++ (links_of_drivers row ++ links)
      ≡ flat_map (numbered_links s) (animation_of s id ++ driver_operations s id ++ ops)
  behind_drivers id row ops links is e =
      let each = λ (d : DriverRecord). numbered_links s (Driver d.id d.path) in
      let drivers : links_of_drivers row ≡ flat_map (numbered_links s) (driver_operations s id) =
      ap (flat_map each) (ap (drivers_at s.drivers) is ∙ drivers_at-indices s id) ∙ sym (flat_map-map (numbered_links s) (λ (d : DriverRecord). Driver d.id d.path) (drivers_of s id)) in
      ap (λ l. flat_map (numbered_links s) (animation_of s id) ++ l) (both drivers e)
      ∙ sym (append_assoc (flat_map (numbered_links s) (animation_of s id)) (flat_map (numbered_links s) (driver_operations s id)) (flat_map (numbered_links s) ops))
      ∙ ap (λ l. l ++ flat_map (numbered_links s) ops) (sym (flat_map-append (numbered_links s) (animation_of s id) (driver_operations s id)))
      ∙ sym (flat_map-append (numbered_links s) (animation_of s id ++ driver_operations s id) ops)

  -- all of a scene: those of its pencils, then those of its objects
  pub all_in_order : (first pencils all : List Link) → first ≡ []
      → pencils ≡ first ++ flat_map (λ e. flat_map (numbered_links s) (pencil_operations s e.0 e.1)) (enumerate_from 0 s.pencils)
      → all ≡ pencils ++ flat_map (λ o. flat_map (numbered_links s) (object_operations s o)) s.objects → all ≡ all_links s
  all_in_order first pencils all nothing of_pencils of_objects =
      of_objects
      ∙ ap (λ l. l ++ flat_map (λ o. flat_map (numbered_links s) (object_operations s o)) s.objects)
      (of_pencils ∙ ap (λ l. l ++ flat_map (λ e. flat_map (numbered_links s) (pencil_operations s e.0 e.1)) (enumerate_from 0 s.pencils)) nothing)
      ∙ both (sym (flat_map-flat_map (numbered_links s) (λ e. pencil_operations s e.0 e.1) (enumerate_from 0 s.pencils))) (sym (flat_map-flat_map (numbered_links s) (object_operations s) s.objects))
      ∙ sym (flat_map-append (numbered_links s) (flat_map (λ e. pencil_operations s e.0 e.1) (enumerate_from 0 s.pencils)) (flat_map (object_operations s) s.objects))
      ∙ ap (λ l. l ++ flat_map (numbered_links s) (flat_map (λ e. pencil_operations s e.0 e.1) (enumerate_from 0 s.pencils) ++ flat_map (object_operations s) s.objects)) (sym (time_links s))
