-- What is pushed onto a list of operations, a piece at a time.
use Rattle.std.proofs.Common.{◌≡◌, ℕ, ◌+◌, ◌<◌, List, [], ◌∷◌, ◌++◌, length, map, take, get_or, slice_get, Some, sym, ap, ◌∙◌, if◌then◌else◌}
use Rattle.std.specs.Prelude.{is_some, option_and_then}
use Rattle.std.specs.List.{cons_option, range_with_len}
use Rattle.std.proofs.lemmas.List.{append_assoc, map-append, take_more}
use Rattle.std.proofs.lemmas.List.Elements.{filter_map-append}
use Rattle.std.proofs.lemmas.List.FromFn.{map-range_with_len_more}
use Rattle.rig_scene.specs.declared.driver.Driver.{Driver as DriverRecord}
use Rattle.rig_scene.specs.declared.id.AnimId.{AnimId}
use Rattle.rig_scene.specs.declared.id.AnimId.TheVariants as anim
use Rattle.rig_scene.specs.declared.object.Object.{Object}
use Rattle.rig_scene.specs.declared.operation.OpId.{OpId}
use Rattle.rig_scene.specs.declared.operation.OpId.TheVariants.{Animation, Driver, Local, World, Layer}
use Rattle.rig_scene.specs.declared.pencil.PencilData.{PencilData}
use Rattle.rig_scene.specs.Operations.{animation_of, driver_operations, pencil_operations, kind_operations, object_operations}
use Rattle.rig_scene.specs.Scene.{SceneRecord, object_of}
use Rattle.rig_nodes.specs.Drivers.{driver_indices}
use Rattle.rig_nodes.specs.DriverRows.{drivers_at, drivers_at-indices}

-- ---- rows of numbered operations

-- one more of those that a function gives of numbers in a row
pub one_more : {A : Type 0} (f : ℕ → A) (a i j : ℕ) (old xs ys : List A) → a + i ≡ j → xs ≡ old ++ map f (range_with_len a i) → ys ≡ xs ++ f j ∷ []
    → ys ≡ old ++ map f (range_with_len a (i + 1))
one_more f a i j old xs ys at so_far pushed =
    pushed ∙ ap (λ l. l ++ f j ∷ []) so_far ∙ append_assoc old (map f (range_with_len a i)) (f j ∷ []) ∙ ap (λ l. old ++ l) (sym (map-range_with_len_more f a i j at))

-- ---- drivers

-- the driver at one more index of a row
pub one_more_driver : (drivers : List DriverRecord) (row : List ℕ) (i e : ℕ) (d : DriverRecord) (old xs ys : List OpId)
    → i < length row → slice_get drivers (get_or row i e) ≡ Some d
    → xs ≡ old ++ map (λ (d : DriverRecord). Driver d.id d.path) (drivers_at drivers (take i row)) → ys ≡ xs ++ Driver d.id d.path ∷ []
    → ys ≡ old ++ map (λ (d : DriverRecord). Driver d.id d.path) (drivers_at drivers (take (i + 1) row))
one_more_driver drivers row i e d old xs ys within at so_far pushed =
    let more : drivers_at drivers (take (i + 1) row) ≡ drivers_at drivers (take i row) ++ d ∷ [] =
    ap (drivers_at drivers) (take_more row i e within)
    ∙ filter_map-append (slice_get drivers) (take i row) (get_or row i e ∷ [])
    ∙ ap (λ o. drivers_at drivers (take i row) ++ cons_option o []) at in
    pushed
    ∙ ap (λ l. l ++ Driver d.id d.path ∷ []) so_far
    ∙ append_assoc old (map (λ (d : DriverRecord). Driver d.id d.path) (drivers_at drivers (take i row))) (Driver d.id d.path ∷ [])
    ∙ ap (λ l. old ++ l) (sym (map-append (λ (d : DriverRecord). Driver d.id d.path) (drivers_at drivers (take i row)) (d ∷ [])))
    ∙ ap (λ l. old ++ map (λ (d : DriverRecord). Driver d.id d.path) l) (sym more)

module _ (s : SceneRecord) (id : AnimId) (row : List ℕ) (is_row : row ≡ driver_indices s id) (drivers : List DriverRecord) (same : drivers ≡ s.drivers)
    (start animated driven : List OpId)
    (animation : animated ≡ start ++ animation_of s id)
    (driver : driven ≡ animated ++ map (λ (d : DriverRecord). Driver d.id d.path) (drivers_at drivers row)) where
  -- the animation of an id and its drivers
  pub channels_pushed : driven ≡ start ++ (animation_of s id ++ driver_operations s id)
  channels_pushed =
      driver
      ∙ ap (λ ds. animated ++ map (λ (d : DriverRecord). Driver d.id d.path) ds) (ap (λ l. drivers_at l row) same ∙ ap (drivers_at s.drivers) is_row ∙ drivers_at-indices s id)
      ∙ ap (λ l. l ++ driver_operations s id) animation
      ∙ append_assoc start (animation_of s id) (driver_operations s id)

-- ---- pencils and objects

module _ (s : SceneRecord) (p : ℕ) (pencil : PencilData) (at : slice_get s.pencils p ≡ Some pencil) where
  pub pencil_animation : (if is_some pencil.action then Animation (anim.Pencil p) ∷ [] else []) ≡ animation_of s (anim.Pencil p)
  pencil_animation = ap (λ o. if is_some (option_and_then (λ (p : PencilData). p.action) o) then Animation (anim.Pencil p) ∷ [] else []) (sym at)

  pub pencil_pushed : (start driven : List OpId) (layers : ℕ) → driven ≡ start ++ (animation_of s (anim.Pencil p) ++ driver_operations s (anim.Pencil p)) → layers ≡ length pencil.layers
      → driven ++ map (Layer p) (range_with_len 0 layers) ≡ start ++ pencil_operations s p pencil
  pencil_pushed start driven layers channels count =
      ap (λ n. driven ++ map (Layer p) (range_with_len 0 n)) count
      ∙ ap (λ l. l ++ map (Layer p) (range_with_len 0 (length pencil.layers))) channels
      ∙ append_assoc start (animation_of s (anim.Pencil p) ++ driver_operations s (anim.Pencil p)) (map (Layer p) (range_with_len 0 (length pencil.layers)))

module _ (s : SceneRecord) (o : Object) (at : object_of s o.id ≡ Some o) where
  pub object_animation : (if is_some o.action then Animation (anim.Object o.id) ∷ [] else []) ≡ animation_of s (anim.Object o.id)
  object_animation = ap (λ r. if is_some (option_and_then (λ (o : Object). o.action) r) then Animation (anim.Object o.id) ∷ [] else []) (sym at)

  pub object_pushed : (start driven local world : List OpId) → driven ≡ start ++ (animation_of s (anim.Object o.id) ++ driver_operations s (anim.Object o.id))
      → local ≡ driven ++ Local o.id ∷ [] → world ≡ local ++ World o.id ∷ []
      → world ++ kind_operations o.id o.kind ≡ start ++ object_operations s o
  object_pushed start driven local world channels is_local is_world =
      ap (λ l. l ++ kind_operations o.id o.kind) (is_world ∙ ap (λ l. l ++ World o.id ∷ []) (is_local ∙ ap (λ l. l ++ Local o.id ∷ []) channels))
      ∙ append_assoc (start ++ (animation_of s (anim.Object o.id) ++ driver_operations s (anim.Object o.id)) ++ Local o.id ∷ []) (World o.id ∷ []) (kind_operations o.id o.kind)
      ∙ append_assoc (start ++ (animation_of s (anim.Object o.id) ++ driver_operations s (anim.Object o.id))) (Local o.id ∷ []) (World o.id ∷ kind_operations o.id o.kind)
      ∙ append_assoc start (animation_of s (anim.Object o.id) ++ driver_operations s (anim.Object o.id)) (Local o.id ∷ World o.id ∷ kind_operations o.id o.kind)
