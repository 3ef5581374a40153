-- Drivers that are grouped by the rows of their ids are the rows of drivers.
use Rattle.std.proofs.Common.{◌≡◌, ℕ, ◌+◌, ◌-◌, ◌<◌, ◌≤◌, Bool, true, false, cond, List, [], ◌∷◌, length, map, filter, get_or, slice_get, Some, refl, sym, ap, ◌∙◌, ⊎_elim, arith}
use Rattle.std.specs.Prelude.{◌==◌}
use Rattle.std.specs.List.{All, enumerate_from}
use Rattle.std.proofs.lemmas.Bool.{cases_lt}
use Rattle.std.proofs.lemmas.List.{same_lists}
use Rattle.std.proofs.lemmas.List.Elements.{All-head, All-tail, All-map}
use Rattle.std.proofs.lemmas.List.FromFn.{length-map-range_with_len, get_or-map-range_with_len}
use Rattle.std.proofs.lemmas.Option.{get_or_from_slice_get}
use Rattle.rig_rows.specs.Rows.{indices_of, grouped}
use Rattle.rig_scene.specs.declared.driver.Driver.{Driver}
use Rattle.rig_scene.specs.declared.id.AnimId.TheVariants as anim
use Rattle.rig_scene.specs.declared.object.Object.{Object}
use Rattle.rig_scene.specs.Facts.{SceneFacts}
use Rattle.rig_scene.specs.Found.{some_slice_get}
use Rattle.rig_scene.specs.Id.{same_id}
use Rattle.rig_scene.specs.Scene.{SceneRecord}
use Rattle.rig_nodes.specs.Drivers.{driver_indices, driver_rows}
use Rattle.rig_nodes.specs.DriverRows.{length-driver_rows, pencil_row, object_row}
use Rattle.rig_nodes.specs.Slots.{slot_of}
use Rattle.rig_nodes.proofs.Ids.{slot_within, is_pencil_slot, is_object_slot}

module _ {A : Type 0} (f : A → ℕ) (p : A → Bool) (key : ℕ) where
  same_index : (n : ℕ) (x : A) (xs : List A)
      → map (λ e. e.0) (filter (λ e. e.1 == key) (enumerate_from (n + 1) (map f xs))) ≡ map (λ e. e.0) (filter (λ e. p e.1) (enumerate_from (n + 1) xs))
      → (b c : Bool) → b ≡ c
      → map (λ (e : ℕ × ℕ). e.0) (cond b ((n, f x) ∷ filter (λ e. e.1 == key) (enumerate_from (n + 1) (map f xs))) (filter (λ e. e.1 == key) (enumerate_from (n + 1) (map f xs))))
      ≡ map (λ (e : ℕ × A). e.0) (cond c ((n, x) ∷ filter (λ e. p e.1) (enumerate_from (n + 1) xs)) (filter (λ e. p e.1) (enumerate_from (n + 1) xs)))
  same_index n x xs rest true true same = ap (λ l. n ∷ l) rest
  same_index n x xs rest false false same = rest
  same_index n x xs rest b c same = absurd cc

  -- the indices of a key are those of the elements that pass a test, where that is what the keys say
  same_indices : (n : ℕ) (xs : List A) → All (λ x. (f x == key) ≡ p x) xs
      → map (λ e. e.0) (filter (λ e. e.1 == key) (enumerate_from n (map f xs))) ≡ map (λ e. e.0) (filter (λ e. p e.1) (enumerate_from n xs))
  same_indices n [] same = refl
  same_indices n (x ∷ xs) same =
      same_index n x xs (same_indices (n + 1) xs (All-tail (λ x. (f x == key) ≡ p x) x xs same)) (f x == key) (p x) (All-head (λ x. (f x == key) ≡ p x) x xs same)

module _ (s : SceneRecord) (facts : SceneFacts s) where
  -- the row of each driver is one of those for the pencils and objects
  pub slots_within : All (λ key. key < length s.pencils + length s.objects) (map (λ (d : Driver). slot_of s d.id) s.drivers)
  slots_within =
      All-map (λ key. key < length s.pencils + length s.objects) (λ (d : Driver). slot_of s d.id) s.drivers
      (λ k d l. slot_within s facts.objects.ids_rise (get_or s.drivers k d).id (get_or s.drivers k d).path (facts.drivers.each k d l).path_is_there)

  pencil_indices : (p : ℕ) → p < length s.pencils → indices_of p (map (λ (d : Driver). slot_of s d.id) s.drivers) ≡ driver_indices s (anim.Pencil p)
  pencil_indices p within =
      same_indices (λ (d : Driver). slot_of s d.id) (λ (d : Driver). same_id d.id (anim.Pencil p)) p 0 s.drivers
      (λ k d l. is_pencil_slot s facts.objects.ids_rise (get_or s.drivers k d).id (get_or s.drivers k d).path (facts.drivers.each k d l).path_is_there p within)

  object_indices : (i : ℕ) (o : Object) → slice_get s.objects i ≡ Some o → indices_of (length s.pencils + i) (map (λ (d : Driver). slot_of s d.id) s.drivers) ≡ driver_indices s (anim.Object o.id)
  object_indices i o at =
      same_indices (λ (d : Driver). slot_of s d.id) (λ (d : Driver). same_id d.id (anim.Object o.id)) (length s.pencils + i) 0 s.drivers
      (λ k d l. is_object_slot s facts.objects.ids_rise (get_or s.drivers k d).id (get_or s.drivers k d).path (facts.drivers.each k d l).path_is_there i o at)

  row_at : (k : ℕ) (d : List ℕ) → k < length s.pencils + length s.objects → indices_of k (map (λ (d : Driver). slot_of s d.id) s.drivers) ≡ get_or (driver_rows s) k d
  row_at k d l =
      ⊎_elim
      (λ (within : k < length s.pencils). pencil_indices k within ∙ sym (get_or_from_slice_get (driver_rows s) k (driver_indices s (anim.Pencil k)) d (pencil_row s k within)))
      (λ (behind : length s.pencils ≤ k).
      let index : k ≡ length s.pencils + (k - length s.pencils) = omega arith in
      let found = some_slice_get s.objects (k - length s.pencils) (omega arith) in
      ap (λ k. indices_of k (map (λ (d : Driver). slot_of s d.id) s.drivers)) index
      ∙ object_indices (k - length s.pencils) found.0 found.1
      ∙ sym (get_or_from_slice_get (driver_rows s) (length s.pencils + (k - length s.pencils)) (driver_indices s (anim.Object found.0.id)) d (object_row s (k - length s.pencils) found.0 found.1))
      ∙ ap (λ k. get_or (driver_rows s) k d) (sym index))
      (cases_lt k (length s.pencils))

  pub grouped_rows : grouped (length s.pencils + length s.objects) (map (λ (d : Driver). slot_of s d.id) s.drivers) ≡ driver_rows s
  grouped_rows =
      let count : length (grouped (length s.pencils + length s.objects) (map (λ (d : Driver). slot_of s d.id) s.drivers)) ≡ length s.pencils + length s.objects =
      length-map-range_with_len (λ key. indices_of key (map (λ (d : Driver). slot_of s d.id) s.drivers)) 0 (length s.pencils + length s.objects) in
      same_lists (grouped (length s.pencils + length s.objects) (map (λ (d : Driver). slot_of s d.id) s.drivers)) (driver_rows s) (count ∙ sym (length-driver_rows s))
      (λ k d l.
      let within : k < length s.pencils + length s.objects = omega arith in
      get_or-map-range_with_len (λ key. indices_of key (map (λ (d : Driver). slot_of s d.id) s.drivers)) 0 (length s.pencils + length s.objects) k k d within (omega arith)
      ∙ row_at k d within)
