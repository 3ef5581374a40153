-- What the rows of drivers hold, and where the row of each id stands.
use Rattle.std.proofs.Common.{◌≡◌, ℕ, suc, ◌+◌, ◌-◌, ◌<◌, Bool, true, false, cond, List, [], ◌∷◌, length, map, filter, get_or, slice_get, Option, Some, refl, ap, ◌∙◌, arith}
use Rattle.std.specs.List.{All, filter_map, cons_option, range_with_len, enumerate_from}
use Rattle.std.proofs.lemmas.List.{length-append, length-map, get_or_append_left, get_or-append_right, get_or-map}
use Rattle.std.proofs.lemmas.List.Elements.{All-filter, All-map}
use Rattle.std.proofs.lemmas.List.FromFn.{length-map-range_with_len, get_or-map-range_with_len, length-enumerate_from, get_or-enumerate_from}
use Rattle.std.proofs.lemmas.Option.{slice_get-get_or, slice_get_within, get_or_from_slice_get}
use Rattle.rig_scene.specs.declared.driver.Driver.{Driver}
use Rattle.rig_scene.specs.declared.id.AnimId.{AnimId}
use Rattle.rig_scene.specs.declared.id.AnimId.TheVariants as anim
use Rattle.rig_scene.specs.declared.object.Object.{Object}
use Rattle.rig_scene.specs.Drivers.{drivers_of}
use Rattle.rig_scene.specs.Id.{same_id}
use Rattle.rig_scene.specs.Scene.{SceneRecord}
use Rattle.rig_nodes.specs.Drivers.{driver_indices, driver_rows}

-- the drivers at the indices of a row
abbrev pub drivers_at : List Driver → List ℕ → List Driver
drivers_at drivers row = filter_map (λ i. slice_get drivers i) row

module _ {A : Type 0} (p : A → Bool) where
  at_index : (at : ℕ → Option A) (n : ℕ) (x : A) (xs : List A) → at n ≡ Some x
      → filter_map at (map (λ e. e.0) (filter (λ e. p e.1) (enumerate_from (n + 1) xs))) ≡ filter p xs
      → (b : Bool) → filter_map at (map (λ e. e.0) (cond b ((n, x) ∷ filter (λ e. p e.1) (enumerate_from (n + 1) xs)) (filter (λ e. p e.1) (enumerate_from (n + 1) xs)))) ≡ cond b (x ∷ filter p xs) (filter p xs)
  at_index at n x xs here rest true =
      ap (λ o. cons_option o (filter_map at (map (λ (e : ℕ × A). e.0) (filter (λ e. p e.1) (enumerate_from (n + 1) xs))))) here ∙ ap (λ l. x ∷ l) rest
  at_index at n x xs here rest false = rest

  -- what stands at the indices of those that pass a test, where a function gives what stands at an index
  at_indices : (at : ℕ → Option A) (n : ℕ) (xs : List A) → ((k : ℕ) → k < length xs → at (n + k) ≡ slice_get xs k)
      → filter_map at (map (λ e. e.0) (filter (λ e. p e.1) (enumerate_from n xs))) ≡ filter p xs
  at_indices at n [] gives = refl
  at_indices at n (x ∷ xs) gives = at_index at n x xs (ap at (omega arith) ∙ gives 0 (omega arith)) (at_indices at (n + 1) xs (λ k l. ap at (omega arith) ∙ gives (suc k) (omega arith))) (p x)

  -- such indices lie within the list
  within_list : (xs : List A) → All (λ i. i < length xs) (map (λ (e : ℕ × A). e.0) (filter (λ e. p e.1) (enumerate_from 0 xs)))
  within_list xs =
      All-map (λ i. i < length xs) (λ (e : ℕ × A). e.0) (filter (λ e. p e.1) (enumerate_from 0 xs))
      (All-filter (λ (e : ℕ × A). p e.1) (λ e. e.0 < length xs) (enumerate_from 0 xs) (λ k d l.
      let within : k < length xs = omega (arith, length-enumerate_from 0 xs) in
      let at : (get_or (enumerate_from 0 xs) k d).0 ≡ 0 + k = ap (λ (e : ℕ × A). e.0) (get_or-enumerate_from 0 xs k d within) in
      omega arith))

module _ (s : SceneRecord) where
  -- the drivers at the indices of an id's row are the drivers of the id
  pub drivers_at-indices : (id : AnimId) → drivers_at s.drivers (driver_indices s id) ≡ drivers_of s id
  drivers_at-indices id = at_indices (λ (d : Driver). same_id d.id id) (λ i. slice_get s.drivers i) 0 s.drivers (λ k l. ap (λ i. slice_get s.drivers i) (omega arith))

  pub indices_within : (id : AnimId) → All (λ i. i < length s.drivers) (driver_indices s id)
  indices_within id = within_list (λ (d : Driver). same_id d.id id) s.drivers

  pencil_rows-length : length (map (λ p. driver_indices s (anim.Pencil p)) (range_with_len 0 (length s.pencils))) ≡ length s.pencils
  pencil_rows-length = length-map-range_with_len (λ p. driver_indices s (anim.Pencil p)) 0 (length s.pencils)

  -- there is a row for each pencil and each object
  pub length-driver_rows : length (driver_rows s) ≡ length s.pencils + length s.objects
  length-driver_rows =
      length-append (map (λ p. driver_indices s (anim.Pencil p)) (range_with_len 0 (length s.pencils))) (map (λ (o : Object). driver_indices s (anim.Object o.id)) s.objects)
      ∙ ap (λ n. n + length (map (λ (o : Object). driver_indices s (anim.Object o.id)) s.objects)) pencil_rows-length
      ∙ ap (λ n. length s.pencils + n) (length-map s.objects (λ (o : Object). driver_indices s (anim.Object o.id)))

  -- the row of a pencil stands at its index
  pub pencil_row : (p : ℕ) → p < length s.pencils → slice_get (driver_rows s) p ≡ Some (driver_indices s (anim.Pencil p))
  pencil_row p l =
      slice_get-get_or (driver_rows s) p [] (omega (arith, length-driver_rows))
      ∙ ap Some (get_or_append_left (map (λ p. driver_indices s (anim.Pencil p)) (range_with_len 0 (length s.pencils))) (map (λ (o : Object). driver_indices s (anim.Object o.id)) s.objects) [] p (omega (arith, pencil_rows-length))
      ∙ get_or-map-range_with_len (λ p. driver_indices s (anim.Pencil p)) 0 (length s.pencils) p p [] l (omega arith))

  -- and that of an object behind them, at its own
  pub object_row : (i : ℕ) (o : Object) → slice_get s.objects i ≡ Some o → slice_get (driver_rows s) (length s.pencils + i) ≡ Some (driver_indices s (anim.Object o.id))
  object_row i o at =
      let l : i < length s.objects = slice_get_within s.objects i o at in
      let index : length s.pencils + i - length s.pencils ≡ i = omega arith in
      slice_get-get_or (driver_rows s) (length s.pencils + i) [] (omega (arith, length-driver_rows))
      ∙ ap Some (get_or-append_right (map (λ p. driver_indices s (anim.Pencil p)) (range_with_len 0 (length s.pencils))) (map (λ (o : Object). driver_indices s (anim.Object o.id)) s.objects) (length s.pencils) (length s.pencils + i) [] pencil_rows-length (omega arith)
      ∙ ap (λ k. get_or (map (λ (o : Object). driver_indices s (anim.Object o.id)) s.objects) k []) index
      ∙ get_or-map (λ (o : Object). driver_indices s (anim.Object o.id)) s.objects i o [] l
      ∙ ap (λ (o : Object). driver_indices s (anim.Object o.id)) (get_or_from_slice_get s.objects i o o at))
