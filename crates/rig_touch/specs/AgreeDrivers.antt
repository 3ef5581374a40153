-- What a driver that is set or cleared leaves as it was for an operation that it doesn't touch, with in-links as before.
use Rattle.std.specs.Prelude.{◌≡◌, ℕ, zero, suc, ◌||◌, ◌&&◌, not, List, [], ◌∷◌, ◌++◌, filter, slice_get, slice_set, Bool, true, false, if◌then◌else◌, Option, None, Some, is_some, IsTrue, Contains}
use Rattle.std.specs.Option.{option_map_or, option_or}
use Rattle.std.specs.List.{find, list_any}
use Rattle.std.proofs.Common.{refl, sym, ap, ◌∙◌, subst, cond, arith}
use Rattle.std.proofs.lemmas.Bool.{and_parts, or_parts, false≢true, false_from_ne_true}
use Rattle.std.proofs.lemmas.List.Folds.{find-append, list_any-append}
use Rattle.std.proofs.lemmas.Option.{same_Some}
use Rattle.rig_scene.specs.declared.driver.Driver.{Driver as DriverRecord}
use Rattle.rig_scene.specs.declared.id.AnimId.{AnimId}
use Rattle.rig_scene.specs.declared.operation.OpId.{OpId}
use Rattle.rig_scene.specs.declared.operation.OpId.TheVariants.{Driver}
use Rattle.rig_scene.specs.declared.path.Path.{Path}
use Rattle.rig_scene.specs.Id.{same_id}
use Rattle.rig_scene.specs.Operations.{operations, ins}
use Rattle.rig_scene.specs.Path.{same_path}
use Rattle.rig_scene.specs.Same.{same_id-equal, same_id-itself, same_path-equal, same_path-itself}
use Rattle.rig_scene.specs.Scene.{SceneRecord}
use Rattle.rig_scene.specs.WellFormed.{is_scene, same_target}
use Rattle.rig_laws.specs.HasOperation.{operation_has}
use Rattle.rig_laws.specs.Members.{has_operation}
use Rattle.rig_laws.specs.Lists.{find-Some}
use Rattle.rig_edits.specs.declared.edit.Edit.TheVariants.{SetDriver, ClearDriver}
use Rattle.rig_edits.specs.declared.edit.IdName.{IdName}
use Rattle.rig_edits.specs.Accepted.{accepted}
use Rattle.rig_edits.specs.Conditions.{lacks_id, lacks_variable, first_cause}
use Rattle.rig_edits.specs.DriverByNames.{DriverByNames}
use Rattle.rig_edits.specs.Edited.{new_driver, put_driver, edited}
use Rattle.rig_edits.specs.KeepsDrivers.{keeps_clear_driver}
use Rattle.rig_edits.specs.Lists.{some_of, find_kept}
use Rattle.rig_edits.specs.Named.{id_of, update_first}
use Rattle.rig_edits.specs.Replaced.{kept_first, list_any-replaced}
use Rattle.rig_touch.specs.Agree.{Agree}
use Rattle.rig_touch.specs.OtherDrivers.{agree_more, agree_fewer}
use Rattle.rig_touch.specs.Touch.{touch}

-- ---- lists of drivers

-- whether something is found
found_any : {A : Type 0} (p : A → Bool) (xs : List A) → is_some (find p xs) ≡ list_any p xs
found_any p [] = refl
found_any p (x ∷ xs) = by (p x) (found_any p xs)
  where
    by : (b : Bool) → is_some (find p xs) ≡ list_any p xs → is_some (cond b (Some x) (find p xs)) ≡ (b || list_any p xs)
    by true rest = refl
    by false rest = rest

-- a search doesn't see that what doesn't pass is replaced by what doesn't pass
found_replaced : {A : Type 0} (p : A → Bool) (y : A) → p y ≡ false → (xs : List A) (i : ℕ) (x : A) → slice_get xs i ≡ Some x → p x ≡ false
    → find p (slice_set xs i y) ≡ find p xs
found_replaced p y new [] i x at old = refl
found_replaced p y new (z ∷ zs) zero x at old =
    ap (λ b. cond b (Some y) (find p zs)) new ∙ sym (ap (λ b. cond b (Some z) (find p zs)) (ap p (same_Some z x at) ∙ old))
found_replaced p y new (z ∷ zs) (suc i) x at old = ap (λ r. cond (p z) (Some z) r) (found_replaced p y new zs i x at old)

-- of what is kept none passes that none passes of all
any_kept : {A : Type 0} (p q : A → Bool) (xs : List A) → list_any p (filter q xs) ≡ true → list_any p xs ≡ true
any_kept p q [] e = e
any_kept p q (x ∷ xs) e = by (q x) e (any_kept p q xs)
  where
    either : (b c d : Bool) → (c ≡ true → d ≡ true) → (b || c) ≡ true → (b || d) ≡ true
    either true c d h e = refl
    either false c d h e = h e

    by : (b : Bool) → list_any p (cond b (x ∷ filter q xs) (filter q xs)) ≡ true
        → (list_any p (filter q xs) ≡ true → list_any p xs ≡ true) → list_any p (x ∷ xs) ≡ true
    by true e rest = either (p x) (list_any p (filter q xs)) (list_any p xs) rest e
    by false e rest = either_right (p x) (list_any p xs) (rest e)
      where
        either_right : (b c : Bool) → c ≡ true → (b || c) ≡ true
        either_right true c h = refl
        either_right false c h = h

-- none passes where only those are kept that don't
none_kept : {A : Type 0} (p : A → Bool) (xs : List A) → find p (filter (λ x. not (p x)) xs) ≡ None
none_kept p [] = refl
none_kept p (x ∷ xs) = by (p x) refl (none_kept p xs)
  where
    by : (b : Bool) → p x ≡ b → find p (filter (λ x. not (p x)) xs) ≡ None
        → find p (cond (not b) (x ∷ filter (λ x. not (p x)) xs) (filter (λ x. not (p x)) xs)) ≡ None
    by true e rest = rest
    by false e rest = ap (λ b. cond b (Some x) (find p (filter (λ x. not (p x)) xs))) e ∙ rest

-- whether a driver is that of a channel
abbrev drives : AnimId → Path → DriverRecord → Bool
drives id path d = same_id d.id id && same_path d.path path

drives_is : (id : AnimId) (path : Path) (d : DriverRecord) → drives id path d ≡ true → (d.id ≡ id) × (d.path ≡ path)
drives_is id path d e =
    let parts = and_parts (same_id d.id id) (same_path d.path path) e in
    (same_id-equal d.id id parts.0, same_path-equal d.path path parts.1)

drives_own : (id : AnimId) (path : Path) (d : DriverRecord) → d.id ≡ id → d.path ≡ path → drives id path d ≡ true
drives_own id path d i p = (λ k. same_id (i k) id && same_path (p k) path) ∙ rw (same_id-itself id) (same_path-itself path)

-- ---- a driver put in its place

module _ (d : DriverRecord) (ds : List DriverRecord) where
  -- it replaces one of its channel, or stands behind all
  put_is : (P : List DriverRecord → Type 0) → P (update_first (same_target d) (λ _. d) ds) → P (ds ++ d ∷ []) → P (put_driver d ds)
  put_is P first last = by (list_any (same_target d) ds)
    where
      by : (b : Bool) → P (if b then update_first (same_target d) (λ _. d) ds else ds ++ d ∷ [])
      by true = first
      by false = last

  -- what it replaces drives the same channels
  replaced_alike : (id : AnimId) (path : Path) (e : DriverRecord) → find (same_target d) ds ≡ Some e → drives id path d ≡ drives id path e
  replaced_alike id path e found =
      let parts = and_parts (same_id d.id e.id) (same_path d.path e.path) (find-Some (same_target d) ds e found).1 in
      let i : d.id ≡ e.id = same_id-equal d.id e.id parts.0 in
      let p : d.path ≡ e.path = same_path-equal d.path e.path parts.1 in
      λ k. same_id (i k) id && same_path (p k) path

  -- the drivers of other channels are found as before
  put_others : (id : AnimId) (path : Path) → drives id path d ≡ false → find (drives id path) (put_driver d ds) ≡ find (drives id path) ds
  put_others id path other =
      put_is (λ es. find (drives id path) es ≡ find (drives id path) ds)
      (kept_first (λ es. find (drives id path) es ≡ find (drives id path) ds) (λ _. d) (same_target d) ds refl
      (λ i e at found. found_replaced (drives id path) d other ds i e at (sym (replaced_alike id path e found) ∙ other)))
      (find-append (drives id path) ds (d ∷ []) ∙ ap (λ b. option_or (find (drives id path) ds) (cond b (Some d) None)) other
      ∙ alone (find (drives id path) ds))
    where
      alone : (r : Option DriverRecord) → option_or r None ≡ r
      alone None = refl
      alone (Some x) = refl

  -- what was driven is driven
  put_more : (id : AnimId) (path : Path) → list_any (drives id path) ds ≡ true → list_any (drives id path) (put_driver d ds) ≡ true
  put_more id path h =
      put_is (λ es. list_any (drives id path) es ≡ true)
      (kept_first (λ es. list_any (drives id path) es ≡ true) (λ _. d) (same_target d) ds h
      (λ i e at found. list_any-replaced (drives id path) ds i e d at (replaced_alike id path e found) ∙ h))
      (list_any-append (drives id path) ds (d ∷ []) ∙ ap (λ b. b || list_any (drives id path) (d ∷ [])) h)

-- ---- the edits

-- the operation of a driver that is set is touched
other_target : (id : AnimId) (path : Path) (d : DriverRecord) → (Contains (Driver d.id d.path ∷ []) (Driver id path) → ⊥)
    → drives id path d ≡ false
other_target id path d untouched =
    false_from_ne_true (drives id path d)
    (λ is. let same = drives_is id path d is in
    untouched (subst (λ x. Contains (Driver d.id d.path ∷ []) x) (λ i. Driver (same.0 i) (same.1 i)) (0, omega arith, refl)))

-- a driver that is put in its place
agree_put : (s : SceneRecord) (d : DriverRecord) (op : OpId) → (Contains (Driver d.id d.path ∷ []) op → ⊥)
    → ins s op ≡ ins (record s { drivers = put_driver d s.drivers }) op → Agree s (record s { drivers = put_driver d s.drivers }) op
agree_put s d op untouched links =
    agree_more s (put_driver d s.drivers)
    (λ id path h. found_any (drives id path) (put_driver d s.drivers)
    ∙ put_more d s.drivers id path (sym (found_any (drives id path) s.drivers) ∙ h)) op
    (λ id path is. sym (put_others d s.drivers id path
    (other_target id path d (λ c. untouched (subst (Contains (Driver d.id d.path ∷ [])) (sym is) c)))))
    links

-- what isn't touched by a driver that is set
pub agree_set_driver : (s : SceneRecord) → IsTrue (is_scene s) → (id : IdName) (path : Path) (driver : DriverByNames)
    → first_cause s (SetDriver id path driver) ≡ None → (op : OpId)
    → Contains (operations s) op → Contains (operations (edited s (SetDriver id path driver))) op
    → (Contains (touch s (SetDriver id path driver)) op → ⊥) → ins s op ≡ ins (edited s (SetDriver id path driver)) op
    → Agree s (edited s (SetDriver id path driver)) op
unfolding touch
agree_set_driver s is id path driver none op before after untouched links =
    let known = or_parts (lacks_id s id) (list_any (lacks_variable s) driver.variables)
    (accepted s (SetDriver id path driver) none).id_is_known in
    let a = some_of (id_of s id) known.0 in
    by (id_of s id) a.0 a.1 untouched links
  where
    by : (r : Option AnimId) (a : AnimId) → r ≡ Some a → (Contains (option_map_or (λ a. Driver a path ∷ []) r []) op → ⊥)
        → ins s op ≡ ins (option_map_or (λ a. record s { drivers = put_driver (new_driver s a path driver) s.drivers }) r s) op
        → Agree s (option_map_or (λ a. record s { drivers = put_driver (new_driver s a path driver) s.drivers }) r s) op
    by None a e untouched links = cc
    by (Some b) a e untouched links = agree_put s (new_driver s b path driver) op untouched links

-- the scene without the driver of a channel
abbrev undriven : SceneRecord → AnimId → Path → SceneRecord
undriven s a path = record s { drivers = filter (λ d. not (drives a path d)) s.drivers }

-- an operation that is still there isn't that of the driver that is cleared
agree_undriven : (s : SceneRecord) (a : AnimId) (path : Path) (op : OpId) → IsTrue (has_operation (undriven s a path) op)
    → ins s op ≡ ins (undriven s a path) op → Agree s (undriven s a path) op
agree_undriven s a path op there links =
    agree_fewer s kept
    (λ i p h. found_any (drives i p) s.drivers ∙ any_kept (drives i p) keeps s.drivers (sym (found_any (drives i p) kept) ∙ h)) op
    (λ i p is. sym (find_kept (drives i p) keeps
    (λ d own. by i p (subst (λ x. IsTrue (has_operation (undriven s a path) x)) is there) d own (drives a path d) refl) s.drivers)) links
  where
    keeps : DriverRecord → Bool
    keeps d = not (drives a path d)

    kept : List DriverRecord
    kept = filter keeps s.drivers

    by : (i : AnimId) (p : Path) → is_some (find (drives i p) kept) ≡ true → (d : DriverRecord) → drives i p d ≡ true
        → (b : Bool) → drives a path d ≡ b → not b ≡ true
    by i p driven d own false e = refl
    by i p driven d own true e =
        let one = drives_is i p d own in
        let two = drives_is a path d e in
        let id : a ≡ i = sym two.0 ∙ one.0 in
        let at : path ≡ p = sym two.1 ∙ one.1 in
        absurd (false≢true (sym (ap is_some (none_kept (drives a path) s.drivers)) ∙ (λ k. is_some (find (drives (id k) (at k)) kept)) ∙ driven))

-- what is still there where a driver is cleared
pub agree_clear_driver : (s : SceneRecord) → IsTrue (is_scene s) → (id : IdName) (path : Path)
    → first_cause s (ClearDriver id path) ≡ None → (op : OpId)
    → Contains (operations s) op → Contains (operations (edited s (ClearDriver id path))) op
    → (Contains (touch s (ClearDriver id path)) op → ⊥) → ins s op ≡ ins (edited s (ClearDriver id path)) op
    → Agree s (edited s (ClearDriver id path)) op
agree_clear_driver s is id path none op before after untouched links =
    let a = some_of (id_of s id) (accepted s (ClearDriver id path) none).id_is_known in
    by (id_of s id) a.0 a.1 (operation_has (edited s (ClearDriver id path)) (keeps_clear_driver s id path is none) op after) links
  where
    by : (r : Option AnimId) (a : AnimId) → r ≡ Some a → IsTrue (has_operation (option_map_or (λ a. undriven s a path) r s) op)
        → ins s op ≡ ins (option_map_or (λ a. undriven s a path) r s) op → Agree s (option_map_or (λ a. undriven s a path) r s) op
    by None a e there links = cc
    by (Some b) a e there links = agree_undriven s b path op there links
