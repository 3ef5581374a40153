-- Where an id has no drivers, none of its channels is driven. The driver of a scene is found by its id and path.
use Rattle.std.proofs.Common.{◌≡◌, ℕ, suc, ◌<◌, ◌&&◌, Bool, true, false, cond, List, [], ◌∷◌, ◌++◌, length, filter, get_or, slice_get, Some, ⊎_elim, refl, sym, ap, subst, ◌∙◌, arith}
use Rattle.std.specs.Prelude.{◌==◌, IsTrue, is_some, Contains}
use Rattle.std.specs.List.{All, AllPairs, find}
use Rattle.std.proofs.lemmas.Bool.{and_parts, and_from, cond-false, false_from_ne_true}
use Rattle.std.proofs.lemmas.Bool.Decides.{Decides-eqb}
use Rattle.std.proofs.lemmas.List.{append-nil}
use Rattle.std.proofs.lemmas.List.Elements.{All-contains}
use Rattle.std.proofs.lemmas.Option.{slice_get_read}
use Rattle.rig_cycles.specs.Elements.{element_cases, element_none}
use Rattle.rig_cut.specs.declared.links.Link.{Link}
use Rattle.rig_nodes.specs.Drivers.{driver_indices}
use Rattle.rig_nodes.specs.DriverRows.{drivers_at, drivers_at-indices}
use Rattle.rig_scene.specs.declared.driver.Driver.{Driver}
use Rattle.rig_scene.specs.declared.id.AnimId.{AnimId}
use Rattle.rig_scene.specs.declared.path.Path.{Path}
use Rattle.rig_scene.specs.Drivers.{driver_of, is_driven}
use Rattle.rig_scene.specs.FactsHold.{scene_facts}
use Rattle.rig_scene.specs.Found.{Contains-slice_get}
use Rattle.rig_scene.specs.Id.{same_id}
use Rattle.rig_scene.specs.Pairs.{AllPairs-head, AllPairs-tail}
use Rattle.rig_scene.specs.Path.{same_path}
use Rattle.rig_scene.specs.Same.{same_id-Decides, same_path-Decides}
use Rattle.rig_scene.specs.Scene.{SceneRecord}
use Rattle.rig_scene.specs.WellFormed.{is_scene}
use Rattle.rig_links.specs.Parts.{driven}

-- where nothing passes a test, nothing passes it and another
find_both : {A : Type 0} (p q : A → Bool) (xs : List A) → filter p xs ≡ [] → is_some (find (λ x. p x && q x) xs) ≡ false
find_both p q [] none = refl
find_both {A} p q (x ∷ xs) none = by (p x) none (find_both p q xs)
  where
    by : (b : Bool) → cond b (x ∷ filter p xs) (filter p xs) ≡ [] → (filter p xs ≡ [] → is_some (find (λ x. p x && q x) xs) ≡ false)
        → is_some (cond (b && q x) (Some x) (find (λ x. p x && q x) xs)) ≡ false
    by true none rest = absurd (cc)
    by false none rest = rest none

module _ (s : SceneRecord) where
  not_driven : (id : AnimId) → driver_indices s id ≡ [] → (p : Path) → is_driven s id p ≡ false
  not_driven id none p =
      find_both (λ (d : Driver). same_id d.id id) (λ d. same_path d.path p) s.drivers
      (sym (drivers_at-indices s id) ∙ ap (drivers_at s.drivers) none)

  none_driven : (n : ℕ) (id : AnimId) → driver_indices s id ≡ [] → (paths : List Path) → driven s n id paths ≡ []
  none_driven n id none [] = refl
  none_driven n id none (p ∷ ps) = rw (not_driven id none p) (none_driven n id none ps)

  -- nothing is pushed for an id whose row of drivers is empty
  pub nothing_pushed : (n : ℕ) (id : AnimId) (row : List ℕ) → row ≡ driver_indices s id → (length row == 0) ≡ true → (paths : List Path) (links : List Link)
      → links ≡ links ++ driven s n id paths
  nothing_pushed n id row is empty paths links = sym (ap (λ l. links ++ l) (none_driven n id (sym is ∙ none row empty) paths) ∙ append-nil links)
    where
      none : (row : List ℕ) → (length row == 0) ≡ true → row ≡ []
      none [] e = refl
      none (i ∷ row) e = let empty : suc (length row) ≡ 0 = (Decides-eqb (suc (length row)) 0).0 e in absurd (omega arith)

-- ---- a driver is the first of its id and path

abbrev AreApart : Driver → Driver → Type 0
AreApart d e = ¬ ((d.id ≡ e.id) × (d.path ≡ e.path))

-- the test by which a search finds a driver
abbrev is_target : Driver → Driver → Bool
is_target d e = same_id e.id d.id && same_path e.path d.path

find_one : (xs : List Driver) → AllPairs AreApart xs → (d : Driver) → Contains xs d → find (is_target d) xs ≡ Some d
find_one [] apart d c = absurd (element_none d c)
find_one (x ∷ xs) apart d c = ⊎_elim here (λ c. there c (find_one xs (AllPairs-tail AreApart x xs apart) d c)) (element_cases x xs d c)
  where
    here : x ≡ d → cond (is_target d x) (Some x) (find (is_target d) xs) ≡ Some d
    here e =
        ap (λ b. cond b (Some x) (find (is_target d) xs))
        (and_from (same_id x.id d.id) (same_path x.path d.path) ((same_id-Decides x.id d.id).1 (ap (λ (d : Driver). d.id) e)) ((same_path-Decides x.path d.path).1 (ap (λ (d : Driver). d.path) e)))
        ∙ ap Some e

    there : Contains xs d → find (is_target d) xs ≡ Some d → cond (is_target d x) (Some x) (find (is_target d) xs) ≡ Some d
    there c rest =
        cond-false (is_target d x) (Some x) (find (is_target d) xs)
        (false_from_ne_true (is_target d x) (λ t.
        let parts = and_parts (same_id x.id d.id) (same_path x.path d.path) t in
        All-contains (AreApart x) xs d (AllPairs-head AreApart x xs apart) c ((same_id-Decides x.id d.id).0 parts.0, (same_path-Decides x.path d.path).0 parts.1)))
        ∙ rest

pub driver_found : (s : SceneRecord) → IsTrue (is_scene s) → (i : ℕ) (d : Driver) → slice_get s.drivers i ≡ Some d → driver_of s d.id d.path ≡ Some d
driver_found s met i d at = find_one s.drivers (scene_facts s met).drivers.targets_distinct d (Contains-slice_get s.drivers i d at)

-- a driver that is read at an index of a row
pub driver_at : (s : SceneRecord) (drivers : List Driver) → drivers ≡ s.drivers → (row : List ℕ) → All (λ i. i < length s.drivers) row → (k : ℕ) → k < length row
    → (d : Driver) → d ≡ get_or drivers (get_or row k 0) d → slice_get s.drivers (get_or row k 0) ≡ Some d
driver_at s drivers same row within k l d is =
    let below : get_or row k 0 < length s.drivers = within k 0 l in
    subst (λ ds. slice_get ds (get_or row k 0) ≡ Some d) same
    (slice_get_read drivers (length drivers) (get_or row k 0) d refl (omega (arith, ap length same)) is)
