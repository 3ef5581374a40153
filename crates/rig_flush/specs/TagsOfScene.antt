-- Tags count by the scene: a tag that is no operation of it reaches nothing.
use Rattle.std.specs.Prelude.{nat_eq, Contains}
use Rattle.std.specs.Bool.{Decides}
use Rattle.std.specs.Option.{option_map_or}
use Rattle.std.specs.List.{position, list_any}
use Rattle.std.proofs.Common.{◌≡◌, ℕ, Bool, true, List, [], ◌∷◌, filter, get_or, Option, Some, None, refl, sym, subst}
use Rattle.std.proofs.lemmas.Bool.Decides.{same_from_decides}
use Rattle.std.proofs.lemmas.List.Elements.{Contains-get_or, filter_agree}
use Rattle.std.proofs.lemmas.List.Quantifiers.{position-Some}
use Rattle.rig_cycles.specs.Cut.{Arrow, leads}
use Rattle.rig_cycles.specs.Elements.{element_none, element_kept, kept_passes, any_from_element, element_from_any}
use Rattle.rig_cycles.specs.Leads.{leads_decides, walk_keeps}
use Rattle.rig_cycles.specs.Walk.{Walk}
use Rattle.rig_laws.specs.Kept.{kept_links}
use Rattle.rig_laws.specs.Lists.{Contains-flat_map, element_of_flat_map, filter_same}
use Rattle.rig_links.specs.Links.{Links, kept_reads}
use Rattle.rig_links.specs.Numbers.{same_operation}
use Rattle.rig_links.specs.SameOperation.{same_operation-Decides}
use Rattle.rig_scene.specs.declared.operation.OpId.{OpId}
use Rattle.rig_scene.specs.Found.{Contains-slice_get}
use Rattle.rig_scene.specs.Operations.{operations}
use Rattle.rig_scene.specs.Scene.{SceneRecord}
use Rattle.rig_flush.specs.Begun.{one_of_listed}
use Rattle.rig_flush.specs.Reach.{is_reached, reach}
use Rattle.rig_flush.specs.ReachByNumber.{is_operation, read_by_number}
use Rattle.rig_flush.specs.Retag.{is_one_of}
use Rattle.rig_flush.specs.Tables.{AreTablesOf, numbers_of, reached_numbers}

-- where one of some elements passes a test, one of others does that have them
any_of_more : {X : Type 0} (test : X → Bool) (xs ys : List X) → ((x : X) → Contains xs x → Contains ys x)
    → list_any test xs ≡ true → list_any test ys ≡ true
any_of_more test xs ys to t = let found = element_from_any test xs t in any_from_element test ys found.0 (to found.0 found.1) found.2

any_of_same : {X : Type 0} (test : X → Bool) (xs ys : List X)
    → ((x : X) → Contains xs x → Contains ys x) → ((x : X) → Contains ys x → Contains xs x) → list_any test xs ≡ list_any test ys
any_of_same test xs ys to back =
    same_from_decides {P = list_any test ys ≡ true} (list_any test xs) (list_any test ys)
    (any_of_more test xs ys to, any_of_more test ys xs back) (λ t. t, λ t. t)

-- an element of a list that has the operation is the operation
pub listed_if_one : (ops : List OpId) (op : OpId) → is_one_of ops op ≡ true → Contains ops op
listed_if_one ops op t =
    let found = element_from_any (same_operation op) ops t in
    subst (λ o. Contains ops o) (sym ((same_operation-Decides op found.0).0 found.2)) found.1

-- those of a scene's operations that are tagged
abbrev pub tags_of : SceneRecord → List OpId → List OpId
tags_of s tags = filter (is_one_of tags) (operations s)

module _ (s : SceneRecord) (tags : List OpId) where
  pub of_scene : (tag : OpId) → Contains (operations s) tag → Contains tags tag → Contains (tags_of s tags) tag
  of_scene tag within tagged = element_kept (is_one_of tags) (operations s) tag within (one_of_listed tags tag tagged)

  pub tag_of_scene : (tag : OpId) → Contains (tags_of s tags) tag → Contains tags tag
  tag_of_scene tag e = listed_if_one tags tag (kept_passes (is_one_of tags) (operations s) tag e)

-- ---- by number

module _ (s : SceneRecord) (ops : List OpId) (links : Links) (tables : AreTablesOf s ops links) (tags : List OpId) where
  abbrev number_at : OpId → List ℕ
  number_at tag = option_map_or (λ n. n ∷ []) (position (same_operation tag) ops) []

  -- what has a number is an operation of the scene
  numbered_there : (tag : OpId) (t : ℕ) → Contains (number_at tag) t → Contains (operations s) tag
  numbered_there tag t e = by (position (same_operation tag) ops) refl e
    where
      by : (o : Option ℕ) → position (same_operation tag) ops ≡ o → Contains (option_map_or (λ n. n ∷ []) o []) t
          → Contains (operations s) tag
      by None is c = absurd (element_none t c)
      by (Some n) is c =
          let found = position-Some (same_operation tag) ops n tag is in
          let here : tag ≡ get_or ops n tag = (same_operation-Decides tag (get_or ops n tag)).0 found.1 in
          subst (λ l. Contains l tag) tables.same (subst (λ o. Contains ops o) (sym here) (Contains-get_or ops n tag found.0))

  pub numbers_by_scene : reached_numbers ops links tags ≡ reached_numbers ops links (tags_of s tags)
  numbers_by_scene =
      filter_agree
      (is_reached nat_eq (kept_reads links.ins) (numbers_of ops tags))
      (is_reached nat_eq (kept_reads links.ins) (numbers_of ops (tags_of s tags)))
      (λ n. any_of_same (leads nat_eq (kept_reads links.ins) n) (numbers_of ops tags) (numbers_of ops (tags_of s tags))
      (λ t e. let tag = element_of_flat_map number_at tags t e in
      Contains-flat_map number_at (tags_of s tags) tag.0 t (of_scene s tags tag.0 (numbered_there tag.0 t tag.2) tag.1) tag.2)
      (λ t e. let tag = element_of_flat_map number_at (tags_of s tags) t e in
      Contains-flat_map number_at tags tag.0 t (tag_of_scene s tags tag.0 tag.1) tag.2))
      links.order

-- ---- by operation

-- what is needed of an operation of the scene is one
abbrev pub IsClosedScene : SceneRecord → Type 0
IsClosedScene s = (read : Arrow OpId) → Contains (kept_links s) read → Contains (operations s) read.source

module _ (s : SceneRecord) (closed : IsClosedScene s) (tags : List OpId) where
  abbrev LeadsToOne : List OpId → OpId → Type 0
  LeadsToOne from op = (tag : OpId) × Contains from tag × Walk (kept_links s) op tag

  abbrev leads_to : OpId → OpId → Bool
  leads_to op = leads same_operation (kept_links s) op

  walk_decides : (op tag : OpId) → Decides (leads_to op tag) (Walk (kept_links s) op tag)
  walk_decides op tag = leads_decides same_operation same_operation-Decides (kept_links s) op tag

  reached_decides : (from : List OpId) (op : OpId) → Decides (list_any (leads_to op) from) (LeadsToOne from op)
  reached_decides from op = (
    λ t. (let found = element_from_any (leads_to op) from t in (found.0, found.1, (walk_decides op found.0).0 found.2)),
    λ p. any_from_element (leads_to op) from p.0 p.1 ((walk_decides op p.0).1 p.2),
  )

  stays : {start end : OpId} → Walk (kept_links s) start end → Contains (operations s) start → Contains (operations s) end
  stays walk within = walk_keeps (kept_links s) (λ o. Contains (operations s) o) (λ read kept reader. closed read kept) walk within

  same_reached : (op : OpId) → Contains (operations s) op → list_any (leads_to op) tags ≡ list_any (leads_to op) (tags_of s tags)
  same_reached op within =
      let all = reached_decides tags op in
      same_from_decides {P = LeadsToOne (tags_of s tags) op} _ _ (
        λ t. (let p = all.0 t in (p.0, of_scene s tags p.0 (stays p.2 within) p.1, p.2)),
        λ p. all.1 (p.0, tag_of_scene s tags p.0 p.1, p.2),
      ) (reached_decides (tags_of s tags) op)

  pub reach_by_scene : reach s tags ≡ reach s (tags_of s tags)
  unfolding reach
  reach_by_scene =
      filter_same (λ op. list_any (leads_to op) tags) (λ op. list_any (leads_to op) (tags_of s tags)) (operations s) same_reached

-- a scene with tables is closed
pub closed_by_tables : (s : SceneRecord) (ops : List OpId) (links : Links) → AreTablesOf s ops links → IsClosedScene s
closed_by_tables s ops links tables read kept =
    let by = read_by_number s ops links tables read kept in
    Contains-slice_get (operations s) by.1 read.source (is_operation s ops links tables by.1 read.source by.3)
