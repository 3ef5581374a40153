-- Rows of in-links by number, and by operation.
use Rattle.std.specs.Prelude.{slice_get, Contains}
use Rattle.std.specs.List.{All, filter_map, cons_option}
use Rattle.std.proofs.Common.{◌≡◌, ◌≢◌, ◌&&◌, ◌||◌, ℕ, suc, ◌+◌, ◌<◌, ◌≤◌, Bool, true, false, not, List, [], ◌∷◌, length, map, drop, get_or, Option, Some, refl, sym, ap, ◌∙◌, subst}
use Rattle.std.proofs.Math.Bool.{beq}
use Rattle.std.proofs.lemmas.Bool.{false_from_ne_true}
use Rattle.std.proofs.lemmas.List.{drop_more, drop_all}
use Rattle.std.proofs.lemmas.List.Elements.{All-head, All-tail}
use Rattle.std.proofs.lemmas.Option.{slice_get-map, slice_get-get_or, same_Some}
use Rattle.std.specs.Option.{option_map}
use Rattle.rig_cycles.specs.Elements.{any_from_element, element_from_any}
use Rattle.rig_links.specs.declared.table.In.{In}
use Rattle.rig_links.specs.Links.{Links, link_named}
use Rattle.rig_links.specs.Numbers.{same_operation}
use Rattle.rig_links.specs.SameOperation.{same_operation-Decides}
use Rattle.rig_scene.specs.Found.{Contains-slice_get}
use Rattle.rig_scene.specs.declared.operation.OpId.{OpId}
use Rattle.rig_scene.specs.declared.operation.OpId.TheVariants.{Time}
use Rattle.rig_scene.specs.Operations.{InLink, operations, ins}
use Rattle.rig_scene.specs.Scene.{SceneRecord}
use Rattle.rig_flush.specs.Retag.{is_one_of, same_link, same_links}
use Rattle.rig_flush.specs.Tables.{AreTablesOf}

-- ---- two in-links

same_marked : (a b : OpId) (c d : Bool) → same_operation a b ≡ true → beq c d ≡ same_link (record { op = a; cut = c }) (record { op = b; cut = d })
same_marked a b true true h = ap (λ s. s && true) (sym h)
same_marked a b true false h = ap (λ s. s && false) (sym h)
same_marked a b false true h = ap (λ s. s && false) (sym h)
same_marked a b false false h = ap (λ s. s && true) (sym h)

named_is : (ops : List OpId) (l : In) (op : OpId) → slice_get ops l.source ≡ Some op → link_named ops l ≡ Some (record { op = op; cut = l.cut })
named_is ops l op at = ap (λ o. option_map (λ op. record { op = op; cut = l.cut }) o) at

module _ (old_ops new_ops : List OpId) (old new : In) (a b : OpId) (old_at : slice_get old_ops old.source ≡ Some a) (new_at : slice_get new_ops new.source ≡ Some b) where
  pub both_marks : same_operation a b ≡ true → (x y : InLink) → link_named old_ops old ≡ Some x → link_named new_ops new ≡ Some y → beq old.cut new.cut ≡ same_link x y
  both_marks h x y e f =
      let xs : record { op = a; cut = old.cut } ≡ x = same_Some _ _ (sym (named_is old_ops old a old_at) ∙ e) in
      let ys : record { op = b; cut = new.cut } ≡ y = same_Some _ _ (sym (named_is new_ops new b new_at) ∙ f) in
      same_marked a b old.cut new.cut h
      ∙ ap (λ z. same_link z (record { op = b; cut = new.cut })) xs ∙ ap (same_link x) ys

-- ---- two rows

abbrev pub named : List OpId → List In → List InLink
named ops row = filter_map (link_named ops) row

module _ (ops : List OpId) where
  -- the next link
  named_cons : (l : In) (row : List In) → l.source < length ops → (x : InLink) × (link_named ops l ≡ Some x) × (named ops (l ∷ row) ≡ x ∷ named ops row)
  named_cons l row h =
      let op = get_or ops l.source Time in
      let is = named_is ops l op (slice_get-get_or ops l.source Time h) in
      (record { op = op; cut = l.cut }, is, ap (λ o. cons_option o (named ops row)) is)

  pub length-named : (row : List In) → All (λ l. l.source < length ops) row → length (named ops row) ≡ length row
  length-named [] within = refl
  length-named (l ∷ row) within =
      ap length (named_cons l row (All-head (λ l. l.source < length ops) l row within)).2
      ∙ ap suc (length-named row (All-tail (λ l. l.source < length ops) l row within))

pub not_as_long : (xs ys : List InLink) → length xs ≢ length ys → same_links xs ys ≡ false
not_as_long [] [] h = absurd (h refl)
not_as_long [] (y ∷ ys) h = refl
not_as_long (x ∷ xs) [] h = refl
not_as_long (x ∷ xs) (y ∷ ys) h = ap (λ s. same_link x y && s) (not_as_long xs ys (λ e. h (ap suc e))) ∙ and_false (same_link x y)
  where
    and_false : (b : Bool) → (b && false) ≡ false
    and_false true = refl
    and_false false = refl

module _ (old_ops new_ops : List OpId) (old new : List In) (old_within : All (λ l. l.source < length old_ops) old) (new_within : All (λ l. l.source < length new_ops) new) where
  pub rows_apart : length old ≢ length new → same_links (named old_ops old) (named new_ops new) ≡ false
  rows_apart h = not_as_long (named old_ops old) (named new_ops new) (λ e. h (sym (length-named old_ops old old_within) ∙ e ∙ length-named new_ops new new_within))

  abbrev pub same_from : ℕ → Bool
  same_from i = same_links (named old_ops (drop i old)) (named new_ops (drop i new))

  pub row_step : (i : ℕ) (d : In) (r : Bool) → i < length old → i < length new → ((x y : InLink) → link_named old_ops (get_or old i d) ≡ Some x → link_named new_ops (get_or new i d) ≡ Some y → r ≡ same_link x y) → same_from i ≡ (r && same_from (i + 1))
  row_step i d r h k test =
      let x = named_cons old_ops (get_or old i d) (drop (i + 1) old) (old_within i d h) in
      let y = named_cons new_ops (get_or new i d) (drop (i + 1) new) (new_within i d k) in
      ap (λ l. same_links (named old_ops l) (named new_ops (drop i new))) (drop_more old i d h)
      ∙ ap (λ l. same_links (named old_ops (get_or old i d ∷ drop (i + 1) old)) (named new_ops l)) (drop_more new i d k)
      ∙ ap (λ l. same_links l (named new_ops (get_or new i d ∷ drop (i + 1) new))) x.2
      ∙ ap (λ l. same_links (x.0 ∷ named old_ops (drop (i + 1) old)) l) y.2
      ∙ ap (λ t. t && same_from (i + 1)) (sym (test x.0 y.0 x.1 y.1))

  pub rows_done : (i : ℕ) → length old ≤ i → length new ≤ i → same_from i ≡ true
  rows_done i h k = ap (λ l. same_links (named old_ops l) (named new_ops (drop i new))) (drop_all i old h) ∙ ap (λ l. same_links [] (named new_ops l)) (drop_all i new k)

-- ---- the row of an operation of a scene

named_of : (ops : List OpId) (row : List In) (xs : List InLink) → map (link_named ops) row ≡ map Some xs → named ops row ≡ xs
named_of ops row xs e = each (link_named ops) row ∙ ap (filter_map (λ o. o)) e ∙ sym (each Some xs) ∙ all xs
  where
    each : {X : Type 0} (f : X → Option InLink) (l : List X) → filter_map f l ≡ filter_map (λ o. o) (map f l)
    each f [] = refl
    each f (x ∷ l) = ap (cons_option (f x)) (each f l)

    all : (l : List InLink) → filter_map Some l ≡ l
    all [] = refl
    all (x ∷ l) = ap (λ m. x ∷ m) (all l)

pub row_named : (s : SceneRecord) (ops : List OpId) (links : Links) → AreTablesOf s ops links → (n : ℕ) (row : List In) (op : OpId) → slice_get links.ins n ≡ Some row → slice_get ops n ≡ Some op → named ops row ≡ ins s op
row_named s ops links tables n row op at is =
    ap (λ l. named l row) tables.same
    ∙ named_of (operations s) row (ins s op) (same_Some _ _
    (sym (slice_get-map (map (link_named (operations s))) links.ins n ∙ ap (option_map (map (link_named (operations s)))) at)
    ∙ ap (λ l. slice_get l n) tables.ins
    ∙ slice_get-map (λ op. map Some (ins s op)) (operations s) n
    ∙ ap (option_map (λ op. map Some (ins s op))) (subst (λ l. slice_get l n ≡ Some op) tables.same is)))

-- ---- whether an operation is one of some

pub one_of : (ops : List OpId) (op : OpId) → Contains ops op → is_one_of ops op ≡ true
one_of ops op e = any_from_element (same_operation op) ops op e ((same_operation-Decides op op).1 refl)

pub none_of : (ops : List OpId) (op : OpId) → (Contains ops op → ⊥) → is_one_of ops op ≡ false
none_of ops op out = false_from_ne_true (is_one_of ops op) (λ t.
    let found = element_from_any (same_operation op) ops t in
    out (subst (λ o. Contains ops o) (sym ((same_operation-Decides op found.0).0 found.2)) found.1))

module _ (before after : SceneRecord) (old_ops new_ops : List OpId) (old_links new_links : Links) (tables : AreTablesOf before old_ops old_links) (new_tables : AreTablesOf after new_ops new_links) (op : OpId) where
  pub had_before : (o n : ℕ) (old new : List In) → slice_get old_ops o ≡ Some op → slice_get new_ops n ≡ Some op → slice_get old_links.ins o ≡ Some old → slice_get new_links.ins n ≡ Some new
      → not (same_links (named old_ops old) (named new_ops new)) ≡ (not (is_one_of (operations before) op) || not (same_links (ins before op) (ins after op)))
  had_before o n old new at there old_row new_row =
      ap (λ l. not (same_links l (named new_ops new))) (row_named before old_ops old_links tables o old op old_row at)
      ∙ ap (λ l. not (same_links (ins before op) l)) (row_named after new_ops new_links new_tables n new op new_row there)
      ∙ ap (λ b. not b || not (same_links (ins before op) (ins after op))) (sym (ap (λ l. is_one_of l op) (sym tables.same) ∙ one_of old_ops op (Contains-slice_get old_ops o op at)))

  pub new_since : (Contains old_ops op → ⊥) → true ≡ (not (is_one_of (operations before) op) || not (same_links (ins before op) (ins after op)))
  new_since out = ap (λ b. not b || not (same_links (ins before op) (ins after op))) (sym (ap (λ l. is_one_of l op) (sym tables.same) ∙ none_of old_ops op out))
