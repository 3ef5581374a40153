-- An edit that keeps all links is taken in place: the parts of the graph after it, and the state that it is in.
use Rattle.std.specs.Prelude.{◌&&◌, ◌||◌, Contains, IsTrue, not, map, if◌then◌else◌, option_map, option_and_then}
use Rattle.std.proofs.Common.{◌≡◌, ◌⊎◌, inl, inr, ℕ, Bool, true, false, List, [], ◌∷◌, ◌++◌, Option, Some, None, refl, sym, ap, ◌∙◌, subst, ⊎_elim}
use Rattle.std.proofs.lemmas.Bool.{both_ways}
use Rattle.std.proofs.lemmas.Bool.Decides.{same_from_decides}
use Rattle.std.proofs.lemmas.List.Elements.{All-contains, Contains-append_left, Contains-push, Contains-push_cases}
use Rattle.std.proofs.Math.Path.{fun_ext}
use Rattle.rig_copies.specs.Copies.{kept_at}
use Rattle.rig_copies.specs.Numbers.{number_none}
use Rattle.rig_cycles.specs.Elements.{element_first, element_later, element_cases, element_none}
use Rattle.rig_edits.specs.declared.edit.Edit.{Edit}
use Rattle.rig_edits.specs.Edited.{edited}
use Rattle.rig_flush.specs.Begun.{one_of_listed}
use Rattle.rig_flush.specs.Graph.{GraphState, kept_of, taken, version_after}
use Rattle.rig_flush.specs.KeepsTables.{tables_kept, scene_tables_kept, shown_kept}
use Rattle.rig_flush.specs.Retag.{is_one_of, same_link, same_links, is_tagged_after, retagged}
use Rattle.rig_flush.specs.TagsOfScene.{listed_if_one, of_scene, tag_of_scene}
use Rattle.rig_graph.specs.declared.scene_copy.SceneCopy.{SceneCopy}
use Rattle.rig_graph.specs.Parts.{IsCopy, AreParts, Fits, record_of}
use Rattle.rig_graph.specs.State.{value_for, tags_of, published_of, state_of}
use Rattle.rig_graph.specs.Taking.{with_tag, with_tags}
use Rattle.rig_kernel.specs.declared.done.Done.{Done}
use Rattle.rig_laws.specs.Lists.{All-elements, filter_same}
use Rattle.rig_laws.specs.Output.{Output}
use Rattle.rig_links.specs.SameOperation.{same_operation-Decides}
use Rattle.rig_scene.specs.declared.modifier.Mode.{Mode}
use Rattle.rig_scene.specs.declared.operation.OpId.{OpId}
use Rattle.rig_scene.specs.Operations.{InLink, operations, ins}
use Rattle.rig_scene.specs.Scene.{SceneRecord}
use Rattle.rig_scene.specs.WellFormed.{is_scene}
use Rattle.rig_touch.specs.KeepsLinks.{keeps_links}
use Rattle.rig_touch.specs.KeepsShape.{operations_kept, ins_kept, cuts_kept}
use Rattle.rig_touch.specs.Touch.{touch}

-- ---- links that are left

same_link-itself : (op : OpId) (cut : Bool) → same_link (record { op = op; cut = cut }) (record { op = op; cut = cut }) ≡ true
same_link-itself op true = ap (λ b. b && true) ((same_operation-Decides op op).1 refl)
same_link-itself op false = ap (λ b. b && true) ((same_operation-Decides op op).1 refl)

same_links-itself : (links : List InLink) → same_links links links ≡ true
same_links-itself [] = refl
same_links-itself (link ∷ links) = ap (λ b. b && same_links links links) (same_link-itself link.op link.cut) ∙ same_links-itself links

-- ---- tags that are added

module _ (ops : List OpId) where
  -- one that is tagged after one more was, or is it
  from_one : (tags : List OpId) (m op : OpId) → Contains (with_tag ops tags m) op → Contains tags op ⊎ (Contains ops op × (m ≡ op))
  from_one tags m op listed = by (is_one_of ops m) refl listed
    where
      more : Contains ops m → (b : Bool) → Contains (if b then tags else tags ++ m ∷ []) op → Contains tags op ⊎ (Contains ops op × (m ≡ op))
      more there true listed = inl listed
      more there false listed = ⊎_elim (λ old. inl old) (λ same. inr (subst (λ o. Contains ops o) same there, same)) (Contains-push_cases tags m op listed)

      by : (b : Bool) → is_one_of ops m ≡ b → Contains (if b then if is_one_of tags m then tags else tags ++ m ∷ [] else tags) op
          → Contains tags op ⊎ (Contains ops op × (m ≡ op))
      by true there listed = more (listed_if_one ops m there) (is_one_of tags m) listed
      by false absent listed = inl listed

  -- what is tagged stays tagged
  stays_one : (tags : List OpId) (m op : OpId) → Contains tags op → Contains (with_tag ops tags m) op
  stays_one tags m op listed = by (is_one_of ops m) (is_one_of tags m)
    where
      by : (a b : Bool) → Contains (if a then if b then tags else tags ++ m ∷ [] else tags) op
      by true true = listed
      by true false = Contains-append_left tags (m ∷ []) op listed
      by false b = listed

  -- what is added is tagged, where it is an operation
  added_one : (tags : List OpId) (m : OpId) → Contains ops m → Contains (with_tag ops tags m) m
  added_one tags m there =
      subst (λ b. Contains (if b then if is_one_of tags m then tags else tags ++ m ∷ [] else tags) m) (sym (one_of_listed ops m there)) (by (is_one_of tags m) refl)
    where
      by : (b : Bool) → is_one_of tags m ≡ b → Contains (if b then tags else tags ++ m ∷ []) m
      by true one = listed_if_one tags m one
      by false none = Contains-push tags m

  from_some : (tags more : List OpId) (op : OpId) → Contains (with_tags ops tags more) op → Contains tags op ⊎ (Contains ops op × Contains more op)
  from_some tags [] op listed = inl listed
  from_some tags (m ∷ more) op listed =
      ⊎_elim
      (λ one. ⊎_elim (λ old. inl old) (λ new. inr (new.0, subst (λ o. Contains (m ∷ more) o) new.1 (element_first m more))) (from_one tags m op one))
      (λ later. inr (later.0, element_later m more op later.1))
      (from_some (with_tag ops tags m) more op listed)

  stays_some : (tags more : List OpId) (op : OpId) → Contains tags op → Contains (with_tags ops tags more) op
  stays_some tags [] op listed = listed
  stays_some tags (m ∷ more) op listed = stays_some (with_tag ops tags m) more op (stays_one tags m op listed)

  added_some : (tags more : List OpId) (op : OpId) → Contains ops op → Contains more op → Contains (with_tags ops tags more) op
  added_some tags [] op there listed = absurd (element_none op listed)
  added_some tags (m ∷ more) op there listed =
      ⊎_elim
      (λ same. stays_some (with_tag ops tags m) more op (subst (λ o. Contains (with_tag ops tags m) o) same (added_one tags m (subst (λ o. Contains ops o) (sym same) there))))
      (λ later. added_some (with_tag ops tags m) more op there later)
      (element_cases m more op listed)

-- ---- the state

module _ (mode : Mode) (version : ℕ) (c : SceneCopy) (tags : List OpId) (kept : List (Option Output)) (count : ℕ)
    (published : Option Done) (fits : Bool) (parts : AreParts mode c tags kept count published fits)
    (edit : Edit) (keeps : IsTrue (keeps_links c.scene edit)) (met : IsTrue (is_scene (edited c.scene edit))) where
  abbrev g : GraphState
  g = state_of (record_of mode version c tags kept published)

  abbrev after : SceneRecord
  after = edited c.scene edit

  abbrev copy_now : SceneCopy
  copy_now = record c { scene = after }

  abbrev tags_now : List OpId
  tags_now = with_tags c.nodes tags (touch c.scene edit)

  same_operations : operations after ≡ operations c.scene
  same_operations = operations_kept c.scene parts.copy.met edit keeps

  is_copy : IsCopy copy_now
  is_copy = record {
    met = met;
    tables = tables_kept c.scene parts.copy.met edit keeps c.nodes c.links parts.copy.tables;
    looked_up = scene_tables_kept c.scene parts.copy.met edit keeps c.tables parts.copy.looked_up;
    shown_count = parts.copy.shown_count;
    shown = parts.copy.shown ∙ ap (map Some) (sym (shown_kept c.scene parts.copy.met edit keeps));
    rests = parts.copy.rests;
  }

  fits_still : Fits c kept published → Fits copy_now kept published
  fits_still fit = record {
    done = fit.done;
    is = fit.is;
    outs = fit.outs;
    cuts = fit.cuts ∙ sym (cuts_kept c.scene parts.copy.met edit keeps);
  }

  pub in_place_parts : AreParts mode copy_now tags_now kept count published fits
  in_place_parts = record {
    copy = is_copy;
    there = All-elements (Contains c.nodes) tags_now (λ op listed.
        ⊎_elim (λ old. All-contains (Contains c.nodes) tags op parts.there old) (λ new. new.0) (from_some c.nodes tags (touch c.scene edit) op listed));
    outputs = parts.outputs;
    one_each = parts.one_each;
    counted = parts.counted;
    of_mode = parts.of_mode;
    fitting = λ fits. fits_still (parts.fitting fits);
  }

  -- an operation is tagged afterwards where it was tagged or is touched
  tagged_after_is : (op : OpId) → Contains (operations after) op
      → is_tagged_after c.scene after (tags_of c.scene tags) (touch c.scene edit) op
      ≡ (is_one_of (tags_of c.scene tags) op || is_one_of (touch c.scene edit) op || not true || not true)
  tagged_after_is op listed =
      ap (λ b. is_one_of (tags_of c.scene tags) op || is_one_of (touch c.scene edit) op || not b || not (same_links (ins c.scene op) (ins after op)))
      (one_of_listed (operations c.scene) op (subst (λ l. Contains l op) same_operations listed))
      ∙ ap (λ b. is_one_of (tags_of c.scene tags) op || is_one_of (touch c.scene edit) op || not true || not b)
      (ap (same_links (ins c.scene op)) (ins_kept c.scene parts.copy.met edit keeps op) ∙ same_links-itself (ins c.scene op))

  either : (a b : Bool) → (a || b || not true || not true) ≡ true → (a ≡ true) ⊎ (b ≡ true)
  either true b t = inl refl
  either false true t = inr refl
  either false false t = absurd (both_ways false refl t)

  or_first : (a b : Bool) → a ≡ true → (a || b || not true || not true) ≡ true
  or_first true b t = refl
  or_first false b t = absurd (both_ways false refl t)

  or_second : (a b : Bool) → b ≡ true → (a || b || not true || not true) ≡ true
  or_second true b t = refl
  or_second false true t = refl
  or_second false false t = absurd (both_ways false refl t)

  tags_are : tags_of after tags_now ≡ retagged c.scene after (tags_of c.scene tags) (touch c.scene edit)
  unfolding retagged
  tags_are = filter_same (is_one_of tags_now) (is_tagged_after c.scene after (tags_of c.scene tags) (touch c.scene edit)) (operations after) same
    where
      to : (op : OpId) → Contains (operations c.scene) op → Contains tags_now op
          → (is_one_of (tags_of c.scene tags) op || is_one_of (touch c.scene edit) op || not true || not true) ≡ true
      to op within listed =
          ⊎_elim
          (λ old. or_first (is_one_of (tags_of c.scene tags) op) (is_one_of (touch c.scene edit) op) (one_of_listed (tags_of c.scene tags) op (of_scene c.scene tags op within old)))
          (λ new. or_second (is_one_of (tags_of c.scene tags) op) (is_one_of (touch c.scene edit) op) (one_of_listed (touch c.scene edit) op new.1))
          (from_some c.nodes tags (touch c.scene edit) op listed)

      back : (op : OpId) → Contains (operations c.scene) op
          → (is_one_of (tags_of c.scene tags) op || is_one_of (touch c.scene edit) op || not true || not true) ≡ true → Contains tags_now op
      back op within t =
          ⊎_elim
          (λ old. stays_some c.nodes tags (touch c.scene edit) op (tag_of_scene c.scene tags op (listed_if_one (tags_of c.scene tags) op old)))
          (λ new. added_some c.nodes tags (touch c.scene edit) op (subst (λ l. Contains l op) (sym parts.copy.tables.same) within) (listed_if_one (touch c.scene edit) op new))
          (either (is_one_of (tags_of c.scene tags) op) (is_one_of (touch c.scene edit) op) t)

      same : (op : OpId) → Contains (operations after) op → is_one_of tags_now op ≡ is_tagged_after c.scene after (tags_of c.scene tags) (touch c.scene edit) op
      same op listed =
          let within = subst (λ l. Contains l op) same_operations listed in
          same_from_decides {P = Contains tags_now op} (is_one_of tags_now op)
          (is_one_of (tags_of c.scene tags) op || is_one_of (touch c.scene edit) op || not true || not true)
          (listed_if_one tags_now op, one_of_listed tags_now op)
          (back op within, to op within)
          ∙ sym (tagged_after_is op listed)

  kept_is : value_for (operations after) kept ≡ kept_of (operations after) (value_for (operations c.scene) kept)
  kept_is = fun_ext same
    where
      by : (op : OpId) (b : Bool) → is_one_of (operations after) op ≡ b → value_for (operations after) kept op ≡ (if b then value_for (operations c.scene) kept op else None)
      by op true one = ap (λ ops. value_for ops kept op) same_operations
      by op false none =
          ap (λ o. option_map (λ (out : Output). out.value) (option_and_then (kept_at kept) o))
          (number_none (operations after) op (λ listed. both_ways (is_one_of (operations after) op) none (one_of_listed (operations after) op listed)))

      same : (op : OpId) → value_for (operations after) kept op ≡ kept_of (operations after) (value_for (operations c.scene) kept) op
      same op = by op (is_one_of (operations after) op) refl

  pub in_place_state : (turn : ℕ) → state_of (record_of mode (version_after turn) copy_now tags_now kept published) ≡ taken g edit turn
  in_place_state turn = λ i. record {
    mode = mode;
    version = version_after turn;
    copy = after;
    tags = tags_are i;
    kept = kept_is i;
    published = option_map published_of published;
    running = None;
  }
