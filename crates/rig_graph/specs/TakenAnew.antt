-- An edit that may change links is taken with tables that are made anew: the parts of the graph after it, and the state that it is in.
use Rattle.std.specs.Prelude.{◌||◌, slice_get, Contains, IsTrue, not, filter, if◌then◌else◌, option_map}
use Rattle.std.specs.List.{position}
use Rattle.std.proofs.Common.{◌≡◌, ℕ, Bool, true, false, List, length, Option, Some, None, refl, sym, ap, ◌∙◌, subst}
use Rattle.std.proofs.lemmas.Bool.{both_ways}
use Rattle.std.proofs.lemmas.Bool.Decides.{same_from_decides}
use Rattle.std.proofs.lemmas.List.{length-map}
use Rattle.std.proofs.lemmas.Option.{slice_get-map}
use Rattle.std.proofs.Math.Path.{fun_ext}
use Rattle.rig_copies.specs.Copies.{kept_at, kept_for, renumbered}
use Rattle.rig_copies.specs.Moved.{moved_for, none_for}
use Rattle.rig_copies.specs.Numbers.{op_at_number}
use Rattle.rig_cycles.specs.Elements.{element_kept, element_of_kept, kept_passes}
use Rattle.rig_edits.specs.Conditions.{first_cause}
use Rattle.rig_edits.specs.declared.edit.Edit.{Edit}
use Rattle.rig_edits.specs.Edited.{edited}
use Rattle.rig_flush.specs.Begun.{one_of_listed}
use Rattle.rig_flush.specs.Graph.{GraphState, Fresh, kept_of, taken, version_after}
use Rattle.rig_flush.specs.InOrder.{tables_once}
use Rattle.rig_flush.specs.Retag.{is_one_of, same_links, is_tagged_after, retagged}
use Rattle.rig_flush.specs.TakenFresh.{taken_scene_is_fresh}
use Rattle.rig_flush.specs.TagsOfScene.{listed_if_one, of_scene, tag_of_scene}
use Rattle.rig_graph.specs.declared.scene_copy.SceneCopy.{SceneCopy}
use Rattle.rig_graph.specs.Parts.{IsCopy, AreParts, AreOutputs, record_of}
use Rattle.rig_graph.specs.State.{value_for, tags_of, published_of, state_of}
use Rattle.rig_kernel.specs.declared.done.Done.{Done}
use Rattle.rig_laws.specs.Lists.{All-elements, filter_same, option_map-Some, option_and_then-Some}
use Rattle.rig_laws.specs.Output.{Output}
use Rattle.rig_links.specs.Numbers.{same_operation}
use Rattle.rig_scene.specs.declared.modifier.Mode.{Mode}
use Rattle.rig_scene.specs.declared.operation.OpId.{OpId}
use Rattle.rig_scene.specs.Operations.{operations, ins}
use Rattle.rig_scene.specs.Pairs.{NoneTwice}
use Rattle.rig_scene.specs.Scene.{SceneRecord}
use Rattle.rig_scene.specs.WellFormed.{is_scene}
use Rattle.rig_touch.specs.Touch.{touch}

-- ---- tags

module _ (before after : SceneRecord) (tags touched : List OpId) where
  abbrev is_now : OpId → Bool
  is_now = is_tagged_after before after tags touched

  abbrev is_now_of_scene : OpId → Bool
  is_now_of_scene = is_tagged_after before after (tags_of before tags) touched

  -- tags of the scene before are as good as all
  same_tag : (op : OpId) → is_now op ≡ is_now_of_scene op
  same_tag op = by (is_one_of (operations before) op) refl
    where
      new : (a b t l : Bool) → (a || t || not false || l) ≡ (b || t || not false || l)
      new true true t l = refl
      new true false true l = refl
      new true false false l = refl
      new false true true l = refl
      new false true false l = refl
      new false false t l = refl

      by : (b : Bool) → is_one_of (operations before) op ≡ b → is_now op ≡ is_now_of_scene op
      by true had =
          let within = listed_if_one (operations before) op had in
          ap (λ a. a || is_one_of touched op || not (is_one_of (operations before) op) || not (same_links (ins before op) (ins after op)))
          (same_from_decides {P = Contains tags op} (is_one_of tags op) (is_one_of (tags_of before tags) op)
          (listed_if_one tags op, one_of_listed tags op)
          (λ t. tag_of_scene before tags op (listed_if_one (tags_of before tags) op t), λ e. one_of_listed (tags_of before tags) op (of_scene before tags op within e)))
      by false new_op =
          ap (λ h. is_one_of tags op || is_one_of touched op || not h || not (same_links (ins before op) (ins after op))) new_op
          ∙ new (is_one_of tags op) (is_one_of (tags_of before tags) op) (is_one_of touched op) (not (same_links (ins before op) (ins after op)))
          ∙ sym (ap (λ h. is_one_of (tags_of before tags) op || is_one_of touched op || not h || not (same_links (ins before op) (ins after op))) new_op)

  retagged_are : tags_of after (retagged before after tags touched) ≡ retagged before after (tags_of before tags) touched
  unfolding retagged
  retagged_are = filter_same (is_one_of (filter is_now (operations after))) is_now_of_scene (operations after) same
    where
      same : (op : OpId) → Contains (operations after) op → is_one_of (filter is_now (operations after)) op ≡ is_now_of_scene op
      same op within =
          same_from_decides {P = is_now op ≡ true} (is_one_of (filter is_now (operations after)) op) (is_now op) (
            λ t. kept_passes is_now (operations after) op (listed_if_one (filter is_now (operations after)) op t),
            λ t. one_of_listed (filter is_now (operations after)) op (element_kept is_now (operations after) op within t),
          )
          (λ t. t, λ t. t)
          ∙ same_tag op

  retagged_within : (op : OpId) → Contains (retagged before after tags touched) op → Contains (operations after) op
  unfolding retagged
  retagged_within op listed = element_of_kept is_now (operations after) op listed

-- ---- what is kept

-- what is kept at a number of the new table
renumbered_at : (old new : List OpId) (kept : List (Option Output)) (n : ℕ) (out : Output) → kept_at (renumbered old new kept) n ≡ Some out
    → (op : OpId) × (slice_get new n ≡ Some op) × (kept_for old kept op ≡ Some out)
renumbered_at old new kept n out is =
    let row = option_and_then-Some (λ (o : Option Output). o) (slice_get (renumbered old new kept) n) out is in
    let found = option_map-Some (kept_for old kept) (slice_get new n) row.0 (sym (slice_get-map (kept_for old kept) new n) ∙ row.1) in
    (found.0, found.1, found.2 ∙ row.2)

module _ (mode : Mode) (version : ℕ) (c : SceneCopy) (tags : List OpId) (kept : List (Option Output)) (count : ℕ)
    (published : Option Done) (fits : Bool) (parts : AreParts mode c tags kept count published fits)
    (edit : Edit) (new : SceneCopy) (copy : IsCopy new) (scene_is : new.scene ≡ edited c.scene edit) where
  abbrev g : GraphState
  g = state_of (record_of mode version c tags kept published)

  abbrev tags_now : List OpId
  tags_now = retagged c.scene new.scene tags (touch c.scene edit)

  abbrev kept_now : List (Option Output)
  kept_now = renumbered c.nodes new.nodes kept

  new_once : NoneTwice new.nodes
  new_once = tables_once new.scene copy.met new.nodes new.links copy.tables

  outputs_are : AreOutputs new.nodes kept_now
  outputs_are n out is =
      let found = renumbered_at c.nodes new.nodes kept n out is in
      let place = option_and_then-Some (kept_at kept) (position (same_operation found.0) c.nodes) out found.2 in
      let was = parts.outputs place.0 out place.2 in
      let same : Some found.0 ≡ Some out.op = sym (op_at_number c.nodes found.0 place.0 place.1) ∙ was.op in
      record { op = found.1 ∙ same; no_rest = was.no_rest }

  pub anew_parts : AreParts mode new tags_now kept_now (length new.nodes) published false
  anew_parts = record {
    copy = copy;
    there = All-elements (Contains new.nodes) tags_now
        (λ op listed. subst (λ l. Contains l op) (sym copy.tables.same) (retagged_within c.scene new.scene tags (touch c.scene edit) op listed));
    outputs = outputs_are;
    one_each = length-map new.nodes (kept_for c.nodes kept);
    counted = refl;
    of_mode = parts.of_mode;
    fitting = λ fits. absurd (let no : false ≡ true = fits in cc);
  }

  kept_is : value_for (operations new.scene) kept_now ≡ kept_of (operations new.scene) (value_for (operations c.scene) kept)
  kept_is = fun_ext same
    where
      by_nodes : (op : OpId) (b : Bool) → is_one_of new.nodes op ≡ b → kept_for new.nodes kept_now op ≡ (if b then kept_for c.nodes kept op else None)
      by_nodes op true one = moved_for c.nodes new.nodes kept new_once op (listed_if_one new.nodes op one)
      by_nodes op false none = none_for new.nodes kept_now op (λ listed. both_ways (is_one_of new.nodes op) none (one_of_listed new.nodes op listed))

      value_if : (b : Bool) (o : Option Output) → option_map (λ (out : Output). out.value) (if b then o else None) ≡ (if b then option_map (λ (out : Output). out.value) o else None)
      value_if true o = refl
      value_if false o = refl

      same : (op : OpId) → value_for (operations new.scene) kept_now op ≡ kept_of (operations new.scene) (value_for (operations c.scene) kept) op
      same op =
          ap (λ ops. option_map (λ (out : Output). out.value) (kept_for ops kept_now op)) (sym copy.tables.same)
          ∙ ap (option_map (λ (out : Output). out.value)) (by_nodes op (is_one_of new.nodes op) refl)
          ∙ value_if (is_one_of new.nodes op) (kept_for c.nodes kept op)
          ∙ ap (λ ops. if is_one_of ops op then option_map (λ (out : Output). out.value) (kept_for c.nodes kept op) else None) copy.tables.same
          ∙ ap (λ ops. if is_one_of (operations new.scene) op then option_map (λ (out : Output). out.value) (kept_for ops kept op) else None) parts.copy.tables.same

  pub anew_state : (turn : ℕ) → state_of (record_of mode (version_after turn) new tags_now kept_now published) ≡ taken g edit turn
  anew_state turn = λ i. record {
    mode = mode;
    version = version_after turn;
    copy = scene_is i;
    tags = (retagged_are c.scene new.scene tags (touch c.scene edit) ∙ ap (λ s. retagged c.scene s (tags_of c.scene tags) (touch c.scene edit)) scene_is) i;
    kept = (kept_is ∙ ap (λ s. kept_of (operations s) (value_for (operations c.scene) kept)) scene_is) i;
    published = option_map published_of published;
    running = None;
  }

  -- the same of parts that are told
  module _ (copy_after : SceneCopy) (copy_is : copy_after ≡ new) (tags_after : List OpId) (tags_are : tags_after ≡ tags_now)
      (kept_after : List (Option Output)) (kept_are : kept_after ≡ kept_now) (count_after : ℕ) (count_is : count_after ≡ length new.nodes) where
    pub anew_parts_with : AreParts mode copy_after tags_after kept_after count_after published false
    anew_parts_with =
        subst (λ k. AreParts mode k tags_after kept_after count_after published false) (sym copy_is)
        (subst (λ t. AreParts mode new t kept_after count_after published false) (sym tags_are)
        (subst (λ k. AreParts mode new tags_now k count_after published false) (sym kept_are)
        (subst (λ n. AreParts mode new tags_now kept_now n published false) (sym count_is) anew_parts)))

    pub anew_state_with : (turn : ℕ) → state_of (record_of mode (version_after turn) copy_after tags_after kept_after published) ≡ taken g edit turn
    anew_state_with turn = (λ i. state_of (record_of mode (version_after turn) (copy_is i) (tags_are i) (kept_are i) published)) ∙ anew_state turn

    pub anew_fresh_with : Fresh g → first_cause c.scene edit ≡ None → (turn : ℕ)
        → Fresh (state_of (record_of mode (version_after turn) copy_after tags_after kept_after published))
    anew_fresh_with fresh accepted turn =
        subst (λ state. Fresh state) (sym (anew_state_with turn))
        (taken_scene_is_fresh g parts.copy.met fresh edit accepted (subst (λ s. IsTrue (is_scene s)) scene_is copy.met) turn)
