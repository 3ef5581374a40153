-- Where an evaluation of a graph begins: what is tagged, and that what isn't reached from it is kept from scratch.
use Rattle.std.specs.Prelude.{slice_get, Contains, IsTrue, nat_eq, option_map, option_and_then, IsSome, ℤ, if◌then◌else◌}
use Rattle.std.specs.List.{All, position}
use Rattle.std.specs.Option.{option_map_or}
use Rattle.std.specs.Ordering.{int_eq}
use Rattle.std.proofs.Common.{◌≡◌, ◌⊎◌, inl, inr, ℕ, ◌<◌, Bool, true, false, List, [], ◌∷◌, ◌++◌, length, filter, Option, Some, None, refl, sym, ap, ◌∙◌, subst, ⊎_elim}
use Rattle.std.proofs.lemmas.Bool.{cases_Bool, both_ways}
use Rattle.std.proofs.lemmas.Bool.Decides.{same_from_decides}
use Rattle.std.proofs.lemmas.List.Elements.{All-contains, Contains-append_left, Contains-push, Contains-push_cases}
use Rattle.std.proofs.lemmas.Option.{slice_get_within}
use Rattle.rig_copies.specs.Copies.{kept_at, kept_for}
use Rattle.rig_copies.specs.Numbers.{number_once}
use Rattle.rig_cycles.specs.Elements.{element_first, element_later, element_cases, element_from_any, any_from_element, kept_passes, element_kept, element_of_kept}
use Rattle.rig_flush.specs.Begun.{one_of_listed, unrun_is_kept}
use Rattle.rig_flush.specs.Graph.{GraphState, Published, Fresh, is_published, tagged_at, flushed_at}
use Rattle.rig_flush.specs.InOrder.{tables_once}
use Rattle.rig_flush.specs.Reach.{is_reached, reach}
use Rattle.rig_flush.specs.ReachByNumber.{one_index, is_listed}
use Rattle.rig_flush.specs.ReachedInOrder.{reached_number}
use Rattle.rig_flush.specs.Retag.{is_one_of}
use Rattle.rig_flush.specs.Shown.{output_of}
use Rattle.rig_flush.specs.Tables.{AreTablesOf, numbers_of, reached_numbers}
use Rattle.rig_flush.specs.TagsOfScene.{listed_if_one, of_scene, tag_of_scene, closed_by_tables, numbers_by_scene, reach_by_scene}
use Rattle.rig_graph.specs.declared.scene_copy.SceneCopy.{SceneCopy}
use Rattle.rig_graph.specs.Parts.{AreParts, IsPlanned, IsOutputOf, output_at_number, record_of}
use Rattle.rig_graph.specs.Ready.{with_time, is_frame_of, tagged_for, CanRun}
use Rattle.rig_graph.specs.State.{tags_of, published_of, state_of}
use Rattle.rig_kernel.specs.declared.done.Done.{Done}
use Rattle.rig_laws.specs.Kept.{kept_links}
use Rattle.rig_laws.specs.Lists.{All-elements, filter_same, option_map-Some}
use Rattle.rig_laws.specs.OperationValue.{operation_value}
use Rattle.rig_laws.specs.Output.{Output}
use Rattle.rig_links.specs.Links.{kept_reads}
use Rattle.rig_links.specs.Numbers.{same_operation}
use Rattle.rig_scene.specs.declared.modifier.Mode.{Mode}
use Rattle.rig_scene.specs.declared.operation.OpId.{OpId}
use Rattle.rig_scene.specs.declared.operation.OpId.TheVariants.{Time}
use Rattle.rig_scene.specs.Found.{Contains-slice_get, some_slice_get}
use Rattle.rig_scene.specs.Operations.{operations}
use Rattle.rig_scene.specs.Pairs.{NoneTwice}
use Rattle.rig_scene.specs.Scene.{SceneRecord}
use Rattle.rig_scene.specs.Value.{Value}

-- ---- the time among tags

pub time_added : (tags : List OpId) (op : OpId) → Contains (with_time tags) op → Contains tags op ⊎ (Time ≡ op)
time_added tags op listed = by (is_one_of tags Time) listed
  where
    by : (b : Bool) → Contains (if b then tags else tags ++ Time ∷ []) op → Contains tags op ⊎ (Time ≡ op)
    by true e = inl e
    by false e = Contains-push_cases tags Time op e

pub tag_stays : (tags : List OpId) (op : OpId) → Contains tags op → Contains (with_time tags) op
tag_stays tags op listed = by (is_one_of tags Time)
  where
    by : (b : Bool) → Contains (if b then tags else tags ++ Time ∷ []) op
    by true = listed
    by false = Contains-append_left tags (Time ∷ []) op listed

time_listed : (tags : List OpId) → Contains (with_time tags) Time
time_listed tags = by (is_one_of tags Time) refl
  where
    by : (b : Bool) → is_one_of tags Time ≡ b → Contains (if b then tags else tags ++ Time ∷ []) Time
    by true e = listed_if_one tags Time e
    by false e = Contains-push tags Time

with_time_is : (s : SceneRecord) (tags : List OpId) → tags_of s (with_time tags) ≡ filter (is_one_of (Time ∷ tags_of s tags)) (operations s)
with_time_is s tags = filter_same (is_one_of (with_time tags)) (is_one_of (Time ∷ tags_of s tags)) (operations s) same
  where
    to : (op : OpId) → Contains (operations s) op → Contains (with_time tags) op → Contains (Time ∷ tags_of s tags) op
    to op within listed =
        ⊎_elim (λ tagged. element_later Time (tags_of s tags) op (of_scene s tags op within tagged))
        (λ time. subst (Contains (Time ∷ tags_of s tags)) time (element_first Time (tags_of s tags)))
        (time_added tags op listed)

    back : (op : OpId) → Contains (Time ∷ tags_of s tags) op → Contains (with_time tags) op
    back op listed =
        ⊎_elim (λ time. subst (Contains (with_time tags)) time (time_listed tags))
        (λ tagged. tag_stays tags op (tag_of_scene s tags op tagged))
        (element_cases Time (tags_of s tags) op listed)

    same : (op : OpId) → Contains (operations s) op → is_one_of (with_time tags) op ≡ is_one_of (Time ∷ tags_of s tags) op
    same op within =
        same_from_decides {P = Contains (Time ∷ tags_of s tags) op} (is_one_of (with_time tags) op) (is_one_of (Time ∷ tags_of s tags) op)
        (λ t. to op within (listed_if_one (with_time tags) op t), λ e. one_of_listed (with_time tags) op (back op e))
        (listed_if_one (Time ∷ tags_of s tags) op, one_of_listed (Time ∷ tags_of s tags) op)

-- ---- more tags reach more

reach_more : (s : SceneRecord) (tags more : List OpId) → ((op : OpId) → Contains tags op → Contains more op)
    → (op : OpId) → Contains (reach s tags) op → Contains (reach s more) op
unfolding reach
reach_more s tags more to op reached =
    let found = element_from_any _ tags (kept_passes (is_reached same_operation (kept_links s) tags) (operations s) op reached) in
    element_kept (is_reached same_operation (kept_links s) more) (operations s) op (element_of_kept (is_reached same_operation (kept_links s) tags) (operations s) op reached)
    (any_from_element _ more found.0 (to found.0 found.1) found.2)

-- a graph that has more tags is fresh as well
pub fresh_with_more : (g : GraphState) (more : List OpId) → ((op : OpId) → Contains g.tags op → Contains more op) → Fresh g
    → Fresh (record g { tags = more })
fresh_with_more g more to fresh = record {
  all_tagged = λ none. all_more none;
  is_kept = λ p is op within free. fresh.is_kept p is op within (λ reached. free (reach_more g.copy g.tags more to op reached));
}
  where
    all_more : g.published ≡ None → All (Contains more) (operations g.copy)
    all_more none = All-elements (Contains more) (operations g.copy) (λ op within. to op (All-contains (Contains g.tags) (operations g.copy) op (fresh.all_tagged none) within))

-- ---- the parts of a graph

module _ (mode : Mode) (version : ℕ) (c : SceneCopy) (tags : List OpId) (kept : List (Option Output)) (count : ℕ)
    (published : Option Done) (fits : Bool) (parts : AreParts mode c tags kept count published fits) (frame : ℤ) where
  abbrev g : GraphState
  g = state_of (record_of mode version c tags kept published)

  abbrev tags_now : List OpId
  tags_now = tagged_for published frame tags

  pub distinct : NoneTwice c.nodes
  distinct = tables_once c.scene parts.copy.met c.nodes c.links parts.copy.tables

  frame_is : is_published g frame ≡ is_frame_of published frame
  frame_is = by published
    where
      by : (p : Option Done) → option_map_or (λ (p : Published). int_eq p.frame frame) (option_map published_of p) false
          ≡ option_map_or (λ (d : Done). int_eq d.frame frame) p false
      by None = refl
      by (Some d) = refl

  -- the tags of the evaluation
  pub tagged_is : tags_of c.scene tags_now ≡ tagged_at g frame
  tagged_is = by (is_frame_of published frame) refl
    where
      by : (b : Bool) → is_frame_of published frame ≡ b → tags_of c.scene tags_now ≡ tagged_at g frame
      by true e =
          ap (λ b. tags_of c.scene (if b then tags else with_time tags)) e
          ∙ sym (ap (λ b. if b then tags_of c.scene tags else filter (is_one_of (Time ∷ tags_of c.scene tags)) (operations c.scene)) (frame_is ∙ e))
      by false e =
          ap (λ b. tags_of c.scene (if b then tags else with_time tags)) e
          ∙ with_time_is c.scene tags
          ∙ sym (ap (λ b. if b then tags_of c.scene tags else filter (is_one_of (Time ∷ tags_of c.scene tags)) (operations c.scene)) (frame_is ∙ e))

  -- the numbers that it reaches
  pub numbers_are : reached_numbers c.nodes c.links tags_now ≡ reached_numbers c.nodes c.links (tagged_at g frame)
  numbers_are =
      numbers_by_scene c.scene c.nodes c.links parts.copy.tables tags_now ∙ ap (reached_numbers c.nodes c.links) tagged_is

  reach_is : reach c.scene tags_now ≡ reach c.scene (tagged_at g frame)
  reach_is = reach_by_scene c.scene (closed_by_tables c.scene c.nodes c.links parts.copy.tables) tags_now ∙ ap (reach c.scene) tagged_is

  abbrev runs : ℕ → Bool
  runs = is_reached nat_eq (kept_reads c.links.ins) (numbers_of c.nodes tags_now)

  -- an operation whose number doesn't run isn't reached
  not_reached : (n : ℕ) (op : OpId) → slice_get c.nodes n ≡ Some op → runs n ≡ false → Contains (reach c.scene (tagged_at g frame)) op → ⊥
  not_reached n op at idle reached =
      let there = reached_number c.scene c.nodes c.links parts.copy.tables distinct tags_now op (subst (λ l. Contains l op) (sym reach_is) reached) in
      let same = one_index c.nodes distinct op there.0 n there.1 at in
      both_ways (runs n) idle (ap runs (sym same) ∙ kept_passes runs c.links.order there.0 there.2)

  -- what is kept of an operation from scratch is kept at its number
  kept_from_scratch : (n : ℕ) (op : OpId) → slice_get c.nodes n ≡ Some op → g.kept op ≡ Some (operation_value c.scene mode frame op)
      → kept_at kept n ≡ Some (output_of c.scene mode frame op)
  kept_from_scratch n op at is =
      let found = option_map-Some (λ (out : Output). out.value) (kept_for (operations c.scene) kept op) (operation_value c.scene mode frame op) is in
      let number : position (same_operation op) (operations c.scene) ≡ Some n =
      ap (position (same_operation op)) (sym parts.copy.tables.same) ∙ number_once c.nodes distinct op n at in
      let there : kept_at kept n ≡ Some found.0 = sym (ap (λ o. option_and_then (kept_at kept) o) number) ∙ found.1 in
      let of = parts.outputs n found.0 there in
      let same_op : found.0.op ≡ op = same_some (sym of.op ∙ at) in
      there ∙ ap Some (λ i. record { op = same_op i; value = found.2 i; is_rest = of.no_rest i })
    where
      same_some : {a b : OpId} → Some a ≡ Some b → a ≡ b
      same_some e = cc

  module _ (fresh : Fresh g) where
    pub others : (n : ℕ) → n < length (operations c.scene) → runs n ≡ false → kept_at kept n ≡ output_at_number c.scene mode frame n
    others n within idle =
        let op = some_slice_get (operations c.scene) n within in
        let at : slice_get c.nodes n ≡ Some op.0 = ap (λ l. slice_get l n) parts.copy.tables.same ∙ op.1 in
        kept_from_scratch n op.0 at
        (unrun_is_kept g parts.copy.met fresh frame op.0 (Contains-slice_get (operations c.scene) n op.0 op.1) (not_reached n op.0 at idle))
        ∙ sym (ap (option_map (output_of c.scene mode frame)) op.1)

    -- what is tagged can run
    pub can_run : CanRun c mode frame tags_now kept
    can_run = record { runs = runs; numbers_are = refl; others = others }
