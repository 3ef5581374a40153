-- After an evaluation: what is kept, what the frame shows, and the state that the graph is in.
use Rattle.std.specs.Prelude.{slice_get, slice_set, Contains, IsTrue, nat_eq, option_map, option_and_then, IsSome, IfSome, ℤ, if◌then◌else◌}
use Rattle.std.specs.List.{All, position, range_with_len}
use Rattle.std.specs.Option.{option_map_or}
use Rattle.std.proofs.Common.{◌≡◌, ◌⊎◌, inl, inr, ℕ, ◌<◌, ◌≤◌, Bool, true, false, List, [], ◌∷◌, length, map, filter, get_or, Option, Some, None, refl, sym, ap, ◌∙◌, subst, arith}
use Rattle.std.proofs.lemmas.Bool.{cases_order, both_ways, false_from_ne_true}
use Rattle.std.proofs.lemmas.List.{length-map, length-set}
use Rattle.std.proofs.lemmas.List.Elements.{All-nil}
use Rattle.std.proofs.lemmas.List.Sorted.{Contains-permutation}
use Rattle.std.proofs.lemmas.Option.{slice_get-map, slice_get-get_or, slice_get_within, slice_get_past, get_or_from_slice_get, same_Some}
use Rattle.std.proofs.lemmas.Simd.{map-map}
use Rattle.std.proofs.Math.Path.{fun_ext}
use Rattle.rig_copies.specs.Copies.{kept_at, kept_for, put_each}
use Rattle.rig_copies.specs.Numbers.{op_at_number, number_once}
use Rattle.rig_copies.specs.Put.{put_for, put_for_other}
use Rattle.rig_cut.specs.Plan.{PlanNode}
use Rattle.rig_cycles.specs.Elements.{element_kept, element_of_kept, kept_passes, element_none}
use Rattle.rig_flush.specs.Begun.{one_of_listed, unrun_is_kept}
use Rattle.rig_flush.specs.Evaluation.{evaluated, kept_at_frame}
use Rattle.rig_flush.specs.Graph.{GraphState, Published, Fresh, tagged_at, flushed_at, frame_of}
use Rattle.rig_flush.specs.Options.{same_values}
use Rattle.rig_flush.specs.Reach.{is_reached, reach}
use Rattle.rig_flush.specs.ReachByNumber.{index_of, one_index, is_listed, is_operation}
use Rattle.rig_flush.specs.ReachedInOrder.{numbers_once, numbers_within}
use Rattle.rig_flush.specs.Retag.{is_one_of}
use Rattle.rig_flush.specs.Shown.{output_of, shown, shown_operations}
use Rattle.rig_flush.specs.Tables.{numbers_of, reached_numbers, places_in, plan_of}
use Rattle.rig_flush.specs.TagsOfScene.{listed_if_one}
use Rattle.rig_graph.specs.ChangedFrame.{place_once, at_place, changed_shows, changes_within}
use Rattle.rig_graph.specs.declared.frame.Change.{Change}
use Rattle.rig_graph.specs.declared.frame.NextFrame.{NextFrame}
use Rattle.rig_graph.specs.declared.frame.NextFrame.TheVariants.{Anew, Changed}
use Rattle.rig_graph.specs.declared.scene_copy.SceneCopy.{SceneCopy}
use Rattle.rig_graph.specs.NextFrame.{IsNewFrame, IsNextFrame, with_changes, frame_after, CanFollow}
use Rattle.rig_graph.specs.Parts.{IsCopy, AreParts, AreOutputs, IsOutputOf, Fits, given_at, output_at_number, record_of, changed, changes_of}
use Rattle.rig_graph.specs.Ready.{tagged_for, HasRun}
use Rattle.rig_graph.specs.RunsFromFresh.{distinct, others}
use Rattle.rig_graph.specs.State.{value_for, tags_of, published_of, state_of}
use Rattle.rig_kernel.specs.declared.done.Done.{Done}
use Rattle.rig_laws.specs.Kept.{kept_links}
use Rattle.rig_laws.specs.Lists.{All-elements, Contains-below, map_same, option_map-Some}
use Rattle.rig_laws.specs.OperationValue.{operation_value}
use Rattle.rig_laws.specs.Output.{Output}
use Rattle.rig_links.specs.Links.{kept_reads}
use Rattle.rig_links.specs.Numbers.{same_operation}
use Rattle.rig_scene.specs.Cut.{cuts}
use Rattle.rig_scene.specs.declared.modifier.Mode.{Mode}
use Rattle.rig_scene.specs.declared.operation.OpId.{OpId}
use Rattle.rig_scene.specs.Found.{Contains-slice_get, some_slice_get}
use Rattle.rig_scene.specs.Operations.{operations}
use Rattle.rig_scene.specs.Pairs.{NoneTwice}
use Rattle.rig_scene.specs.Scene.{SceneRecord}
use Rattle.rig_scene.specs.Value.{Value}

-- ---- lists

same_map : {X : Type 0} (xs : List X) → map (λ (x : X). x) xs ≡ xs
same_map [] = refl
same_map (x ∷ xs) = ap (λ l. x ∷ l) (same_map xs)

none_kept : {X : Type 0} (p : X → Bool) (xs : List X) → ((x : X) → p x ≡ false) → filter p xs ≡ []
none_kept p [] none = refl
none_kept p (x ∷ xs) none = ap (λ b. if b then x ∷ filter p xs else filter p xs) (none x) ∙ none_kept p xs none

pub length-put_each : (kept : List (Option Output)) (plan : List PlanNode) (outs : List Output) → length (put_each kept plan outs) ≡ length kept
length-put_each kept [] outs = refl
length-put_each kept (node ∷ nodes) [] = refl
length-put_each kept (node ∷ nodes) (out ∷ outs) =
    length-put_each (slice_set kept node.op (Some out)) nodes outs ∙ length-set kept node.op (Some out)

-- the number of an operation and what is kept at it
at_number : (ops : List OpId) → NoneTwice ops → (kept : List (Option Output)) (n : ℕ) (op : OpId) → slice_get ops n ≡ Some op → kept_for ops kept op ≡ kept_at kept n
at_number ops once kept n op at = ap (λ o. option_and_then (kept_at kept) o) (number_once ops once op n at)

no_operation : (s : SceneRecord) → filter (is_one_of []) (operations s) ≡ []
no_operation s = none_kept (is_one_of []) (operations s) (λ op. refl)

-- what is reached are operations of the scene
reached_within : (s : SceneRecord) (tags : List OpId) (op : OpId) → Contains (reach s tags) op → Contains (operations s) op
unfolding reach
reached_within s tags op reached = element_of_kept (is_reached same_operation (kept_links s) tags) (operations s) op reached

-- past the end
none_past : (ops : List OpId) (n : ℕ) → slice_get ops n ≡ None → length ops ≤ n
none_past ops n none = by (cases_order n (length ops))
  where
    by : (n ≡ length ops) ⊎ ((n < length ops) ⊎ (length ops < n)) → length ops ≤ n
    by (inl same) = omega arith
    by (inr (inl less)) = let there = some_slice_get ops n less in absurd (let no : None ≡ Some there.0 = sym none ∙ there.1 in cc)
    by (inr (inr more)) = omega arith

-- a number that passes the test of a run is one of those that run
number_runs : (c : SceneCopy) → IsCopy c → (tags : List OpId) (n : ℕ) (op : OpId) → slice_get c.nodes n ≡ Some op
    → is_reached nat_eq (kept_reads c.links.ins) (numbers_of c.nodes tags) n ≡ true → Contains (reached_numbers c.nodes c.links tags) n
number_runs c copy tags n op at runs =
    element_kept (is_reached nat_eq (kept_reads c.links.ins) (numbers_of c.nodes tags)) c.links.order n
    (Contains-permutation (range_with_len 0 (length c.nodes)) c.links.order n copy.tables.fit.order.same_nodes
    (Contains-below (length c.nodes) n (slice_get_within c.nodes n op at))) runs

-- images of which none is twice are of numbers of which none is twice
once_by_image : (f : ℕ → Option OpId) (numbers : List ℕ) (ops : List OpId) → map f numbers ≡ map Some ops → NoneTwice ops → NoneTwice numbers
once_by_image f numbers ops are once i j d before within same =
    let as_long : length numbers ≡ length ops = sym (length-map numbers f) ∙ ap length are ∙ length-map ops Some in
    let first = some_slice_get ops i (omega arith) in
    let second = some_slice_get ops j (omega arith) in
    once i j first.0 before (omega arith)
    (get_or_from_slice_get ops i first.0 first.0 first.1
    ∙ same_Some first.0 second.0 (sym (image_at i first.0 first.1 (omega arith)) ∙ ap f same ∙ image_at j second.0 second.1 within)
    ∙ sym (get_or_from_slice_get ops j second.0 first.0 second.1))
  where
    image_at : (k : ℕ) (op : OpId) → slice_get ops k ≡ Some op → k < length numbers → f (get_or numbers k d) ≡ Some op
    image_at k op at inside =
        same_Some (f (get_or numbers k d)) (Some op)
        (sym (slice_get-map f numbers k ∙ ap (option_map f) (slice_get-get_or numbers k d inside)) ∙ ap (λ l. slice_get l k) are ∙ slice_get-map Some ops k ∙ ap (option_map Some) at)

-- ---- frames

-- a frame of a scene from scratch
record IsDone (c : SceneCopy) (mode : Mode) (frame : ℤ) (done : Done) : Type 0 where
  pub frame_is : done.frame ≡ frame
  pub mode_is : done.mode ≡ mode
  pub cuts_are : done.cuts ≡ cuts c.scene
  pub outs_are : map Some done.outs ≡ map (output_at_number c.scene mode frame) c.shown.members

module _ (mode : Mode) (version : ℕ) (c : SceneCopy) (tags : List OpId) (kept : List (Option Output)) (count : ℕ)
    (published : Option Done) (fits : Bool) (parts : AreParts mode c tags kept count published fits) (frame : ℤ) where
  abbrev g : GraphState
  g = state_of (record_of mode version c tags kept published)

  abbrev numbers : List ℕ
  numbers = reached_numbers c.nodes c.links (tagged_for published frame tags)

  abbrev runs : ℕ → Bool
  runs = is_reached nat_eq (kept_reads c.links.ins) (numbers_of c.nodes (tagged_for published frame tags))

  abbrev plan : List PlanNode
  plan = plan_of c.links.ins numbers

  abbrev right : ℕ → Option Output
  right = output_at_number c.scene mode frame

  nodes_once : NoneTwice c.nodes
  nodes_once = distinct mode version c tags kept count published fits parts frame

  planned_numbers : map (λ (node : PlanNode). node.op) plan ≡ numbers
  planned_numbers = map-map (λ (node : PlanNode). node.op) (λ n. record { op = n; ins = ins_of n }) numbers ∙ same_map numbers
    where
      ins_of : ℕ → List ℕ
      ins_of n = option_map_or (places_in numbers) (slice_get c.links.ins n) []

  once : NoneTwice (map (λ (node : PlanNode). node.op) plan)
  once = subst (λ l. NoneTwice l) (sym planned_numbers) (numbers_once c.scene c.nodes c.links parts.copy.tables nodes_once (tagged_for published frame tags))

  -- the number of a node of the plan runs
  planned_runs : (i : ℕ) (node : PlanNode) → slice_get plan i ≡ Some node → runs node.op ≡ true
  planned_runs i node at =
      let there : slice_get numbers i ≡ Some node.op =
      ap (λ l. slice_get l i) (sym planned_numbers) ∙ slice_get-map (λ (node : PlanNode). node.op) plan i ∙ ap (option_map (λ (node : PlanNode). node.op)) at in
      kept_passes runs c.links.order node.op (Contains-slice_get numbers i node.op there)

  module _ (fresh : Fresh g) (results : List Output) (are : map Some results ≡ map right numbers) where
    abbrev kept_now : List (Option Output)
    kept_now = put_each kept plan results

    as_many : length results ≡ length numbers
    as_many = sym (length-map results Some) ∙ ap length are ∙ length-map numbers right

    -- what ran is kept from scratch
    ran_is_right : (n : ℕ) (op : OpId) → slice_get c.nodes n ≡ Some op → Contains numbers n → kept_at kept_now n ≡ Some (output_of c.scene mode frame op)
    ran_is_right n op at listed =
        sym (at_number c.nodes nodes_once kept_now n op at)
        ∙ put_for c.nodes kept plan results nodes_once once listed.0 node op (output_of c.scene mode frame op) planned given at within
      where
        stands : slice_get numbers listed.0 ≡ Some n
        stands = slice_get-get_or numbers listed.0 n listed.1 ∙ ap Some listed.2

        node : PlanNode
        node = record { op = n; ins = option_map_or (places_in numbers) (slice_get c.links.ins n) [] }

        planned : slice_get plan listed.0 ≡ Some node
        planned =
            slice_get-map (λ n. record { op = n; ins = option_map_or (places_in numbers) (slice_get c.links.ins n) [] }) numbers listed.0
            ∙ ap (option_map (λ n. record { op = n; ins = option_map_or (places_in numbers) (slice_get c.links.ins n) [] })) stands

        right_is : right n ≡ Some (output_of c.scene mode frame op)
        right_is = ap (option_map (output_of c.scene mode frame)) (is_operation c.scene c.nodes c.links parts.copy.tables n op at)

        given : slice_get results listed.0 ≡ Some (output_of c.scene mode frame op)
        given =
            let found = option_map-Some Some (slice_get results listed.0) (Some (output_of c.scene mode frame op))
            (sym (slice_get-map Some results listed.0) ∙ ap (λ l. slice_get l listed.0) are ∙ slice_get-map right numbers listed.0 ∙ ap (option_map right) stands ∙ ap Some right_is) in
            found.1 ∙ found.2

        within : n < length kept
        within = subst (λ k. n < k) (sym parts.one_each) (slice_get_within c.nodes n op at)

    -- what didn't run is kept as it was
    idle_stays : (n : ℕ) (op : OpId) → slice_get c.nodes n ≡ Some op → runs n ≡ false → kept_at kept_now n ≡ kept_at kept n
    idle_stays n op at idle =
        sym (at_number c.nodes nodes_once kept_now n op at)
        ∙ put_for_other c.nodes kept plan results op (λ i node planned same.
        both_ways (runs n) idle (ap runs (one_index c.nodes nodes_once op n node.op at same) ∙ planned_runs i node planned))
        ∙ at_number c.nodes nodes_once kept n op at

    -- all that is kept is from scratch
    right_now : (n : ℕ) (op : OpId) → slice_get c.nodes n ≡ Some op → kept_at kept_now n ≡ right n
    right_now n op at = by (runs n) refl
      where
        is_op : slice_get (operations c.scene) n ≡ Some op
        is_op = is_operation c.scene c.nodes c.links parts.copy.tables n op at

        by : (b : Bool) → runs n ≡ b → kept_at kept_now n ≡ right n
        by true ran =
            ran_is_right n op at (number_runs c parts.copy (tagged_for published frame tags) n op at ran) ∙ sym (ap (option_map (output_of c.scene mode frame)) is_op)
        by false idle =
            idle_stays n op at idle
            ∙ others mode version c tags kept count published fits parts frame fresh n (slice_get_within (operations c.scene) n op is_op) idle

    -- ---- the frame

    -- the operation of a shown number
    shown_op : (m : ℕ) → Contains c.shown.members m → (op : OpId) × (slice_get c.nodes m ≡ Some op)
    shown_op m listed =
        let stands : slice_get c.shown.members listed.0 ≡ Some m = slice_get-get_or c.shown.members listed.0 m listed.1 ∙ ap Some listed.2 in
        let found = option_map-Some Some (slice_get (shown_operations c.scene) listed.0) (slice_get c.nodes m)
        (sym (slice_get-map Some (shown_operations c.scene) listed.0)
        ∙ sym (ap (λ l. slice_get l listed.0) parts.copy.shown)
        ∙ slice_get-map (slice_get c.nodes) c.shown.members listed.0
        ∙ ap (option_map (slice_get c.nodes)) stands) in
        (found.0, sym found.2)

    -- what there is of a shown number while the plan runs, after all that runs
    given_right : (m : ℕ) (op : OpId) → slice_get c.nodes m ≡ Some op → given_at numbers results kept m ≡ right m
    given_right m op at = by (position (nat_eq m) numbers) refl
      where
        is_op : slice_get (operations c.scene) m ≡ Some op
        is_op = is_operation c.scene c.nodes c.links parts.copy.tables m op at

        unplanned : position (nat_eq m) numbers ≡ None → runs m ≡ false
        unplanned none =
            false_from_ne_true (runs m) (λ ran.
            let listed = number_runs c parts.copy (tagged_for published frame tags) m op at ran in
            let found : None ≡ Some listed.0 =
            sym none ∙ place_once numbers (numbers_once c.scene c.nodes c.links parts.copy.tables nodes_once (tagged_for published frame tags)) m listed.0 (slice_get-get_or numbers listed.0 m listed.1 ∙ ap Some listed.2) in
            cc)

        by : (o : Option ℕ) → position (nat_eq m) numbers ≡ o → option_map_or (slice_get results) o (kept_at kept m) ≡ right m
        by None none =
            others mode version c tags kept count published fits parts frame fresh m (slice_get_within (operations c.scene) m op is_op) (unplanned none)
        by (Some i) found =
            let out = some_slice_get results i (subst (λ k. i < k) (sym as_many) (slice_get_within numbers i m (at_place numbers m i found))) in
            out.1
            ∙ same_Some (Some out.0) (right m)
            (sym (slice_get-map Some results i ∙ ap (option_map Some) out.1) ∙ ap (λ l. slice_get l i) are ∙ slice_get-map right numbers i ∙ ap (option_map right) (at_place numbers m i found))

    -- what is right of the shown numbers is what the scene shows
    shown_right : map right c.shown.members ≡ map Some (shown c.scene mode frame)
    unfolding shown
    shown_right =
        sym (map-map (option_map (output_of c.scene mode frame)) (slice_get (operations c.scene)) c.shown.members)
        ∙ ap (λ ops. map (option_map (output_of c.scene mode frame)) (map (slice_get ops) c.shown.members)) (sym parts.copy.tables.same)
        ∙ ap (map (option_map (output_of c.scene mode frame))) parts.copy.shown
        ∙ map-map (option_map (output_of c.scene mode frame)) Some (shown_operations c.scene)
        ∙ sym (map-map Some (output_of c.scene mode frame) (shown_operations c.scene))

    published_done : (done : Done) → IsDone c mode frame done → published_of done ≡ frame_of c.scene mode frame
    published_done done is = λ i. record {
      frame = is.frame_is i;
      outputs = same_values done.outs (shown c.scene mode frame) (is.outs_are ∙ shown_right) i;
      cut = is.cuts_are i;
    }

    module _ (next : NextFrame) (follows : IsNextFrame c mode frame numbers results kept fits next) (shown_once : NoneTwice (shown_operations c.scene)) where
      members_once : NoneTwice c.shown.members
      members_once = once_by_image (slice_get c.nodes) c.shown.members (shown_operations c.scene) parts.copy.shown shown_once

      after : (done : Done) × (frame_after published next frame ≡ Some done) × IsDone c mode frame done
      after = by next follows
        where
          by : (n : NextFrame) → IsNextFrame c mode frame numbers results kept fits n → (done : Done) × (frame_after published n frame ≡ Some done) × IsDone c mode frame done
          by (Anew done) is = (
            done,
            refl,
            record {
              frame_is = is.1.frame_is;
              mode_is = is.1.mode_is;
              cuts_are = is.1.cuts;
              outs_are = is.1.outs
                  ∙ map_same (given_at numbers results kept) right c.shown.members
                  (All-elements (λ m. given_at numbers results kept m ≡ right m) c.shown.members (λ m listed. let op = shown_op m listed in given_right m op.0 op.1));
            },
          )
          by (Changed changes) is =
              let fit = parts.fitting is.0 in (
                with_changes fit.done frame changes.items,
                ap (option_map (λ d. with_changes d frame changes.items)) fit.is,
                record {
                  frame_is = refl;
                  mode_is = subst (λ p. IfSome p (λ d. d.mode ≡ mode)) fit.is parts.of_mode;
                  cuts_are = fit.cuts;
                  outs_are = ap (λ l. map Some (changed fit.done.outs l)) is.1
                      ∙ changed_shows c.shown.members members_once right numbers results are (kept_at kept) fit.done.outs fit.outs idle_is_right;
                },
              )
            where
              idle_is_right : (m : ℕ) → Contains c.shown.members m → (Contains numbers m → ⊥) → kept_at kept m ≡ right m
              idle_is_right m listed idle =
                  let op = shown_op m listed in
                  others mode version c tags kept count published fits parts frame fresh m (slice_get_within (operations c.scene) m op.0 (is_operation c.scene c.nodes c.links parts.copy.tables m op.0 op.1))
                  (false_from_ne_true (runs m) (λ ran. idle (number_runs c parts.copy (tagged_for published frame tags) m op.0 op.1 ran)))

      -- the next frame can be published
      pub can_follow : CanFollow published next
      can_follow = by next follows
        where
          as_long : (fit : Fits c kept published) → length fit.done.outs ≡ length c.shown.members
          as_long fit = sym (length-map fit.done.outs Some) ∙ ap length fit.outs ∙ length-map c.shown.members (kept_at kept)

          by : (n : NextFrame) → IsNextFrame c mode frame numbers results kept fits n → CanFollow published n
          by (Anew done) is = tt
          by (Changed changes) is =
              let fit = parts.fitting is.0 in
              subst (λ p. IfSome p (λ d. All (λ (change : Change). change.place < length d.outs) changes.items)) (sym fit.is)
              (subst (λ k. All (λ (change : Change). change.place < k) changes.items) (sym (as_long fit))
              (subst (λ l. All (λ (change : Change). change.place < length c.shown.members) l) (sym is.1) (changes_within c.shown.members numbers results)))

      abbrev frame_now : Option Done
      frame_now = frame_after published next frame

      -- ---- the parts

      outputs_now : AreOutputs c.nodes kept_now
      outputs_now n out is = by (slice_get c.nodes n) refl
        where
          by : (o : Option OpId) → slice_get c.nodes n ≡ o → IsOutputOf c.nodes n out
          by None none =
              let no : None ≡ Some out =
              sym (ap (option_and_then (λ out. out)) (slice_get_past kept_now n (omega (arith, length-put_each kept plan results, parts.one_each, none_past c.nodes n none)))) ∙ is in
              absurd (cc)
          by (Some op) at =
              let same : output_of c.scene mode frame op ≡ out =
              same_Some (output_of c.scene mode frame op) out
              (sym (right_now n op at ∙ ap (option_map (output_of c.scene mode frame)) (is_operation c.scene c.nodes c.links parts.copy.tables n op at)) ∙ is) in
              record { op = at ∙ ap (λ (o : Output). Some o.op) same; no_rest = sym (ap (λ (o : Output). o.is_rest) same) }

      fits_now : Fits c kept_now frame_now
      fits_now = record {
        done = after.0;
        is = after.1;
        outs = after.2.outs_are
            ∙ sym (map_same (kept_at kept_now) right c.shown.members
            (All-elements (λ m. kept_at kept_now m ≡ right m) c.shown.members (λ m listed. let op = shown_op m listed in right_now m op.0 op.1)));
        cuts = after.2.cuts_are;
      }

      pub parts_now : AreParts mode c [] kept_now count frame_now true
      parts_now = record {
        copy = parts.copy;
        there = All-nil (Contains c.nodes);
        outputs = outputs_now;
        one_each = length-put_each kept plan results ∙ parts.one_each;
        counted = parts.counted;
        of_mode = subst (λ p. IfSome p (λ d. d.mode ≡ mode)) (sym after.1) after.2.mode_is;
        fitting = λ t. fits_now;
      }

      -- ---- the state

      kept_is : value_for (operations c.scene) kept_now ≡ kept_at_frame g frame
      kept_is = fun_ext same
        where
          ops_once : NoneTwice (operations c.scene)
          ops_once = subst (λ l. NoneTwice l) parts.copy.tables.same nodes_once

          flushed_within : (op : OpId) → Contains (flushed_at g frame) op → Contains (operations c.scene) op
          flushed_within op listed = reached_within c.scene (tagged_at g frame) op listed

          same : (op : OpId) → value_for (operations c.scene) kept_now op ≡ kept_at_frame g frame op
          same op = by (position (same_operation op) (operations c.scene)) refl
            where
              of_number : (n : ℕ) → slice_get (operations c.scene) n ≡ Some op → position (same_operation op) (operations c.scene) ≡ Some n
                  → (b : Bool) → is_one_of (flushed_at g frame) op ≡ b → value_for (operations c.scene) kept_now op ≡ kept_at_frame g frame op
              of_number n at found b is =
                  ap (λ o. option_map (λ (out : Output). out.value) (option_and_then (kept_at kept_now) o)) found
                  ∙ ap (option_map (λ (out : Output). out.value)) (right_now n op (is_listed c.scene c.nodes c.links parts.copy.tables n op at) ∙ ap (option_map (output_of c.scene mode frame)) at)
                  ∙ sym (ap (λ b. if b then Some (operation_value c.scene mode frame op) else g.kept op) is ∙ kept_there b is)
                where
                  kept_there : (b : Bool) → is_one_of (flushed_at g frame) op ≡ b
                      → (if b then Some (operation_value c.scene mode frame op) else g.kept op) ≡ Some (operation_value c.scene mode frame op)
                  kept_there true one = refl
                  kept_there false one =
                      unrun_is_kept g parts.copy.met fresh frame op (Contains-slice_get (operations c.scene) n op at)
                      (λ reached. both_ways (is_one_of (flushed_at g frame) op) one (one_of_listed (flushed_at g frame) op reached))

              by : (o : Option ℕ) → position (same_operation op) (operations c.scene) ≡ o → value_for (operations c.scene) kept_now op ≡ kept_at_frame g frame op
              by None none =
                  ap (λ o. option_map (λ (out : Output). out.value) (option_and_then (kept_at kept_now) o)) none
                  ∙ sym (ap (λ b. if b then Some (operation_value c.scene mode frame op) else g.kept op) (false_from_ne_true (is_one_of (flushed_at g frame) op) (λ t.
                  let listed = flushed_within op (listed_if_one (flushed_at g frame) op t) in
                  let no : None ≡ Some listed.0 = sym none ∙ number_once (operations c.scene) ops_once op listed.0 (slice_get-get_or (operations c.scene) listed.0 op listed.1 ∙ ap Some listed.2) in
                  cc))
                  ∙ ap (λ o. option_map (λ (out : Output). out.value) (option_and_then (kept_at kept) o)) none)
              by (Some n) found = of_number n (op_at_number (operations c.scene) op n found) found (is_one_of (flushed_at g frame) op) refl

      pub state_now : state_of (record_of mode version c [] kept_now frame_now) ≡ evaluated g frame
      state_now = λ i. record {
        mode = mode;
        version = version;
        copy = c.scene;
        tags = no_operation c.scene i;
        kept = kept_is i;
        published = (ap (option_map published_of) after.1 ∙ ap Some (published_done after.0 after.2)) i;
        running = None;
      }
