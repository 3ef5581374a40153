-- Running the operations of a plan one after the other is an evaluation.
use Rattle.std.specs.Prelude.{slice_get, Contains, IsTrue, ℤ, if◌then◌else◌}
use Rattle.std.specs.Bool.{Decides}
use Rattle.std.specs.Option.{option_map_or, unwrap_or}
use Rattle.std.proofs.Common.{◌≡◌, ℕ, ◌<◌, Bool, true, false, List, [], ◌∷◌, ◌++◌, length, get_or, Option, Some, None, refl, sym, ap, ◌∙◌, subst, ⊎_elim}
use Rattle.std.proofs.lemmas.Bool.{both_ways}
use Rattle.std.proofs.lemmas.Bool.Decides.{same_from_decides}
use Rattle.std.proofs.lemmas.Grind.{flat_map-append}
use Rattle.std.proofs.lemmas.List.{append_assoc, append-nil}
use Rattle.std.proofs.lemmas.List.Elements.{All-contains, Contains-append_left, Contains-append_right, Contains-push, Contains-push_cases}
use Rattle.std.proofs.lemmas.Option.{slice_get-get_or}
use Rattle.rig_cycles.specs.Elements.{element_first, element_cases, element_none}
use Rattle.rig_laws.specs.Follows.{values_follow}
use Rattle.rig_laws.specs.Kernel.{kernel}
use Rattle.rig_laws.specs.LinksClosed.{ins_closed}
use Rattle.rig_laws.specs.Lists.{All-elements, Contains-flat_map, element_of_flat_map}
use Rattle.rig_laws.specs.OperationValue.{operation_value}
use Rattle.rig_laws.specs.Output.{rest_value}
use Rattle.rig_links.specs.Links.{Links}
use Rattle.rig_links.specs.Numbers.{same_operation}
use Rattle.rig_links.specs.SameOperation.{same_operation-Decides}
use Rattle.rig_scene.specs.declared.operation.OpId.{OpId}
use Rattle.rig_scene.specs.declared.operation.OpId.TheVariants.{Time}
use Rattle.rig_scene.specs.FactsHold.{scene_facts}
use Rattle.rig_scene.specs.Found.{Contains-slice_get}
use Rattle.rig_scene.specs.OneOfEach.{operations_once}
use Rattle.rig_scene.specs.Operations.{InLink, operations, ins}
use Rattle.rig_scene.specs.Pairs.{NoneTwice}
use Rattle.rig_scene.specs.Scene.{SceneRecord}
use Rattle.rig_scene.specs.Value.{Value}
use Rattle.rig_scene.specs.WellFormed.{is_scene}
use Rattle.rig_flush.specs.Begun.{same_inputs, one_of_listed}
use Rattle.rig_flush.specs.Evaluation.{IsRun, IsEvaluation, marks_of, evaluated}
use Rattle.rig_flush.specs.Graph.{GraphState, Running, IsRight, CanStart, CanFinish, finished, CanPublish, published_now, value_kept, value_now, with_value, tagged_at, flushed_at}
use Rattle.rig_flush.specs.MarksInOrder.{apart_before}
use Rattle.rig_flush.specs.PublishedRight.{published_frame}
use Rattle.rig_flush.specs.ReachByNumber.{one_index, is_operation}
use Rattle.rig_flush.specs.ReachedInOrder.{numbers_once, numbers_within, number_reached, reached_number, needs_earlier}
use Rattle.rig_flush.specs.Retag.{is_one_of}
use Rattle.rig_flush.specs.Tables.{AreTablesOf, reached_numbers, operations_at}
use Rattle.rig_flush.specs.TagsOfScene.{listed_if_one}

-- nothing stands twice among the operations of tables
pub tables_once : (s : SceneRecord) → IsTrue (is_scene s) → (ops : List OpId) (links : Links) → AreTablesOf s ops links → NoneTwice ops
tables_once s met ops links tables = subst (λ l. NoneTwice l) (sym tables.same) (operations_once s (scene_facts s met))

-- whether an operation is among others
one_of_decides : (ops : List OpId) (op : OpId) → Decides (is_one_of ops op) (Contains ops op)
one_of_decides ops op = (listed_if_one ops op, one_of_listed ops op)

-- lists of the same operations have the same ones
one_of_same : (xs ys : List OpId) (op : OpId) → (Contains xs op → Contains ys op) → (Contains ys op → Contains xs op)
    → is_one_of xs op ≡ is_one_of ys op
one_of_same xs ys op to back =
    same_from_decides {P = Contains ys op} (is_one_of xs op) (is_one_of ys op)
    (λ t. to (listed_if_one xs op t), λ e. one_of_listed xs op (back e)) (one_of_decides ys op)

-- ---- the operations of numbers

-- an operation as the elements of a list
abbrev elements : Option OpId → List OpId
elements o = option_map_or (λ op. op ∷ []) o []

module _ (ops : List OpId) where
  abbrev at_number : ℕ → List OpId
  at_number n = elements (slice_get ops n)

  operation_there : (numbers : List ℕ) (n : ℕ) (op : OpId) → slice_get ops n ≡ Some op → Contains numbers n
      → Contains (operations_at ops numbers) op
  operation_there numbers n op at e =
      Contains-flat_map at_number numbers n op e (subst (λ o. Contains (elements o) op) (sym at) (element_first op []))

  number_there : (numbers : List ℕ) (op : OpId) → Contains (operations_at ops numbers) op
      → (n : ℕ) × Contains numbers n × (slice_get ops n ≡ Some op)
  number_there numbers op e =
      let n = element_of_flat_map at_number numbers op e in
      (n.0, n.1, by n.0 (slice_get ops n.0) refl n.2)
    where
      by : (n : ℕ) (o : Option OpId) → slice_get ops n ≡ o → Contains (elements o) op → slice_get ops n ≡ Some op
      by n None at c = absurd (element_none op c)
      by n (Some other) at c = ⊎_elim (λ s. at ∙ ap Some s) (λ rest. absurd (element_none op rest)) (element_cases other [] op c)

  one_more : (numbers : List ℕ) (n : ℕ) (op : OpId) → slice_get ops n ≡ Some op
      → operations_at ops (numbers ++ n ∷ []) ≡ operations_at ops numbers ++ op ∷ []
  one_more numbers n op at =
      flat_map-append at_number numbers (n ∷ []) ∙ ap (λ o. operations_at ops numbers ++ (elements o ++ [])) at

-- ---- the states on the way

module _ (g : GraphState) (frame : ℤ) where
  abbrev scratch : OpId → Value
  scratch op = operation_value g.copy g.mode frame op

  -- the value from scratch, or what was kept
  abbrev kept_if : Bool → OpId → Option Value
  kept_if ran op = if ran then Some (scratch op) else g.kept op

  -- what is kept after some operations have finished
  abbrev kept_after : List OpId → OpId → Option Value
  kept_after done op = kept_if (is_one_of done op) op

  abbrev run_after : List OpId → List OpId → Running
  run_after began done = record { frame = frame; flushed = flushed_at g frame; started = began; finished = done }

  abbrev state_after : List OpId → List OpId → GraphState
  state_after began done = record g { tags = tagged_at g frame; kept = kept_after done; running = Some (run_after began done) }

  -- nothing has started that hasn't finished
  abbrev state_between : List OpId → GraphState
  state_between done = state_after done done

  -- one more finishes
  kept_more : (done : List OpId) (op : OpId) (value : Value) → value ≡ scratch op
      → with_value (kept_after done) op value ≡ kept_after (done ++ op ∷ [])
  kept_more done op value is = λ i other. at other (same_operation op other) refl i
    where
      earlier : (other : OpId) → same_operation op other ≡ false → Contains (done ++ op ∷ []) other → Contains done other
      earlier other differ e = ⊎_elim
          (λ c. c)
          (λ s. absurd (both_ways (same_operation op other) differ ((same_operation-Decides op other).1 s)))
          (Contains-push_cases done op other e)

      at : (other : OpId) (b : Bool) → same_operation op other ≡ b
          → with_value (kept_after done) op value other ≡ kept_after (done ++ op ∷ []) other
      at other true same =
          let here : op ≡ other = (same_operation-Decides op other).0 same in
          let listed = subst (λ o. Contains (done ++ op ∷ []) o) here (Contains-push done op) in
          ap (λ b. if b then Some value else kept_after done other) same
          ∙ ap Some (is ∙ ap scratch here)
          ∙ sym (ap (λ b. kept_if b other) (one_of_listed (done ++ op ∷ []) other listed))
      at other false differ =
          ap (λ b. if b then Some value else kept_after done other) differ
          ∙ ap (λ b. kept_if b other)
          (one_of_same done (done ++ op ∷ []) other (Contains-append_left done (op ∷ []) other) (earlier other differ))

  finished_more : (done : List OpId) (op : OpId) → value_now (state_after (done ++ op ∷ []) done) frame op ≡ scratch op
      → finished (state_after (done ++ op ∷ []) done) op ≡ state_between (done ++ op ∷ [])
  finished_more done op is =
      ap (λ (kept : OpId → Option Value). record (state_between (done ++ op ∷ [])) { kept = kept })
      (kept_more done op (value_now (state_after (done ++ op ∷ []) done) frame op) is)

-- ---- a run in order

-- what an evaluation doesn't run has its value from scratch at the frame
abbrev pub IsUnrunKept : GraphState → ℤ → Type 0
IsUnrunKept g frame =
    (op : OpId) → Contains (operations g.copy) op → (Contains (flushed_at g frame) op → ⊥)
    → g.kept op ≡ Some (operation_value g.copy g.mode frame op)

module _ (g : GraphState) (met : IsTrue (is_scene g.copy)) (frame : ℤ)
    (ops : List OpId) (links : Links) (tables : AreTablesOf g.copy ops links) where
  abbrev pub numbers : List ℕ
  numbers = reached_numbers ops links (tagged_at g frame)

  abbrev all : List OpId
  all = operations_at ops numbers

  once : NoneTwice ops
  once = tables_once g.copy met ops links tables

  number_of_run : (op : OpId) → Contains (flushed_at g frame) op → (n : ℕ) × (slice_get ops n ≡ Some op) × Contains numbers n
  number_of_run = reached_number g.copy ops links tables once (tagged_at g frame)

  number_runs : (n : ℕ) (op : OpId) → slice_get ops n ≡ Some op → Contains numbers n → Contains (flushed_at g frame) op
  number_runs = number_reached g.copy ops links tables once (tagged_at g frame)

  -- what has to run is what runs
  all_run : (op : OpId) → Contains (flushed_at g frame) op → Contains all op
  all_run op flushed = let n = number_of_run op flushed in operation_there ops numbers n.0 op n.1 n.2

  all_flushed : (op : OpId) → Contains all op → Contains (flushed_at g frame) op
  all_flushed op runs = let n = number_there ops numbers op runs in number_runs n.0 op n.2 n.1

  module _ (unrun : IsUnrunKept g frame) where
    -- what has run and what has not to run has its value from scratch
    kept_is : (done : List OpId) (op : OpId) → Contains (operations g.copy) op → (Contains (flushed_at g frame) op → Contains done op)
        → kept_after g frame done op ≡ Some (scratch g frame op)
    kept_is done op within has = by (is_one_of done op) refl
      where
        by : (b : Bool) → is_one_of done op ≡ b → kept_if g frame b op ≡ Some (scratch g frame op)
        by true t = refl
        by false f = unrun op within (λ flushed. both_ways (is_one_of done op) f (one_of_listed done op (has flushed)))

    -- ---- one operation

    module _ (done to_come : List ℕ) (n : ℕ) (split : numbers ≡ done ++ n ∷ to_come) where
      abbrev finished_ones : List OpId
      finished_ones = operations_at ops done

      abbrev op : OpId
      op = get_or ops n Time

      abbrev before : GraphState
      before = state_between g frame finished_ones

      abbrev during : GraphState
      during = state_after g frame (finished_ones ++ op ∷ []) finished_ones

      abbrev after : GraphState
      after = state_between g frame (operations_at ops (done ++ n ∷ []))

      is_next : Contains numbers n
      is_next = subst (λ l. Contains l n) (sym split) (Contains-append_right done (n ∷ to_come) n (element_first n to_come))

      at : slice_get ops n ≡ Some op
      at =
          let below = numbers_within g.copy ops links tables once (tagged_at g frame) in
          slice_get-get_or ops n Time (All-contains (λ n. n < length ops) numbers n below is_next)

      numbered : slice_get (operations g.copy) n ≡ Some op
      numbered = is_operation g.copy ops links tables n op at

      not_yet : Contains finished_ones op → ⊥
      not_yet e =
          let m = number_there ops done op e in
          let each = numbers_once g.copy ops links tables once (tagged_at g frame) in
          apart_before done to_come n (subst (λ l. NoneTwice l) split each)
          (subst (λ k. Contains done k) (one_index ops once op m.0 n m.2 at) m.1)

      -- what it needs has finished
      sources : (link : InLink) → Contains (ins g.copy op) link → link.cut ≡ false → Contains (flushed_at g frame) link.op
          → Contains finished_ones link.op
      sources link has uncut flushed =
          let m = number_of_run link.op flushed in
          let source_is = is_operation g.copy ops links tables m.0 link.op m.1 in
          operation_there ops done m.0 link.op m.1
          (needs_earlier g.copy ops links tables once (tagged_at g frame) done to_come n m.0 split m.2
          (record { op = op; link = link; numbered = numbered; is_link = has; kept = uncut; source_is = source_is }))

      can_start : CanStart before op
      can_start = record {
        run = run_after g frame finished_ones finished_ones;
        runs = refl;
        flushed = number_runs n op at is_next;
        waiting = not_yet;
        sources = sources;
      }

      can_finish : CanFinish during op
      can_finish = record {
        run = run_after g frame (finished_ones ++ op ∷ []) finished_ones;
        runs = refl;
        flushed = number_runs n op at is_next;
        started = Contains-push finished_ones op;
        unfinished = not_yet;
      }

      value_is : value_now during frame op ≡ scratch g frame op
      value_is =
          let within = Contains-slice_get (operations g.copy) n op numbered in
          let taken = same_inputs (value_kept during) (scratch g frame) (ins g.copy op)
          (λ link has uncut.
          let there = ins_closed g.copy met op link (within, has) in
          ap (λ o. unwrap_or o (rest_value link.op)) (kept_is finished_ones link.op there (sources link has uncut))) in
          ap (λ o. unwrap_or o (rest_value op)) (ap (kernel g.copy g.mode frame op) taken ∙ values_follow g.copy met g.mode frame op within)

      step : finished during op ≡ after
      step = finished_more g frame finished_ones op value_is ∙ sym (ap (state_between g frame) (one_more ops done n op at))

      one_runs : (last : GraphState) → IsRun after (marks_of to_come) last → IsRun before (marks_of (n ∷ to_come)) last
      one_runs last later = (
        record { op = op; numbered = numbered; can = can_start },
        (
          record { op = op; numbered = numbered; can = can_finish },
          subst (λ state. IsRun state (marks_of to_come) last) (sym step) later,
        ),
      )

    -- ---- all of them

    abbrev last : GraphState
    last = state_between g frame all

    -- where some have run, those to come lead to the end
    run_from : (done to_come : List ℕ) → numbers ≡ done ++ to_come
        → IsRun (state_between g frame (operations_at ops done)) (marks_of to_come) last
    run_from done [] split = ap (λ l. state_between g frame (operations_at ops l)) (sym (split ∙ append-nil done))
    run_from done (n ∷ to_come) split =
        one_runs done to_come n split last (run_from (done ++ n ∷ []) to_come (split ∙ sym (append_assoc done (n ∷ []) to_come)))

    complete : CanPublish last
    complete = record { run = run_after g frame all all; runs = refl; all = All-elements (Contains all) (flushed_at g frame) all_run }

    last_is_right : IsRight last
    last_is_right = record {
      run = run_after g frame all all;
      runs = refl;
      flushed = refl;
      kept = kept_is all;
      sources = λ op began link has uncut flushed. all_run link.op flushed;
    }

    published : evaluated g frame ≡ published_now last
    unfolding last_is_right
    published = λ i. record g {
      tags = [];
      kept = λ op. kept_if g frame (one_of_same (flushed_at g frame) all op (all_run op) (all_flushed op) i) op;
      published = sym (published_frame last last_is_right complete) i;
      running = None;
    }

    pub in_order_is_evaluation : g.running ≡ None → IsEvaluation g frame (marks_of numbers) (evaluated g frame)
    in_order_is_evaluation idle = record {
      idle = idle;
      ran = last;
      run = run_from [] numbers refl;
      complete = complete;
      published = published;
    }
