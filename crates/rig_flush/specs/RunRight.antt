-- What a graph keeps stays right while its operations start and finish, in whichever order.
use Rattle.std.specs.Prelude.{List, [], ◌∷◌, ◌++◌, Bool, true, false, Option, Some, option_map, unwrap_or, IsTrue, Contains, ℤ, if◌then◌else◌}
use Rattle.std.specs.Option.{option_map_or}
use Rattle.std.proofs.Common.{◌≡◌, refl, sym, ap, ◌∙◌, subst, ⊎_elim}
use Rattle.std.proofs.lemmas.Bool.{both_ways}
use Rattle.std.proofs.lemmas.List.Elements.{Contains-append_left, Contains-push_cases}
use Rattle.std.proofs.lemmas.Option.{same_Some}
use Rattle.rig_laws.specs.Follows.{values_follow}
use Rattle.rig_laws.specs.Kernel.{kernel}
use Rattle.rig_laws.specs.LinksClosed.{ins_closed}
use Rattle.rig_laws.specs.OperationValue.{operation_value}
use Rattle.rig_laws.specs.Output.{rest_value}
use Rattle.rig_links.specs.Numbers.{same_operation}
use Rattle.rig_links.specs.SameOperation.{same_operation-Decides}
use Rattle.rig_pending.specs.declared.mark.Mark.{Mark}
use Rattle.rig_pending.specs.declared.mark.Mark.TheVariants.{Start, Finish}
use Rattle.rig_scene.specs.declared.operation.OpId.{OpId}
use Rattle.rig_scene.specs.Operations.{operations, ins}
use Rattle.rig_scene.specs.Value.{Value}
use Rattle.rig_scene.specs.WellFormed.{is_scene}
use Rattle.rig_flush.specs.Begun.{OfEachNeed, same_inputs, reached_is}
use Rattle.rig_flush.specs.Evaluation.{IsRun}
use Rattle.rig_flush.specs.Graph.{GraphState, Running, IsRight, CanStart, started, CanFinish, finished, value_kept, value_now, with_value}

-- the run of a state is one
pub one_run : (g : GraphState) (a b : Running) → g.running ≡ Some a → g.running ≡ Some b → a ≡ b
one_run g a b runs others = same_Some a b (sym runs ∙ others)

-- an operation that has to run has finished
abbrev pub HasFinished : Running → OpId → Type 0
HasFinished run op = Contains run.flushed op → Contains run.finished op

-- ---- an operation starts

abbrev pub with_start : OpId → Running → Running
with_start op run = record run { started = run.started ++ op ∷ [] }

pub start_is_right : (g : GraphState) → IsRight g → (op : OpId) → CanStart g op → IsRight (started g op)
start_is_right g right op can = record {
  run = with_start op right.run;
  runs = ap (λ o. option_map (with_start op) o) right.runs;
  flushed = right.flushed;
  kept = right.kept;
  sources = sources_finished;
}
  where
    same : right.run ≡ can.run
    same = one_run g right.run can.run right.runs can.runs

    of_this : OfEachNeed g.copy (HasFinished right.run) op
    of_this link has uncut flushed =
        subst (λ run. Contains run.finished link.op) (sym same)
        (can.sources link has uncut (subst (λ run. Contains run.flushed link.op) same flushed))

    sources_finished : (other : OpId) → Contains (right.run.started ++ op ∷ []) other → OfEachNeed g.copy (HasFinished right.run) other
    sources_finished other began link has uncut flushed = ⊎_elim
        (λ before. right.sources other before link has uncut flushed)
        (λ now. of_this link (subst (λ op. Contains (ins g.copy op) link) (sym now) has) uncut flushed)
        (Contains-push_cases right.run.started op other began)

-- ---- an operation finishes

abbrev pub with_finish : OpId → Running → Running
with_finish op run = record run { finished = run.finished ++ op ∷ [] }

-- a state of a run after an operation has finished
abbrev pub finished_in : GraphState → OpId → Running → GraphState
finished_in g op run = record g { kept = with_value g.kept op (value_now g run.frame op); running = Some (with_finish op run) }

pub finished_is : (g : GraphState) (op : OpId) (run : Running) → g.running ≡ Some run → finished g op ≡ finished_in g op run
finished_is g op run runs = ap (λ o. option_map_or (finished_in g op) o g) runs

module _ (g : GraphState) (met : IsTrue (is_scene g.copy)) (right : IsRight g) where
  abbrev scratch : OpId → Value
  scratch op = operation_value g.copy g.mode right.run.frame op

  -- over what is kept, an operation whose needs have finished has its value from scratch
  pub value_is : (op : OpId) → Contains (operations g.copy) op → OfEachNeed g.copy (HasFinished right.run) op
      → value_now g right.run.frame op ≡ scratch op
  value_is op within sources =
      let kept : OfEachNeed g.copy (λ op. value_kept g op ≡ scratch op) op =
      λ link has uncut. ap (λ o. unwrap_or o (rest_value link.op))
      (right.kept link.op (ins_closed g.copy met op link (within, has)) (sources link has uncut)) in
      ap (λ o. unwrap_or o (rest_value op))
      (ap (kernel g.copy g.mode right.run.frame op) (same_inputs (value_kept g) scratch (ins g.copy op) kept)
      ∙ values_follow g.copy met g.mode right.run.frame op within)

  module _ (op : OpId) (can : CanFinish g op) where
    same : can.run ≡ right.run
    same = one_run g can.run right.run can.runs right.runs

    within : Contains (operations g.copy) op
    within =
        let flushed = subst (λ run. Contains run.flushed op) same can.flushed in
        (reached_is g.copy g.tags op (subst (λ ops. Contains ops op) right.flushed flushed)).0

    -- an operation that finishes has its value from scratch
    pub finished_value : value_now g right.run.frame op ≡ scratch op
    finished_value = value_is op within (right.sources op (subst (λ run. Contains run.started op) same can.started))

    finished_kept : (other : OpId) → Contains (operations g.copy) other → HasFinished (with_finish op right.run) other
        → with_value g.kept op (value_now g right.run.frame op) other ≡ Some (scratch other)
    finished_kept other there done = by (same_operation op other) refl
      where
        earlier : same_operation op other ≡ false → Contains right.run.flushed other → Contains right.run.finished other
        earlier is flushed = ⊎_elim
            (λ before. before)
            (λ now. absurd (both_ways (same_operation op other) is ((same_operation-Decides op other).1 now)))
            (Contains-push_cases right.run.finished op other (done flushed))

        by : (b : Bool) → same_operation op other ≡ b
            → (if b then Some (value_now g right.run.frame op) else g.kept other) ≡ Some (scratch other)
        by true is = ap Some finished_value ∙ ap (λ op. Some (scratch op)) ((same_operation-Decides op other).0 is)
        by false is = right.kept other there (earlier is)

    pub finish_is_right : IsRight (finished g op)
    finish_is_right = subst (λ g. IsRight g) (sym (finished_is g op right.run right.runs)) (record {
      run = with_finish op right.run;
      runs = refl;
      flushed = right.flushed;
      kept = finished_kept;
      sources = λ other began link has uncut flushed.
          Contains-append_left right.run.finished (op ∷ []) link.op (right.sources other began link has uncut flushed);
    })

-- ---- many events

abbrev pub frame_of_run : Option Running → Option ℤ
frame_of_run running = option_map (λ (run : Running). run.frame) running

-- What operations that start and finish leave as it is: all but what is kept, and which have started and finished.
pub record Leaves (g after : GraphState) : Type 0 where
  pub copy : after.copy ≡ g.copy
  pub mode : after.mode ≡ g.mode
  pub version : after.version ≡ g.version
  pub tags : after.tags ≡ g.tags
  pub published : after.published ≡ g.published
  pub frame : frame_of_run after.running ≡ frame_of_run g.running

pub leaves_itself : (g : GraphState) → Leaves g g
leaves_itself g = record { copy = refl; mode = refl; version = refl; tags = refl; published = refl; frame = refl }

pub leaves_then : (a b c : GraphState) → Leaves a b → Leaves b c → Leaves a c
leaves_then a b c first more = record {
  copy = more.copy ∙ first.copy;
  mode = more.mode ∙ first.mode;
  version = more.version ∙ first.version;
  tags = more.tags ∙ first.tags;
  published = more.published ∙ first.published;
  frame = more.frame ∙ first.frame;
}

pub start_leaves : (g : GraphState) (op : OpId) → CanStart g op → Leaves g (started g op)
start_leaves g op can = record {
  copy = refl;
  mode = refl;
  version = refl;
  tags = refl;
  published = refl;
  frame = ap (λ o. frame_of_run (option_map (with_start op) o)) can.runs ∙ sym (ap frame_of_run can.runs);
}

pub finish_leaves : (g : GraphState) (op : OpId) → CanFinish g op → Leaves g (finished g op)
finish_leaves g op can = subst (λ after. Leaves g after) (sym (finished_is g op can.run can.runs)) (record {
  copy = refl;
  mode = refl;
  version = refl;
  tags = refl;
  published = refl;
  frame = sym (ap frame_of_run can.runs);
})

pub run_leaves : (trace : List Mark) (g after : GraphState) → IsRun g trace after → Leaves g after
run_leaves [] g after run = subst (λ after. Leaves g after) run (leaves_itself g)
run_leaves (Start n ∷ more) g after run =
    leaves_then g (started g run.0.op) after (start_leaves g run.0.op run.0.can) (run_leaves more (started g run.0.op) after run.1)
run_leaves (Finish n ∷ more) g after run =
    leaves_then g (finished g run.0.op) after (finish_leaves g run.0.op run.0.can) (run_leaves more (finished g run.0.op) after run.1)

pub run_is_right : (trace : List Mark) (g after : GraphState) → IsTrue (is_scene g.copy) → IsRight g → IsRun g trace after → IsRight after
run_is_right [] g after met right run = subst (λ g. IsRight g) run right
run_is_right (Start n ∷ more) g after met right run =
    run_is_right more (started g run.0.op) after met (start_is_right g right run.0.op run.0.can) run.1
run_is_right (Finish n ∷ more) g after met right run =
    run_is_right more (finished g run.0.op) after
    (subst (λ s. IsTrue (is_scene s)) (sym (finish_leaves g run.0.op run.0.can).copy) met)
    (finish_is_right g met right run.0.op run.0.can) run.1
