use Rattle.std.proofs.Common.{take, drop, sym, refl, ◌∙◌, arith}
use Rattle.std.proofs.lemmas.List.{take-append-drop, take_rest}
use Rattle.std.proofs.Math.Seq.{take-add}
use Rattle.rig_io.proofs.Pieces.{Appended-append, Appended-kept}
use Rattle.rig_io.proofs.whole.write_all.Goals as goal

pub loop-done-preserved : goal.loop-done-preserved
loop-done-preserved g c = record {
  within = omega (arith, c.in-Took.ensures.some.1);
  taken =
      rw take-add
      (Appended-append _ _ _ _ _ c.loop-done.invariant.taken (rw take_rest at c.in-Took.ensures.took));
  faults = c.in-Took.ensures.no_fault (λ e. cc) ∙ c.loop-done.invariant.faults;
}

pub returns-in-Failed-clause-err : goal.returns-in-Failed-clause-err
returns-in-Failed-clause-err g c = (
  take c.loop-done.done c.args.bytes.now,
  drop c.loop-done.done c.args.bytes.now,
  sym (take-append-drop _ _),
  Appended-kept _ _ _ _ c.loop-done.invariant.taken (c.in-Failed.ensures.kept refl),
)
