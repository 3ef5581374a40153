use Rattle.std.proofs.Common.{◌≡◌, ◌-◌, drop, arith, sym, ◌∙◌}
use Rattle.rig_kernel.specs.Driven.{driver_count}
use Rattle.rig_kernel.proofs.DrivenInputs.{count_at, count_none, count_end}
use Rattle.rig_kernel.proofs.driven.drivers_end.Goals as goal

pub returns-then-not-is_driver_at-clause-value : goal.returns-then-not-is_driver_at-clause-value
returns-then-not-is_driver_at-clause-value g c =
    let h = c.loop-index.invariant in
    let none : driver_count (c.args.end - c.loop-index.index) (drop c.loop-index.index (g.I.Inputs.list c.args.inputs.now)) ≡ 0 =
    count_none _ c.loop-index.index _ (sym c.is_driver_at.ensures ∙ c.if-not-is_driver_at.true) in
    omega (arith, h)

pub loop-index-preserved : goal.loop-index-preserved
loop-index-preserved g c =
    sym (count_at (g.I.Inputs.list c.args.inputs.now) c.loop-index.index c.args.end c.loop-index-test.true (sym c.is_driver_at.ensures ∙ c.if-not-is_driver_at.false))
    ∙ c.loop-index.invariant

pub returns-clause-value : goal.returns-clause-value
returns-clause-value g c =
    let h = c.loop-index.invariant in
    let none : driver_count (c.args.end - c.loop-index.index) (drop c.loop-index.index (g.I.Inputs.list c.args.inputs.now)) ≡ 0 = count_end _ c.loop-index.index c.args.end c.loop-index-test.false in
    let le = c.loop-index.auto.index-end c.requires in
    omega (arith, h)
