use Rattle.std.proofs.Common.{List, Some, ap, sym, ◌∙◌}
use Rattle.std.proofs.lemmas.Option.{slice_get-get_or}
use Rattle.rig_scene.specs.Combine.{combine}
use Rattle.rig_scene.specs.declared.driver.Variable.{Variable}
use Rattle.rig_scene.specs.declared.quantity.Quantity.TheVariants as quantity
use Rattle.rig_laws.specs.Kernel.{driver_number, variable_numbers}
use Rattle.rig_kernel.proofs.DriverNumbers.{takes_driver, all_numbers}
use Rattle.rig_kernel.proofs.driver.driver_number.Goals as goal

pub variable_number-taken-requires-clause-driver : goal.variable_number-taken-requires-clause-driver
variable_number-taken-requires-clause-driver g c =
    takes_driver c.args.scene.now (quantity.Chan c.args.driver.now.id c.args.driver.now.path) c.as_slice-variables.result.now (g.I.Inputs.list c.args.inputs.now) c.loop-index.next c.loop-index.index
    c.index-variables-index.result
    (slice_get-get_or c.as_slice-variables.result.now c.loop-index.index c.index-variables-index.result c.loop-index-test.true ∙ ap Some (sym c.index-variables-index.is))
    c.loop-index.invariant.links

pub returns : goal.returns
unfolding driver_number
returns g c =
    let s = c.args.scene.now in
    let q = quantity.Chan c.args.driver.now.id c.args.driver.now.path in
    let outs = g.I.Inputs.list c.args.inputs.now in
    c.combine.ensures
    ∙ ap (combine c.args.driver.now.kind)
    (all_numbers s q c.as_slice-variables.result.now outs c.loop-index.next c.loop-index.index c.loop-index.numbers (variable_numbers s q c.as_slice-variables.result.now outs)
    c.loop-index-test.false c.loop-index.auto.index-end c.loop-index.invariant.numbers
    ∙ ap (λ (vs : List Variable). variable_numbers s q vs outs) c.as_slice-variables.ensures)
