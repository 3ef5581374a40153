use Rattle.std.proofs.Common.{ap, drop, sym, subst, Some, None, ◌∙◌}
use Rattle.rig_fixed.specs.Transform.{Transform}
use Rattle.rig_scene.specs.declared.driver.Variable.{Variable}
use Rattle.rig_scene.specs.Channel.{transform_number}
use Rattle.rig_laws.specs.Kernel.{variable_number}
use Rattle.rig_kernel.specs.VariableBy.{TakesItsDriver}
use Rattle.rig_kernel.proofs.VariableNumbers.{property_is, transform_is}
use Rattle.rig_kernel.proofs.driver.variable_number.Goals as goal

pub returns-in-Some-clause-number : goal.returns-in-Some-clause-number
returns-in-Some-clause-number g c =
    let outs = g.I.Inputs.list c.args.inputs.now in
    let takes = subst (λ (v : Variable). TakesItsDriver c.args.scene.now v outs c.args.index) c.in-Property.is c.requires.driver in
    property_is c.args.scene.now outs c.args.index c.in-Property.id c.in-Property.path (Some c.in-Some.number) (sym c.driven_at.ensures ∙ c.in-Some.is) takes
    ∙ ap (λ (v : Variable). variable_number c.args.scene.now v (drop c.args.index outs)) (sym c.in-Property.is)

pub returns-in-None-clause-number : goal.returns-in-None-clause-number
returns-in-None-clause-number g c =
    let outs = g.I.Inputs.list c.args.inputs.now in
    let takes = subst (λ (v : Variable). TakesItsDriver c.args.scene.now v outs c.args.index) c.in-Property.is c.requires.driver in
    c.undriven.ensures.number
    ∙ property_is c.args.scene.now outs c.args.index c.in-Property.id c.in-Property.path None (sym c.driven_at.ensures ∙ c.in-None.is) takes
    ∙ ap (λ (v : Variable). variable_number c.args.scene.now v (drop c.args.index outs)) (sym c.in-Property.is)

pub returns-in-Transform-clause-number : goal.returns-in-Transform-clause-number
returns-in-Transform-clause-number g c =
    let outs = g.I.Inputs.list c.args.inputs.now in
    c.number_of.ensures ∙ ap (λ (t : Transform). transform_number t c.in-Transform.channel) c.transform_at.ensures
    ∙ transform_is c.args.scene.now outs c.args.index c.in-Transform.object c.in-Transform.space c.in-Transform.channel
    ∙ ap (λ (v : Variable). variable_number c.args.scene.now v (drop c.args.index outs)) (sym c.in-Transform.is)
