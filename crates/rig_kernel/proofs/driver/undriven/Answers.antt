use Rattle.std.proofs.Common.{ap, pos, sym, ◌∙◌}
use Rattle.std.specs.Prelude.{slice_get, unwrap_or, None}
use Rattle.rig_scene.specs.declared.id.AnimId.{AnimId}
use Rattle.rig_scene.specs.ChannelNumber.{animated_number, original_number, number_by}
use Rattle.rig_scene.specs.Scene.{SceneRecord}
use Rattle.rig_laws.specs.Output.{numbers_at}
use Rattle.rig_kernel.proofs.VariableNumbers.{of_object, of_pencil}
use Rattle.rig_kernel.proofs.driver.undriven.Goals as goal

pub returns-in-Object-clause-number : goal.returns-in-Object-clause-number
returns-in-Object-clause-number g c =
    let numbers = numbers_at (g.I.Inputs.list c.args.inputs.now) c.args.index in
    c.of_object.ensures
    ∙ of_object c.args.scene.now c.args.tables.now c.requires.tables numbers c.args.path.now c.in-Object.o c.object_of-object.result.now c.object_of-object.ensures.object
    ∙ ap (λ (id : AnimId). number_by None (animated_number c.args.scene.now (λ other. numbers) id c.args.path.now) (unwrap_or (original_number c.args.scene.now id c.args.path.now) (pos 0))) (sym c.in-Object.is)

pub returns-in-Pencil-clause-number : goal.returns-in-Pencil-clause-number
returns-in-Pencil-clause-number g c =
    let numbers = numbers_at (g.I.Inputs.list c.args.inputs.now) c.args.index in
    let found = ap (λ (s : SceneRecord). slice_get s.pencils c.in-Pencil.p) (sym c.scene.view_is) ∙ c.get-pencil.ensures in
    c.of_pencil.ensures
    ∙ of_pencil c.args.scene.now c.args.tables.now c.requires.tables numbers c.args.path.now c.in-Pencil.p c.get-pencil.result.now found
    ∙ ap (λ (id : AnimId). number_by None (animated_number c.args.scene.now (λ other. numbers) id c.args.path.now) (unwrap_or (original_number c.args.scene.now id c.args.path.now) (pos 0))) (sym c.in-Pencil.is)
