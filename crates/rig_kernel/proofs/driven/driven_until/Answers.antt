use Rattle.std.proofs.Common.{sym, ap, ◌∙◌, ◌≡◌, Some}
use Rattle.std.specs.Prelude.{slice_get}
use Rattle.std.specs.Option.{option_copied}
use Rattle.rig_scene.specs.Value.{number_in}
use Rattle.rig_kernel.proofs.DrivenInputs.{among_at, among_past, among_none, number_here, number_later, no_number}
use Rattle.rig_kernel.proofs.driven.driven_until.Goals as goal

pub returns-in_default : goal.returns-in_default
returns-in_default g c =
    sym (among_past (g.I.Inputs.list c.args.inputs.now) c.loop-index.index _ c.args.place (sym c.get.ensures ∙ ap option_copied c.in_default.is))
    ∙ c.loop-index.invariant

pub returns-in_default-op : goal.returns-in_default-op
returns-in_default-op g c =
    let at : slice_get (g.I.Inputs.list c.args.inputs.now) c.loop-index.index ≡ Some c.in-Some.out.now = sym c.get.ensures ∙ ap option_copied c.in-Some.is in
    sym (among_at (g.I.Inputs.list c.args.inputs.now) c.loop-index.index c.args.end c.args.place c.in-Some.out.now c.loop-index-test.true at
    ∙ no_number c.in-Some.out.now.op c.args.place (number_in c.in-Some.out.now.value) _ (λ id path e. c.in_default-op.not-Driver id path (c.op.ensures ∙ e)))
    ∙ c.loop-index.invariant

pub returns-then-path_place-place : goal.returns-then-path_place-place
returns-then-path_place-place g c =
    let at : slice_get (g.I.Inputs.list c.args.inputs.now) c.loop-index.index ≡ Some c.in-Some.out.now = sym c.get.ensures ∙ ap option_copied c.in-Some.is in
    ap Some (c.number_in.ensures ∙ ap number_in c.value.ensures)
    ∙ sym (among_at (g.I.Inputs.list c.args.inputs.now) c.loop-index.index c.args.end c.args.place c.in-Some.out.now c.loop-index-test.true at
    ∙ number_here c.in-Some.out.now.op c.in-Driver.field-0 c.in-Driver.path c.args.place (number_in c.in-Some.out.now.value) _
    (sym c.op.ensures ∙ c.in-Driver.is) (sym c.path_place.ensures ∙ c.if-path_place-place.true))
    ∙ c.loop-index.invariant

pub loop-index-preserved : goal.loop-index-preserved
loop-index-preserved g c =
    let at : slice_get (g.I.Inputs.list c.args.inputs.now) c.loop-index.index ≡ Some c.in-Some.out.now = sym c.get.ensures ∙ ap option_copied c.in-Some.is in
    sym (among_at (g.I.Inputs.list c.args.inputs.now) c.loop-index.index c.args.end c.args.place c.in-Some.out.now c.loop-index-test.true at
    ∙ number_later c.in-Some.out.now.op c.in-Driver.field-0 c.in-Driver.path c.args.place (number_in c.in-Some.out.now.value) _
    (sym c.op.ensures ∙ c.in-Driver.is) (λ e. c.if-path_place-place.false (c.path_place.ensures ∙ e)))
    ∙ c.loop-index.invariant

pub returns : goal.returns
returns g c = sym (among_none _ c.loop-index.index c.args.end c.args.place c.loop-index-test.false) ∙ c.loop-index.invariant
