use Rattle.std.proofs.Common.{◌≡◌, Some, length, slice_get, sym, ap, ◌∙◌, arith, map, w32, to_z, of_z}
use Rattle.std.specs.Prelude.{option_map, false}
use Rattle.std.proofs.lemmas.Int.{to_z-of_z}
use Rattle.rig_laws.specs.Kernel.{kernel}
use Rattle.rig_laws.specs.Output.{link_of}
use Rattle.rig_scene.specs.Found.{Contains-slice_get, some_slice_get}
use Rattle.rig_scene.specs.Operations.{operations}
use Rattle.rig_flush.specs.Shown.{output_of}
use Rattle.rig_flush.specs.Inputs.{next_within, all_can_take, linked, output_is}
use Rattle.rig_flush.specs.Options.{ok_of_three}
use Rattle.rig_flush.proofs.from_scratch.output.Goals as goal

pub ins-requires : goal.ins-requires
ins-requires g c =
    let within = next_within c.args.scene.now c.requires.scene c.args.nodes.now c.args.links.now c.requires.links c.args.mode c.args.frame c.args.kept.now c.args.n c.requires.next in
    omega (arith, within, c.requires.links.fit.rows, ap length c.requires.links.same)

pub inputs_of-requires : goal.inputs_of-requires
inputs_of-requires g c =
    let s = c.args.scene.now in
    let within = next_within s c.requires.scene c.args.nodes.now c.args.links.now c.requires.links c.args.mode c.args.frame c.args.kept.now c.args.n c.requires.next in
    let op = some_slice_get (operations s) c.args.n within in
    all_can_take s c.requires.scene c.args.nodes.now c.args.links.now c.requires.links c.args.n op.0 c.ins.result.now op.1 c.ins.ensures.row c.args.mode c.args.frame c.args.kept.now c.requires.next

pub op-requires : goal.op-requires
op-requires g c =
    let within = next_within c.args.scene.now c.requires.scene c.args.nodes.now c.args.links.now c.requires.links c.args.mode c.args.frame c.args.kept.now c.args.n c.requires.next in
    omega (arith, within, ap length c.requires.links.same)

pub run_op-requires-clause-op : goal.run_op-requires-clause-op
run_op-requires-clause-op g c =
    Contains-slice_get (operations c.args.scene.now) c.args.n c.op.result.now (ap (λ l. slice_get l c.args.n) (sym c.requires.links.same) ∙ c.op.ensures)

pub run_op-requires-clause-inputs : goal.run_op-requires-clause-inputs
run_op-requires-clause-inputs g c =
    let s = c.args.scene.now in
    ap (map link_of) c.as_slice.ensures.value
    ∙ linked s c.requires.scene c.args.nodes.now c.args.links.now c.requires.links c.args.n c.op.result.now c.ins.result.now
    (ap (λ l. slice_get l c.args.n) (sym c.requires.links.same) ∙ c.op.ensures) c.ins.ensures.row c.args.mode c.args.frame c.args.kept.now c.requires.next
    c.in_ok-inputs.inputs.items c.in_ok-inputs.ensures

pub returns-clause-value : goal.returns-clause-value
returns-clause-value g c =
    let s = c.args.scene.now in
    let op = c.op.result.now in
    let passed : to_z w32 (of_z w32 c.args.frame) ≡ c.args.frame = to_z-of_z w32 c.args.frame c.ranges.frame in
    ok_of_three c.run_op.result (λ out. kernel s c.args.mode (to_z w32 (of_z w32 c.args.frame)) op c.as_slice.result.now ≡ Some out.value) (λ out. out.op ≡ op) (λ out. out.is_rest ≡ false)
    (λ out. option_map (output_of s c.args.mode c.args.frame) (slice_get (operations s) c.args.n) ≡ Some out)
    (λ out given of_op kept. output_is s c.requires.scene c.args.nodes.now c.args.links.now c.requires.links c.args.n op c.ins.result.now
    (ap (λ l. slice_get l c.args.n) (sym c.requires.links.same) ∙ c.op.ensures) c.ins.ensures.row c.args.mode c.args.frame c.args.kept.now c.requires.next
    c.in_ok-inputs.inputs.items out c.in_ok-inputs.ensures
    (ap (kernel s c.args.mode c.args.frame op) (sym c.as_slice.ensures.value) ∙ ap (λ f. kernel s c.args.mode f op c.as_slice.result.now) (sym passed) ∙ given) of_op kept)
    c.run_op.ensures.value c.run_op.ensures.op c.run_op.ensures.kept
