use Rattle.std.proofs.Common.{◌≡◌, ◌||◌, not, filter, length, refl, ap, ◌∙◌, arith}
use Rattle.std.proofs.lemmas.List.{take_all}
use Rattle.std.proofs.lemmas.Option.{slice_get_read}
use Rattle.rig_scene.specs.Operations.{operations, ins}
use Rattle.rig_flush.specs.Retag.{is_one_of, is_tagged_after, same_links, retagged}
use Rattle.rig_flush.proofs.Retagged.{tags_more, four_reasons}
use Rattle.rig_flush.proofs.edited.retag.Goals as goal

pub loop-n-preserved : goal.loop-n-preserved
loop-n-preserved c before after tables new_tables =
    let op = c.index-ops-n.result in
    let same : length c.ops-ops.result.now ≡ length c.args.new_nodes.now = ap length c.ops-ops.ensures.ops in
    let at = slice_get_read c.ops-ops.result.now (length c.ops-ops.result.now) c.loop-n.n op refl (omega arith) c.index-ops-n.is in
    let unlike = not (is_one_of (operations before) op) || not (same_links (ins before op) (ins after op)) in
    let test : c.is_tagged.result ≡ is_tagged_after before after c.args.tags.now c.args.touched.now op =
    c.is_tagged.ensures
    ∙ ap (λ b. is_one_of c.args.tags.now op || is_one_of c.in_ok-touched_ops.touched_ops op || b) (c.has_changed-changed.ensures before after tables new_tables)
    ∙ ap (λ b. is_one_of c.args.tags.now op || b || unlike) (c.in_ok-touched_ops.ensures op ∙ ap (λ l. is_one_of l op) c.as_slice.ensures)
    ∙ four_reasons (is_one_of c.args.tags.now op) (is_one_of c.args.touched.now op) (not (is_one_of (operations before) op)) (not (same_links (ins before op) (ins after op))) in
    c.in_ok-add_if.ensures
    ∙ tags_more (is_tagged_after before after c.args.tags.now c.args.touched.now) c.ops-ops.result.now c.loop-n.new c.loop-n.n op c.is_tagged.result c.ops-ops.ensures.once at test
    (c.loop-n.invariant before after tables new_tables)

pub returns : goal.returns
unfolding retagged
returns c before after tables new_tables =
    let same : length c.ops-ops.result.now ≡ length c.args.new_nodes.now = ap length c.ops-ops.ensures.ops in
    c.loop-n.invariant before after tables new_tables
    ∙ ap (filter (is_tagged_after before after c.args.tags.now c.args.touched.now)) (take_all c.loop-n.n c.ops-ops.result.now (omega arith) ∙ c.ops-ops.ensures.ops ∙ new_tables.same)
