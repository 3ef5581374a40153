use Rattle.std.proofs.Common.{◌+◌, List, [], ◌∷◌, ◌++◌, drop, ap, ◌∙◌, subst}
use Rattle.std.specs.Prelude.{if◌then◌else◌}
use Rattle.rig_flush.specs.Retag.{is_one_of}
use Rattle.rig_flush.specs.TagsOfScene.{listed_if_one}
use Rattle.rig_scene.specs.declared.operation.OpId.{OpId}
use Rattle.rig_scene.specs.Pairs.{NoneTwice}
use Rattle.rig_graph.specs.AddedOnce.{added_once}
use Rattle.rig_graph.proofs.opening.all_tags.Goals as goal

pub loop-op-preserved : goal.loop-op-preserved
loop-op-preserved c =
    let items = c.ops-op-items.result.now in
    let tags = c.loop-op.tags in
    let with_op : OpId → List OpId = λ op. if is_one_of tags op then tags else tags ++ op ∷ [] in
    ap (λ l. l ++ drop (c.loop-op.op-index + 1) items) (c.in_ok-add.ensures.ok ∙ ap with_op (c.in_ok-copy.ensures ∙ c.op-item.is))
    ∙ added_once is_one_of listed_if_one tags items c.args.nodes.now c.loop-op.op-index c.op-item.result c.loop-op-test.true
    (subst (λ (l : List OpId). NoneTwice l) c.ops-op-items.ensures.ops c.ops-op-items.ensures.once) c.loop-op.invariant
