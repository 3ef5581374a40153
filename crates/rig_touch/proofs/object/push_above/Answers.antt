use Rattle.std.proofs.Common.{◌∙◌, ◌+◌, ◌++◌, ◌∷◌, [], List, map, refl, sym, ap}
use Rattle.std.specs.List.{range_with_len}
use Rattle.std.proofs.lemmas.List.{append_assoc}
use Rattle.std.proofs.lemmas.List.FromFn.{map-range_with_len_more}
use Rattle.rig_scene.specs.declared.operation.OpId.{OpId}
use Rattle.rig_scene.specs.declared.operation.OpId.TheVariants as op
use Rattle.rig_touch.proofs.object.push_above.Goals as goal

pub loop-above-preserved : goal.loop-above-preserved
loop-above-preserved c =
    let last = c.args.first + c.loop-above.above in
    let pushed : List OpId = map (op.ModifierOp c.args.o) (range_with_len c.args.first c.loop-above.above) in
    c.in_ok-push.ensures.ok ∙ ap (λ ops. ops ++ op.ModifierOp c.args.o last ∷ []) c.loop-above.invariant
    ∙ append_assoc c.args.ops.now pushed (op.ModifierOp c.args.o last ∷ [])
    ∙ ap (λ more. c.args.ops.now ++ more) (sym (map-range_with_len_more (op.ModifierOp c.args.o) c.args.first c.loop-above.above last refl))
