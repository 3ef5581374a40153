use Rattle.std.proofs.Common.{◌++◌, ◌∷◌, [], ap, sym, ◌∙◌, map, arith}
use Rattle.std.specs.List.{range_with_len}
use Rattle.std.proofs.lemmas.List.{append_assoc}
use Rattle.std.proofs.lemmas.List.FromFn.{map-range_with_len_more}
use Rattle.rig_scene.specs.declared.operation.OpId.TheVariants.{Bone}
use Rattle.rig_flush.proofs.shown.push_bones.Goals as goal

pub loop-bone-preserved : goal.loop-bone-preserved
loop-bone-preserved c =
    let so_far = map (Bone c.args.id) (range_with_len 0 c.loop-bone.bone) in
    c.in_ok-push.ensures.items
    ∙ ap (λ l. l ++ Bone c.args.id c.loop-bone.bone ∷ []) c.loop-bone.invariant
    ∙ append_assoc c.args.ops.now.items so_far (Bone c.args.id c.loop-bone.bone ∷ [])
    ∙ ap (λ l. c.args.ops.now.items ++ l) (sym (map-range_with_len_more (Bone c.args.id) 0 c.loop-bone.bone c.loop-bone.bone (omega arith)))
