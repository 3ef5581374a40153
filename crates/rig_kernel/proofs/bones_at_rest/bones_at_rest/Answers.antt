use Rattle.std.proofs.Common.{◌+◌, [], ◌∷◌, ◌∙◌, ap, sym, subst, length, arith}
use Rattle.std.proofs.lemmas.List.{length-append}
use Rattle.rig_kernel.proofs.RestBones.{AreAtRest, next_of, below_index, at_rest_after, all_at_rest}
use Rattle.rig_kernel.proofs.bones_at_rest.bones_at_rest.Goals as goal

pub bone_after-requires : goal.bone_after-requires
bone_after-requires c =
    below_index c.args.bones.now c.requires (length c.loop-bone.at_rest) c.bone-item.result
    (next_of c.args.bones.now (length c.loop-bone.at_rest) c.loop-bone.bone-index c.bone-item.result c.loop-bone.invariant.0 c.loop-bone-test.true c.bone-item.is)

pub loop-bone-preserved : goal.loop-bone-preserved
loop-bone-preserved c =
    let next = next_of c.args.bones.now (length c.loop-bone.at_rest) c.loop-bone.bone-index c.bone-item.result c.loop-bone.invariant.0 c.loop-bone-test.true c.bone-item.is in (
      ap length c.in_ok-push.ensures.ok ∙ length-append c.loop-bone.at_rest (c.bone_after.result ∷ []) ∙ ap (λ n. n + 1) c.loop-bone.invariant.0,
      subst (AreAtRest c.args.bones.now) (sym c.in_ok-push.ensures.ok)
          (at_rest_after c.args.bones.now c.requires c.loop-bone.at_rest c.loop-bone.invariant.1 c.bone-item.result next c.bone_after.result c.bone_after.ensures.rest c.bone_after.ensures.chain),
    )

pub returns : goal.returns
returns c = all_at_rest c.args.bones.now c.loop-bone.at_rest c.loop-bone.invariant.1 (omega (arith, c.loop-bone.invariant.0, c.loop-bone-test.false, c.loop-bone.auto))
