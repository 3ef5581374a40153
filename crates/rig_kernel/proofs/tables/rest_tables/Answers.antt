use Rattle.std.proofs.Common.{◌+◌, sym, subst, take, List}
use Rattle.std.specs.List.{AllZip}
use Rattle.rig_scene.specs.declared.armature.ArmatureData.{ArmatureData}
use Rattle.rig_kernel.specs.declared.bones_at_rest.BoneAtRest.{BoneAtRest}
use Rattle.rig_kernel.specs.Tables.{AreBonesOf}
use Rattle.rig_kernel.proofs.TableRows.{one_more}
use Rattle.rig_kernel.proofs.tables.rest_tables.Goals as goal

abbrev Rows : List BoneAtRest → ArmatureData → Type 0
Rows t a = AreBonesOf t a.bones

pub loop-armature-preserved : goal.loop-armature-preserved
loop-armature-preserved c =
    subst (λ ts. AllZip Rows ts (take (c.loop-armature.armature-index + 1) c.args.armatures.now)) (sym c.in_ok-push.ensures.ok)
    (one_more Rows c.loop-armature.tables c.args.armatures.now c.loop-armature.armature-index c.in_ok-bones_at_rest.field-0 c.armature-item.result
    c.loop-armature.invariant c.loop-armature-test.true c.armature-item.is
    (subst (λ bones. AreBonesOf c.in_ok-bones_at_rest.field-0 bones) c.as_slice.ensures c.in_ok-bones_at_rest.ensures))
