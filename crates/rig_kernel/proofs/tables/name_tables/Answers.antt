use Rattle.std.proofs.Common.{◌+◌, sym, subst, take}
use Rattle.std.specs.List.{AllZip}
use Rattle.rig_scene.specs.declared.armature.ArmatureData.{ArmatureData}
use Rattle.rig_kernel.specs.Tables.{AreNamesOf}
use Rattle.rig_kernel.proofs.TableRows.{one_more}
use Rattle.rig_kernel.proofs.tables.name_tables.Goals as goal

pub loop-armature-preserved : goal.loop-armature-preserved
loop-armature-preserved c =
    subst (λ ts. AllZip (λ t (a : ArmatureData). AreNamesOf t a.bones) ts (take (c.loop-armature.armature-index + 1) c.args.armatures.now)) (sym c.in_ok-push.ensures.ok)
    (one_more (λ t (a : ArmatureData). AreNamesOf t a.bones) c.loop-armature.tables c.args.armatures.now c.loop-armature.armature-index c.in_ok-bone_names.field-0 c.armature-item.result
    c.loop-armature.invariant c.loop-armature-test.true c.armature-item.is
    (subst (λ bones. AreNamesOf c.in_ok-bone_names.field-0 bones) c.as_slice.ensures c.in_ok-bone_names.ensures))
