use Rattle.std.proofs.Common.{take}
use Rattle.std.specs.List.{AllZip}
use Rattle.rig_kernel.specs.Tables.{AreNamesOf}
use Rattle.rig_kernel.proofs.tables.name_tables.Given as goal

abbrev pub invariant-loop-armature : goal.invariant-loop-armature
invariant-loop-armature l = AllZip (λ t a. AreNamesOf t a.bones) l.tables (take l.armature-index l.armatures)
