use Rattle.std.proofs.Common.{sym, subst}
use Rattle.rig_scene.specs.Pairs.{NoneTwice}
use Rattle.rig_nodes.proofs.Numbers.{once}
use Rattle.rig_nodes.proofs.table.NodeTable.ops.Goals as goal

pub returns-clause-once : goal.returns-clause-once
returns-clause-once c = subst (λ ops. NoneTwice ops) (sym c.as_slice.ensures.keys) (once c.self.inside.ops.keys c.as_slice.ensures.unique)
