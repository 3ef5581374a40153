use Rattle.std.specs.Prelude.{Contains}
use Rattle.std.specs.List.{All}
use Rattle.std.proofs.Common.{ap, ◌∙◌, subst}
use Rattle.rig_graph.specs.State.{GraphRecord}
use Rattle.rig_scene.specs.Operations.{operations}
use Rattle.rig_graph.proofs.graph.Graph.tags.Goals as goal

pub returns-clause-there : goal.returns-clause-there
returns-clause-there c =
    subst (λ ops. All (Contains ops) c.self.inside.tags) (c.self.invariant.0.copy.tables.same ∙ ap (λ (r : GraphRecord). operations r.copy) c.self.view_is) c.self.invariant.0.there
