use Rattle.std.proofs.Common.{rules}
use Rattle.std.proofs.lemmas.Iterator.{YieldsList-from_slice}
use Rattle.std.proofs.lemmas.Iterator.Consumers.{count_from_yields_List, YieldsList-from_filter}
use Rattle.rig_scene.specs.declared.object.Object.{Object}
use Rattle.rig_scene.specs.WellFormed.{is_pencil_kind}
use Rattle.rig_edits.proofs.object.pencil_object_count.Goals as goal

pub returns : goal.returns
returns c =
    count_from_yields_List c.filter.result _ c.count.ensures.ran
    (YieldsList-from_filter _ (λ (o : Object). is_pencil_kind o.kind) (YieldsList-from_slice c.args.objects.now (cc)) c.filter.ensures.closure
    (λ x b q k. search rules))
