use Rattle.std.proofs.Common.{Some, subst}
use Rattle.indexmap.specs.IndexMap.{Updates}
use Rattle.rig_scene.specs.Text.{same_text}
use Rattle.rig_kernel.proofs.action_curves.set.Goals as goal

pub returns-in_ok-insert : goal.returns-in_ok-insert
returns-in_ok-insert g c =
    subst (λ n. Updates same_text c.args.values.now c.insert.new.self n (Some c.args.value)) c.in_ok-copy.ensures
    (subst (λ m. Updates same_text m c.insert.new.self c.in_ok-copy.field-0 (Some c.args.value)) c.get_mut.follows.holds-at-none c.in_ok-insert.ensures.updates)
