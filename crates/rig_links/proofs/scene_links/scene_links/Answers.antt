use Rattle.std.proofs.Common.{ap, ◌∙◌}
use Rattle.rig_links.specs.Numbers.{all_links}
use Rattle.rig_links.proofs.InOrder.{all_in_order}
use Rattle.rig_links.proofs.scene_links.scene_links.Goals as goal

pub returns-clause-links : goal.returns-clause-links
returns-clause-links c =
    all_in_order c.new-numbered.result c.in_ok-links.links.items c.push_pencils.new.links.items c.push_objects.new.links.items c.in_ok-links.ensures.items c.in_ok-push_pencils.ensures c.in_ok-push_objects.ensures
    ∙ ap all_links c.new-numbered.ensures.scene
