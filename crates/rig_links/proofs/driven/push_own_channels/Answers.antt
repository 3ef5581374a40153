use Rattle.std.proofs.Common.{map, sym, ◌∙◌}
use Rattle.rig_scene.specs.declared.id.AnimId.TheVariants as anim
use Rattle.rig_scene.specs.declared.path.Path.TheVariants as path
use Rattle.rig_scene.specs.Channel.{channels}
use Rattle.rig_links.proofs.Drivers.{nothing_pushed}
use Rattle.rig_links.proofs.driven.push_own_channels.Goals as goal

pub returns-then-is_empty : goal.returns-then-is_empty
returns-then-is_empty c =
    nothing_pushed c.args.scene.now c.args.reader (anim.Object c.args.object) c.args.row.now c.requires (sym c.is_empty.ensures ∙ c.if-is_empty.true) (map path.Own channels) c.args.links.now.items
