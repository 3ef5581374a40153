use Rattle.std.proofs.Common.{map, sym, ◌∙◌}
use Rattle.rig_scene.specs.declared.id.AnimId.TheVariants as anim
use Rattle.rig_scene.specs.declared.path.Path.TheVariants as path
use Rattle.rig_scene.specs.Channel.{axes}
use Rattle.rig_links.proofs.Drivers.{nothing_pushed}
use Rattle.rig_links.proofs.driven.push_offsets.Goals as goal

pub returns-then-is_empty : goal.returns-then-is_empty
returns-then-is_empty c =
    nothing_pushed c.args.scene.now c.args.reader (anim.Pencil c.args.pencil) c.args.row.now c.requires (sym c.is_empty.ensures ∙ c.if-is_empty.true) (map (path.Layer c.args.layer.now) axes) c.args.links.now.items
