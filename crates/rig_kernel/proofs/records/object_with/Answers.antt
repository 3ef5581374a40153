use Rattle.std.proofs.Common.{sym, ap, ◌∙◌}
use Rattle.std.specs.Option.{option_copied}
use Rattle.rig_scene.specs.Rising.{got}
use Rattle.rig_kernel.proofs.Ids.{object_at, read_found}
use Rattle.rig_kernel.proofs.records.object_with.Goals as goal

pub returns-in-Some : goal.returns-in-Some
returns-in-Some c =
    object_at c.args.objects.now c.requires.rise c.args.id c.args.id.0 c.in-Some.object.now
    (sym (got c.args.objects.now c.args.id.0 c.get.result c.get.ensures.lookup.0 c.get.ensures.lookup.1) ∙ ap option_copied c.in-Some.is) c.if-object-id.true

pub returns-in_default : goal.returns-in_default
returns-in_default c = read_found c.args.objects.now c.index_of.result c.index-objects-index_of.result _ c.requires.there c.index_of.ensures c.index-objects-index_of.is
