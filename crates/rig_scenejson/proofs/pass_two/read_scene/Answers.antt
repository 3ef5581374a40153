use Rattle.std.proofs.Common.{arith, ◌∙◌}
use Rattle.serde_json.specs.View.{view}
use Rattle.rig_scenejson.proofs.ObjectCount.{object_count, object_index}
use Rattle.rig_scenejson.proofs.WholeScene.{whole_scene}
use Rattle.rig_scenejson.proofs.pass_two.read_scene.Goals as goal

pub read_list-requires-3 : goal.read_list-requires-3
read_list-requires-3 c = object_index (view c.args.value.now) c.requires.tested

pub overflow_cast-next : goal.overflow_cast-next
overflow_cast-next c = let few = object_count (view c.args.value.now) c.requires.tested in omega arith

pub counted_scene-requires : goal.counted_scene-requires
counted_scene-requires c =
    whole_scene (view c.args.value.now) c.new-lookup.result _ _ _ _ _ _
    c.in_ok-actions.ensures c.in_ok-armatures.ensures.0 c.in_ok-pencils.ensures.0 c.in_ok-objects.ensures.0 c.in_ok-drivers.ensures.0 c.item_count-next.ensures
    (c.new-lookup.ensures ∙ c.requires.catalog) c.requires.tested
    c.in_ok-armatures.ensures.1 c.in_ok-pencils.ensures.1 c.in_ok-objects.ensures.1 c.in_ok-drivers.ensures.1
