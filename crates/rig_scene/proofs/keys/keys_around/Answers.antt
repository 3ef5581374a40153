use Rattle.std.proofs.Common.{◌∙◌, sym, ap, take, None, w32}
use Rattle.std.proofs.lemmas.Int.{to_z-of_z}
use Rattle.std.specs.List.{last_or}
use Rattle.rig_scene.specs.Keys.{key_up_to, key_after}
use Rattle.rig_scene.specs.Rising.{last_or-at_last, got}
use Rattle.rig_scene.proofs.keys.keys_around.Goals as goal

pub returns-clause-before : goal.returns-clause-before
returns-clause-before g c =
    c.last.ensures.value
    ∙ sym (last_or-at_last (take c.index_after-next.result c.args.keys.now))
    ∙ ap (last_or None) (sym c.index_after-next.ensures.before)
    ∙ ap (λ frame. key_up_to g.K.Keyframe.frame frame c.args.keys.now) (to_z-of_z w32 c.args.frame c.ranges.frame)

pub returns-clause-after : goal.returns-clause-after
returns-clause-after g c =
    got c.args.keys.now c.index_after-next.result c.get.result c.get.ensures.lookup.0 c.get.ensures.lookup.1
    ∙ sym c.index_after-next.ensures.after
    ∙ ap (λ frame. key_after g.K.Keyframe.frame frame c.args.keys.now) (to_z-of_z w32 c.args.frame c.ranges.frame)
