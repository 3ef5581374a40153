use Rattle.std.proofs.Common.{refl, ap, ◌∙◌}
use Rattle.rig_scene.specs.WellFormed.{layer_key_count}
use Rattle.rig_edits.proofs.KeyCounts.{still_counted, layer_keys_kept}
use Rattle.rig_edits.proofs.LayersKept.{hidden_kept}
use Rattle.rig_edits.proofs.layer.set_hidden.Goals as goal

pub invariant_of-scene : goal.invariant_of-scene
invariant_of-scene c =
    let at = c.in_ok-place in
    still_counted _ _ _ _ c.scene.invariant
    (hidden_kept _ c.args.scene.now c.scene.view_is c.scene.invariant.is_scene c.args.pencil.now c.args.layer.now at.place at.ensures.1
    c.hide.new.pencils c.args.on at.ensures.0 c.hide.ensures) refl
    (ap layer_key_count c.hide.ensures ∙ layer_keys_kept (λ l. record l { hidden = c.args.on }) (λ l. refl) at.place.pencil at.place.layer c.scene.inside.pencils)
