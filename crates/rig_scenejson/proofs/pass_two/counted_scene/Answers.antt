use Rattle.std.proofs.Common.{List, ◌≤◌, sym, subst}
use Rattle.rig_scene.specs.declared.action.Action.{Action}
use Rattle.rig_scene.specs.declared.pencil.PencilData.{PencilData}
use Rattle.rig_scene.specs.declared.limits.TheConstants.{MAX_KEYS, MAX_LAYER_KEYS}
use Rattle.rig_scene.specs.FactsHold.{scene_facts}
use Rattle.rig_scene.specs.WellFormed.{key_count, layer_key_count}
use Rattle.rig_scenejson.proofs.pass_two.counted_scene.Goals as goal

pub key_count-requires : goal.key_count-requires
key_count-requires c =
    subst (λ (actions : List Action). key_count actions ≤ MAX_KEYS) (sym c.as_slice.ensures) (scene_facts _ c.requires).actions.keys

pub layer_key_count-requires : goal.layer_key_count-requires
layer_key_count-requires c =
    subst (λ (pencils : List PencilData). layer_key_count pencils ≤ MAX_LAYER_KEYS) (sym c.as_slice-2.ensures)
    (scene_facts _ c.requires).pencils.layer_keys
