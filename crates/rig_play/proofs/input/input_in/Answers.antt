use Rattle.std.proofs.Common.{◌≡◌, ◌<◌, true, subst, ap, sym, ◌∙◌}
use Rattle.serde_json.specs.View.{view}
use Rattle.rig_scene.specs.WellFormed.{is_scene}
use Rattle.rig_edits.specs.declared.change.TheConstants.{MAX_NEXT}
use Rattle.rig_scenejson.specs.Reading.{scene_of_input}
use Rattle.rig_play.proofs.Playable.{next_few, few_steps}
use Rattle.rig_play.proofs.input.input_in.Goals as goal

pub invariant_of-result : goal.invariant_of-result
invariant_of-result c =
    let d = view c.args.value.now in
    let scene = c.in_ok-scene.ensures in
    let script = c.in_ok-script.ensures in
    let holds : is_scene c.in_ok-scene.scene ≡ true = subst (λ s. is_scene s ≡ true) c.scene.view_is c.scene.invariant.is_scene in
    let given : is_scene (scene_of_input d) ≡ true = ap is_scene (sym scene.0) ∙ holds in
    record {
      scene_is_plain = sym c.if-not-is_plain_scene.ensures;
      script_is_plain = sym c.if-not-is_plain_script.ensures;
      next = subst (λ s. s.next < MAX_NEXT) (sym scene.0) (next_few d given);
      steps = rw script.0 (few_steps d script.1);
    }
