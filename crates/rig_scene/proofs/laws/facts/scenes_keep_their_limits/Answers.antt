use Rattle.std.proofs.lemmas.List.Elements.{All-contains}
use Rattle.rig_scene.specs.Facts.{ArmatureFacts}
use Rattle.rig_scene.specs.FactsHold.{above_limit}
use Rattle.rig_scene.specs.Found.{Contains-slice_get}
use Rattle.rig_scene.proofs.laws.facts.scenes_keep_their_limits.Goals as goal

pub returns : goal.returns
returns c = record {
  actions = λ s above. above_limit s _ _ (λ f. f.actions.count) above;
  curves = λ s above. above_limit s _ _ (λ f. f.actions.curves) above;
  keys = λ s above. above_limit s _ _ (λ f. f.actions.keys) above;
  armatures = λ s above. above_limit s _ _ (λ f. f.armatures.count) above;
  bones = λ s i a is above. above_limit s _ _ (λ f. (All-contains ArmatureFacts s.armatures a f.armatures.each (Contains-slice_get s.armatures i a is)).count) above;
  pencils = λ s above. above_limit s _ _ (λ f. f.pencils.count) above;
  drawings = λ s above. above_limit s _ _ (λ f. f.pencils.drawings) above;
  points = λ s above. above_limit s _ _ (λ f. f.pencils.points) above;
  layer_keys = λ s above. above_limit s _ _ (λ f. f.pencils.layer_keys) above;
  objects = λ s above. above_limit s _ _ (λ f. f.objects.count) above;
  pencil_objects = λ s above. above_limit s _ _ (λ f. f.objects.pencil_objects) above;
  pose_bones = λ s above. above_limit s _ _ (λ f. f.objects.pose_bones) above;
  drivers = λ s above. above_limit s _ _ (λ f. f.drivers.count) above;
}
