-- The operations of a scene's drivers: few, and none stands twice.
use Rattle.std.proofs.Common.{◌≡◌, ◌≢◌, ◌<◌, ◌^◌, length, map, arith}
use Rattle.std.proofs.lemmas.List.{length-map}
use Rattle.rig_scene.specs.declared.driver.Driver.{Driver as DriverRecord}
use Rattle.rig_scene.specs.declared.id.AnimId.{AnimId}
use Rattle.rig_scene.specs.declared.operation.OpId.{OpId}
use Rattle.rig_scene.specs.declared.operation.OpId.TheVariants.{Driver}
use Rattle.rig_scene.specs.declared.path.Path.{Path}
use Rattle.rig_scene.specs.Facts.{SceneFacts}
use Rattle.rig_scene.specs.Pairs.{NoneTwice, AllPairs-map, AllPairs-weaker}
use Rattle.rig_scene.specs.Scene.{SceneRecord}

abbrev op_of : DriverRecord → OpId
op_of d = Driver d.id d.path

same_target : (i j : AnimId) (p q : Path) → Driver i p ≡ Driver j q → (i ≡ j) × (p ≡ q)
same_target i j p q e = (cc, cc)

module _ (s : SceneRecord) (facts : SceneFacts s) where
  pub driver_ops_once : NoneTwice (map op_of s.drivers)
  driver_ops_once =
      AllPairs-map (λ x y. x ≢ y) op_of s.drivers
      (AllPairs-weaker (λ (d e : DriverRecord). ¬ ((d.id ≡ e.id) × (d.path ≡ e.path))) (λ (d e : DriverRecord). op_of d ≢ op_of e)
      (λ d e differ same. differ (same_target d.id e.id d.path e.path same)) s.drivers facts.drivers.targets_distinct)

  pub driver_ops_few : length (map op_of s.drivers) < 2 ^ 32
  driver_ops_few = let few = facts.drivers.count in omega (arith, length-map s.drivers op_of)
