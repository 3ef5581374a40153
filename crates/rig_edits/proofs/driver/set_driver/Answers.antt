use Rattle.std.proofs.Common.{refl, ap, sym, ◌∙◌}
use Rattle.rig_scene.specs.declared.driver.Driver.{Driver}
use Rattle.rig_scene.specs.Scene.{SceneRecord}
use Rattle.rig_edits.specs.DriverPlaces.{put_at}
use Rattle.rig_edits.specs.Edited.{new_driver}
use Rattle.rig_edits.proofs.KeyCounts.{still_counted}
use Rattle.rig_edits.proofs.DriverSet.{driver_set_kept, driver_put}
use Rattle.rig_edits.proofs.driver.set_driver.Goals as goal

pub invariant_of-scene-2 : goal.invariant_of-scene-2
invariant_of-scene-2 c =
    rw (c.in_ok-put_driver.ensures.ok, c.in_ok-driver.ensures)
    (still_counted _ _ _ _ c.scene.invariant
    (driver_set_kept _ c.args.scene.now c.scene.view_is c.scene.invariant.is_scene c.args.id.now c.args.path.now c.args.driver.now c.new_place.ensures.few
    c.in_ok-place.place c.in_ok-place.ensures.place) refl refl)

pub returns : goal.returns
returns c = (
  c.in_ok-place.ensures.place.0,
  ap (λ (s : SceneRecord). record s { drivers = c.put_driver.new.drivers }) c.scene.view_is
      ∙ ap (λ ds. record c.args.scene.now { drivers = ds })
      (c.in_ok-put_driver.ensures.ok ∙ ap (λ (d : Driver). put_at c.in_ok-place.place.index d c.scene.inside.drivers) c.in_ok-driver.ensures
      ∙ ap (λ (s : SceneRecord). put_at c.in_ok-place.place.index
      (new_driver c.args.scene.now c.in_ok-place.place.id c.args.path.now c.args.driver.now) s.drivers)
      c.scene.view_is)
      ∙ sym (driver_put c.args.scene.now c.args.id.now c.args.path.now c.args.driver.now c.in_ok-place.place c.in_ok-place.ensures.place.1),
)
