-- The scenes of the tests are scenes, and so are lists that are equal to theirs.
use Rattle.std.proofs.Common.{◌≡◌, List, refl, sym, subst}
use Rattle.rig_scene.specs.declared.action.Action.{Action}
use Rattle.rig_scene.specs.declared.armature.ArmatureData.{ArmatureData}
use Rattle.rig_scene.specs.declared.driver.Driver.{Driver}
use Rattle.rig_scene.specs.declared.object.Object.{Object}
use Rattle.rig_scene.specs.declared.pencil.PencilData.{PencilData}
use Rattle.rig_scene.specs.Scene.{SceneRecord}
use Rattle.rig_scene.specs.WellFormed.{is_scene, CountedScene}
use Rattle.rig_nodes.specs.Example.{two_empties, inked_rig}

pub two_empties_counted : CountedScene two_empties 0 0
unfolding is_scene
two_empties_counted = record { is_scene = refl; counts_keys = refl; counts_layer_keys = refl }

pub inked_rig_counted : CountedScene inked_rig 0 0
unfolding is_scene
inked_rig_counted = record { is_scene = refl; counts_keys = refl; counts_layer_keys = refl }

module _ (s : SceneRecord) (counted : CountedScene s 0 0) where
  pub counted_as : (actions : List Action) (armatures : List ArmatureData) (pencils : List PencilData) (objects : List Object) (drivers : List Driver)
      → actions ≡ s.actions → armatures ≡ s.armatures → pencils ≡ s.pencils → objects ≡ s.objects → drivers ≡ s.drivers
      → CountedScene (record { actions = actions; armatures = armatures; pencils = pencils; objects = objects; drivers = drivers; next = s.next }) 0 0
  counted_as actions armatures pencils objects drivers a b p o d =
      subst (λ x. CountedScene (record { actions = x; armatures = armatures; pencils = pencils; objects = objects; drivers = drivers; next = s.next }) 0 0) (sym a)
      (subst (λ x. CountedScene (record { actions = s.actions; armatures = x; pencils = pencils; objects = objects; drivers = drivers; next = s.next }) 0 0) (sym b)
      (subst (λ x. CountedScene (record { actions = s.actions; armatures = s.armatures; pencils = x; objects = objects; drivers = drivers; next = s.next }) 0 0) (sym p)
      (subst (λ x. CountedScene (record { actions = s.actions; armatures = s.armatures; pencils = s.pencils; objects = x; drivers = drivers; next = s.next }) 0 0) (sym o)
      (subst (λ x. CountedScene (record { actions = s.actions; armatures = s.armatures; pencils = s.pencils; objects = s.objects; drivers = x; next = s.next }) 0 0) (sym d) counted))))
