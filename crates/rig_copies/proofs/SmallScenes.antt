-- The scenes of the tests are scenes, and so are lists that are equal to theirs.
use Rattle.std.specs.Prelude.{codes}
use Rattle.std.proofs.Common.{◌≡◌, List, [], ◌∷◌, None, refl, sym, subst}
use Rattle.rig_scene.specs.declared.action.Action.{Action}
use Rattle.rig_scene.specs.declared.armature.ArmatureData.{ArmatureData}
use Rattle.rig_scene.specs.declared.driver.Driver.{Driver}
use Rattle.rig_scene.specs.declared.object.Kind.TheVariants.{Empty}
use Rattle.rig_scene.specs.declared.object.Object.{Object}
use Rattle.rig_scene.specs.declared.pencil.PencilData.{PencilData}
use Rattle.rig_scene.specs.Scene.{SceneRecord}
use Rattle.rig_scene.specs.WellFormed.{is_scene, CountedScene}
use Rattle.rig_nodes.specs.Example.{object_of_kind}

abbrev pub root : Object
root = object_of_kind 0 (codes "Root") None Empty

abbrev pub child : Object
child = object_of_kind 1 (codes "Child") None Empty

-- a scene of objects alone
abbrev pub of_objects : List Object → SceneRecord
of_objects objects = record { actions = []; armatures = []; pencils = []; objects = objects; drivers = []; next = 2 }

pub both_counted : CountedScene (of_objects (root ∷ child ∷ [])) 0 0
unfolding is_scene
both_counted = record { is_scene = refl; counts_keys = refl; counts_layer_keys = refl }

pub child_counted : CountedScene (of_objects (child ∷ [])) 0 0
unfolding is_scene
child_counted = record { is_scene = refl; counts_keys = refl; counts_layer_keys = refl }

pub counted_as : (same : List Object) → CountedScene (of_objects same) 0 0 → (actions : List Action) (armatures : List ArmatureData) (pencils : List PencilData) (objects : List Object) (drivers : List Driver)
    → actions ≡ [] → armatures ≡ [] → pencils ≡ [] → objects ≡ same → drivers ≡ []
    → CountedScene (record { actions = actions; armatures = armatures; pencils = pencils; objects = objects; drivers = drivers; next = 2 }) 0 0
counted_as same counted actions armatures pencils objects drivers a b p o d =
    subst (λ x. CountedScene (record { actions = x; armatures = armatures; pencils = pencils; objects = objects; drivers = drivers; next = 2 }) 0 0) (sym a)
    (subst (λ x. CountedScene (record { actions = []; armatures = x; pencils = pencils; objects = objects; drivers = drivers; next = 2 }) 0 0) (sym b)
    (subst (λ x. CountedScene (record { actions = []; armatures = []; pencils = x; objects = objects; drivers = drivers; next = 2 }) 0 0) (sym p)
    (subst (λ x. CountedScene (record { actions = []; armatures = []; pencils = []; objects = x; drivers = drivers; next = 2 }) 0 0) (sym o)
    (subst (λ x. CountedScene (record { actions = []; armatures = []; pencils = []; objects = same; drivers = x; next = 2 }) 0 0) (sym d) counted))))
