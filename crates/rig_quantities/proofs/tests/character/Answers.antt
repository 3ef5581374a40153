use Rattle.std.proofs.Common.{◌≡◌, refl, sym, subst}
use Rattle.rig_scene.specs.WellFormed.{CountedScene, is_scene}
use Rattle.rig_quantities.specs.Example.{character}
use Rattle.rig_quantities.proofs.tests.character.Goals as goal

counted : CountedScene character 0 0
unfolding is_scene
counted = record { is_scene = refl; counts_keys = refl; counts_layer_keys = refl }

pub invariant_of-result : goal.invariant_of-result
invariant_of-result c =
    let e : record {
      actions = c.new.result;
      armatures = c.in_ok-arms.field-0;
      pencils = c.in_ok-sketches.field-0;
      objects = c.in_ok-objects.field-0;
      drivers = c.in_ok-drivers.field-0;
      next = 4;
    } ≡ character =
    rw (c.new.ensures, c.in_ok-arms.ensures, c.in_ok-sketches.ensures, c.in_ok-objects.ensures, c.in_ok-drivers.ensures) refl in
    subst (λ s. CountedScene s 0 0) (sym e) counted
