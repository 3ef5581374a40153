use Rattle.std.proofs.Common.{◌≡◌, refl, sym, subst}
use Rattle.rig_scene.specs.WellFormed.{CountedScene, is_scene}
use Rattle.rig_quantities.specs.Example.{two_empties}
use Rattle.rig_quantities.proofs.tests.two_empties.Goals as goal

counted : CountedScene two_empties 0 0
unfolding is_scene
counted = record { is_scene = refl; counts_keys = refl; counts_layer_keys = refl }

pub invariant_of-result : goal.invariant_of-result
invariant_of-result c =
    let e : record { actions = c.new.result; armatures = c.new-2.result; pencils = c.new-3.result; objects = c.in_ok-empties.field-0; drivers = c.new-4.result; next = 2 } ≡ two_empties =
    rw (c.new.ensures, c.new-2.ensures, c.new-3.ensures, c.in_ok-empties.ensures, c.new-4.ensures) refl in
    subst (λ s. CountedScene s 0 0) (sym e) counted
