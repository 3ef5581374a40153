use Rattle.std.proofs.Common.{arith, ap, subst, ◌∙◌, length}
use Rattle.rig_links.specs.Tables.{ArePlaces}
use Rattle.rig_links.proofs.InPlace.{all_below, all_placed, put_back}
use Rattle.rig_links.proofs.places.places_in.Goals as goal

pub write_places-requires-clause-below : goal.write_places-requires-clause-below
write_places-requires-clause-below c = all_below c.args.order.now _ (ap length c.as_mut_slice.ensures.value ∙ c.in_ok-places.ensures) c.requires.same

pub returns : goal.returns
returns c =
    let long = c.write_places.ensures.len ∙ ap length c.as_mut_slice.ensures.value ∙ c.in_ok-places.ensures in
    let placed : ArePlaces c.args.order.now c.write_places.new.places = all_placed c.args.order.now c.write_places.new.places long c.requires.same c.write_places.ensures.each in
    subst (ArePlaces c.args.order.now) (put_back c.write_places.new.places c.in_ok-places.places.items c.in_ok-places.places.len (c.write_places.ensures.len ∙ ap length c.as_mut_slice.ensures.value) (omega (arith, c.in_ok-places.places.ok))) placed
