use Rattle.std.proofs.Common.{ap, sym, ◌∙◌, arith, length, refl}
use Rattle.std.proofs.lemmas.Option.{slice_get_read}
use Rattle.std.specs.Prelude.{slice_get}
use Rattle.rig_scene.specs.FactsHold.{scene_facts}
use Rattle.rig_quantities.proofs.SlotFacts.{few_layers}
use Rattle.rig_quantities.proofs.quantity.add_pencils.Goals as goal

pub overflow_cast-index : goal.overflow_cast-index
overflow_cast-index c =
    let pencils = (scene_facts _ c.scene.invariant.is_scene).pencils.count in
    let same = ap length c.as_slice-pencil-items.ensures in
    omega arith

pub add_pencil-requires-clause-layers : goal.add_pencil-requires-clause-layers
add_pencil-requires-clause-layers c =
    let pencils = c.as_slice-pencil-items.result.now in
    few_layers _ (scene_facts _ c.scene.invariant.is_scene) c.loop-index.index c.pencil-item.result
    (ap (λ pencils. slice_get pencils c.loop-index.index) (sym c.as_slice-pencil-items.ensures)
    ∙ slice_get_read pencils (length pencils) c.loop-index.index c.pencil-item.result refl c.loop-index-test.true c.pencil-item.is)
