use Rattle.std.proofs.Common.{ap, subst, sym, ◌∙◌, ◌++◌, ◌<◌, length}
use Rattle.std.proofs.lemmas.Result.{on_ok_weaker}
use Rattle.std.specs.List.{All}
use Rattle.rig_scene.specs.Facts.{SceneFacts}
use Rattle.rig_scene.specs.FactsHold.{scene_facts}
use Rattle.rig_scene.specs.Scene.{SceneRecord}
use Rattle.rig_quantities.proofs.SlotFacts.{row_below, chans_of_row}
use Rattle.rig_quantities.specs.Slots.{chans_at}
use Rattle.rig_quantities.proofs.quantity.add_chans.Goals as goal

pub add_chans_at-requires : goal.add_chans_at-requires
add_chans_at-requires c =
    let drivers = c.as_slice.ensures ∙ ap (λ (s : SceneRecord). s.drivers) c.scene.view_is in
    subst (λ drivers. All (λ i. i < length drivers) c.get.result.now) (sym drivers)
    (row_below c.args.scene.now c.args.rows.now c.args.number c.get.result.now c.requires.rows c.requires.slot c.get.ensures)

pub returns : goal.returns
returns c id is same =
    let facts = subst SceneFacts c.scene.view_is (scene_facts _ c.scene.invariant.is_scene) in
    let drivers = c.as_slice.ensures ∙ ap (λ (s : SceneRecord). s.drivers) c.scene.view_is in
    let chans = chans_of_row c.args.scene.now facts c.args.rows.now c.args.number c.get.result.now c.requires.rows c.requires.slot c.get.ensures id is same in
    on_ok_weaker c.add_chans_at.result
    (λ e. e ∙ ap (λ chans. c.args.items.now.items ++ chans) (ap (λ drivers. chans_at drivers c.get.result.now) drivers ∙ chans))
    c.add_chans_at.ensures
