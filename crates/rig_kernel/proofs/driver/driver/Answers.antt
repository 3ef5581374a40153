use Rattle.std.proofs.Common.{Some, IsTrue, ap, sym, subst, ◌∙◌}
use Rattle.std.specs.Prelude.{slice_get}
use Rattle.rig_scene.specs.Scene.{SceneRecord}
use Rattle.rig_scene.specs.Value.{Number}
use Rattle.rig_scene.specs.WellFormed.{is_scene}
use Rattle.rig_kernel.proofs.FoundDrivers.{facts_at, links_at, driver_gives, has_index}
use Rattle.rig_kernel.proofs.driver.driver.Goals as goal

pub driver_number-requires-clause-driver : goal.driver_number-requires-clause-driver
driver_number-requires-clause-driver g c =
    let met = subst (λ s. IsTrue (is_scene s)) c.scene.view_is c.scene.invariant.is_scene in
    let here = ap (λ (s : SceneRecord). slice_get s.drivers c.in-Some.index) (sym c.scene.view_is) ∙ c.get.ensures in
    facts_at c.args.scene.now met c.args.tables.now c.requires.tables c.args.op.now c.in-Some.index c.get.result.now here

pub driver_number-requires-clause-inputs : goal.driver_number-requires-clause-inputs
driver_number-requires-clause-inputs g c =
    let met = subst (λ s. IsTrue (is_scene s)) c.scene.view_is c.scene.invariant.is_scene in
    let here = ap (λ (s : SceneRecord). slice_get s.drivers c.in-Some.index) (sym c.scene.view_is) ∙ c.get.ensures in
    c.requires.inputs ∙ links_at c.args.scene.now met c.args.tables.now c.requires.tables c.args.op.now c.in-Some.index c.in-Some.ensures.some c.get.result.now here

pub returns-in-Some : goal.returns-in-Some
returns-in-Some g c = λ mode frame id path e.
    let met = subst (λ s. IsTrue (is_scene s)) c.scene.view_is c.scene.invariant.is_scene in
    let here = ap (λ (s : SceneRecord). slice_get s.drivers c.in-Some.index) (sym c.scene.view_is) ∙ c.get.ensures in
    driver_gives c.args.scene.now met c.args.tables.now c.requires.tables c.args.op.now c.in-Some.index c.in-Some.ensures.some c.get.result.now here mode frame (g.I.Inputs.list c.args.inputs.now)
    ∙ ap (λ n. Some (Number n)) (sym c.driver_number.ensures)

pub returns-in-None : goal.returns-in-None
returns-in-None g c = λ mode frame id path e.
    let met = subst (λ s. IsTrue (is_scene s)) c.scene.view_is c.scene.invariant.is_scene in
    absurd (c.in-None.ensures.none (has_index c.args.scene.now met c.args.tables.now c.requires.tables c.args.op.now c.requires.op id path e))
