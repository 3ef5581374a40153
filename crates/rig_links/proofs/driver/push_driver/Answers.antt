use Rattle.std.proofs.Common.{ap, sym, ◌∙◌}
use Rattle.std.specs.List.{flat_map}
use Rattle.rig_scene.specs.declared.operation.OpId.TheVariants.{Driver}
use Rattle.rig_links.specs.Numbers.{number_of}
use Rattle.rig_links.specs.Parts.{of_variable}
use Rattle.rig_links.proofs.LinksOf.{driver_links}
use Rattle.rig_links.proofs.Pushed.{one_pushed}
use Rattle.rig_links.proofs.driver.push_driver.Goals as goal

pub returns : goal.returns
returns c =
    let s = c.args.scene.now in
    let d = c.args.driver.now in
    one_pushed c.push_variables.result _ _ _ _
    (ap (flat_map (of_variable s c.number-reader.result)) c.as_slice.ensures
    ∙ ap (λ n. flat_map (of_variable s n) d.variables) (c.number-reader.ensures ∙ ap (λ p. number_of s (Driver d.id p)) c.in_ok-copy.ensures)
    ∙ sym (driver_links s d c.requires))
    c.push_variables.ensures
