use Rattle.std.proofs.Common.{ap, sym, Some, List, ◌∙◌}
use Rattle.std.specs.List.{find}
use Rattle.std.specs.Prelude.{option_map}
use Rattle.std.specs.Option.{option_copied}
use Rattle.rig_scene.specs.declared.path.Path.{Path}
use Rattle.rig_scene.specs.declared.pencil.Layer.{Layer}
use Rattle.rig_scene.specs.Channel.{coordinate_of}
use Rattle.rig_scene.specs.Text.{same_text}
use Rattle.rig_kernel.specs.VariableBy.{pencil_number}
use Rattle.rig_kernel.proofs.driver.pencil_number.Goals as goal

pub returns-in-Some : goal.returns-in-Some
returns-in-Some c =
    ap Some c.coordinate_of.ensures
    ∙ ap (option_map (λ (layer : Layer). coordinate_of layer.offset c.in-Layer.axis))
    (sym (ap option_copied c.in-Some.is) ∙ c.layer_named.ensures ∙ ap (λ (layers : List Layer). find (λ l. same_text l.name c.in-Layer.name) layers) c.as_slice.ensures)
    ∙ ap (λ (path : Path). pencil_number c.args.pencil.now path) (sym c.in-Layer.is)
