use Rattle.std.proofs.Common.{◌∙◌, ℕ, Option, ap, option_and_then}
use Rattle.std.specs.List.{position}
use Rattle.rig_scene.specs.declared.pencil.PencilData.{PencilData}
use Rattle.rig_scene.specs.Text.{same_text}
use Rattle.rig_touch.proofs.find.layer_index.Goals as goal

pub returns : goal.returns
returns c =
    let at : PencilData → Option ℕ = λ pencil. position (λ l. same_text l.name c.args.name.now) pencil.layers in
    c.position_named.ensures.named ∙ ap (position (λ l. same_text l.name c.args.name.now)) c.as_slice.ensures ∙ ap (option_and_then at) c.in_ok-pencil.ensures.pencil
