use Rattle.std.proofs.Common.{◌∙◌}
use Rattle.rig_names.proofs.Texts.{any_text}
use Rattle.rig_names.proofs.names.Names.contains.Goals as goal

pub returns : goal.returns
returns c = c.contains.ensures ∙ any_text c.args.text.now c.self.inside.texts.keys c.args.self.now c.self.view_is
