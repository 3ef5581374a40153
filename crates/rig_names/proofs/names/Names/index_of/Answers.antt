use Rattle.std.proofs.Common.{◌∙◌, sym}
use Rattle.rig_names.proofs.Texts.{index_of_text}
use Rattle.rig_names.proofs.names.Names.index_of.Goals as goal

pub returns-in_err-index : goal.returns-in_err-index
returns-in_err-index c = c.from_residual.ensures ∙ sym c.in_err-index.was ∙ c.get_index_of.ensures.index ∙ index_of_text c.args.text.now c.self.inside.texts.keys c.args.self.now c.self.view_is

pub returns : goal.returns
returns c = sym c.in_ok-index.was ∙ c.get_index_of.ensures.index ∙ index_of_text c.args.text.now c.self.inside.texts.keys c.args.self.now c.self.view_is
