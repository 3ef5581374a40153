use Rattle.rig_names.proofs.Texts.{insertion_of_text}
use Rattle.rig_names.proofs.names.Names.add.Goals as goal

pub returns-clause-ok : goal.returns-clause-ok
returns-clause-ok c = insertion_of_text c.in_ok-added.added c.self.inside.texts.keys c.insert_full.new.self.keys c.in_ok-from_str.field-0 c.args.text.now c.args.self.now c.self.view_is c.in_ok-from_str.ensures.ok c.in_ok-added.ensures.added c.in_ok-added.ensures.keys
