use Rattle.std.proofs.Common.{Some, sym, ap, ◌∙◌}
use Rattle.rig_scene.specs.Value.{Numbers}
use Rattle.rig_kernel.proofs.Timed.{pose_done_is}
use Rattle.rig_kernel.proofs.run.pose_done.Goals as goal

pub returns : goal.returns
returns c = λ mode frame inputs. pose_done_is c.args.scene.now c.conditions.ensures mode frame c.args.o inputs c.requires ∙ ap (λ numbers. Some (Numbers numbers)) (sym c.new.ensures)
