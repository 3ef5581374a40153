-- By the lemmas on a run in order, on marks in order, and on the numbers that are reached.
use Rattle.rig_flush.specs.Begun.{unrun_is_kept}
use Rattle.rig_flush.specs.Evaluation.{Needs}
use Rattle.rig_flush.specs.Graph.{tagged_at}
use Rattle.rig_flush.specs.InOrder.{tables_once, in_order_is_evaluation}
use Rattle.rig_flush.specs.MarksInOrder.{marks_in_order}
use Rattle.rig_flush.specs.ReachedInOrder.{numbers_once, needs_earlier, as_many_reached}
use Rattle.rig_flush.specs.Tables.{reached_numbers}
use Rattle.rig_flush.proofs.events.running_in_order_is_an_evaluation.Goals as goal

pub returns : goal.returns
returns c = record {
  course = λ g met fresh idle ops links tables frame.
      in_order_is_evaluation g met frame ops links tables (unrun_is_kept g met fresh frame) idle;
  ordered = λ s met ops links tables tags.
      let once = tables_once s met ops links tables in
      let numbers = reached_numbers ops links tags in
      marks_in_order (Needs s) numbers (numbers_once s ops links tables once tags) (needs_earlier s ops links tables once tags);
  count = λ g met ops links tables frame.
      as_many_reached g.copy ops links tables (tables_once g.copy met ops links tables) (tagged_at g frame);
}
