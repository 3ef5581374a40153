use Rattle.serde_json.specs.View.{view}
use Rattle.rig_play.proofs.Contents.{reading-read, reading-refused, not_true}
use Rattle.rig_play.proofs.input.value_of.Goals as goal
use Rattle.rig_play.proofs.input.value_of.Goals.{then-is_memory, else-is_memory}

pub returns-in-Ok : goal.returns-in-Ok
returns-in-Ok c = reading-read c.args.bytes.now (view c.in-Ok.value) c.in-Ok.ensures.ok.0 c.in-Ok.ensures.ok.1

pub returns-after-is_memory : goal.returns-after-is_memory
returns-after-is_memory c =
    elim c.if-is_memory.branch [
      | then-is_memory w ↦ rw w.result-is tt
      | else-is_memory w ↦ rw w.result-is (reading-refused c.args.bytes.now (c.in-Err.ensures.err (λ memory. not_true c.is_memory.result w.if-is_memory.false (c.is_memory.ensures.1 memory))))
    ]
