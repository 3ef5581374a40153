use Rattle.std.proofs.Common.{◌≡◌, ℕ, List, ◌++◌, drop}
use Rattle.std.specs.List.{flat_map}
use Rattle.rig_io.specs.Bytes.{Appended}
use Rattle.rig_play.proofs.program.write_each.Given as goal

-- some bytes were written whole, and with the texts to come they are all; no write failed
abbrev pub invariant-loop-text : goal.invariant-loop-text
invariant-loop-text g l = record {
  written : (done : List ℕ) × Appended (g.K.Sink.written l.initial.sink) (g.K.Sink.written l.sink) done
      × (done ++ flat_map (λ t. t.items) (drop l.text-index l.texts) ≡ flat_map (λ t. t.items) l.texts);
  faults : g.K.Sink.faults l.sink ≡ g.K.Sink.faults l.initial.sink;
}
