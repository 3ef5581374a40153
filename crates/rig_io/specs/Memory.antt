-- What a source and a sink in memory are, as their contracts see them.
use Rattle.std.specs.Prelude.{ℕ, Bool, ◌==◌, List}
use Rattle.std.specs.List.{list_any}
use Rattle.rig_io.specs.Faults.{raised}

-- a source: what is left, the most bytes of a read, the numbers of the reads that fail, and how many reads and faults there were
pub record SourceState : Type 0 where
  pub left : List ℕ
  pub most : ℕ
  pub fails : List ℕ
  pub calls : ℕ
  pub faults : ℕ

-- a sink: what was written, all the room, the most bytes of a write, the numbers of the writes that fail, and how many writes and faults there were
pub record SinkState : Type 0 where
  pub written : List ℕ
  pub room : ℕ
  pub most : ℕ
  pub fails : List ℕ
  pub calls : ℕ
  pub faults : ℕ

-- whether the call of this number is among those that fail
abbrev pub is_named : List ℕ → ℕ → Bool
is_named fails call = list_any (λ k. k == call) fails

-- a source after a read that gave what came before `left`
abbrev pub source_after : SourceState → List ℕ → SourceState
source_after s left = record s { left = left; calls = raised s.calls }

-- a source after a read that failed
abbrev pub source_failed : SourceState → SourceState
source_failed s = record s { calls = raised s.calls; faults = raised s.faults }

-- a sink after a write that took what `written` has more
abbrev pub sink_after : SinkState → List ℕ → SinkState
sink_after s written = record s { written = written; calls = raised s.calls }

-- a sink after a write that failed
abbrev pub sink_failed : SinkState → SinkState
sink_failed s = record s { calls = raised s.calls; faults = raised s.faults }
