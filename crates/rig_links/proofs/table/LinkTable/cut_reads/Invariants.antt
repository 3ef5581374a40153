use Rattle.std.proofs.Common.{◌≡◌, ◌++◌, [], drop}
use Rattle.std.specs.Prelude.{slice_get}
use Rattle.std.specs.Option.{option_map_or}
use Rattle.std.specs.List.{flat_map, enumerate_from}
use Rattle.rig_links.specs.Report.{reads_of_row, reads_of_rows}
use Rattle.rig_links.proofs.table.LinkTable.cut_reads.Given as goal

abbrev pub invariant-loop-n : goal.invariant-loop-n
invariant-loop-n l =
    l.cuts ++ flat_map (λ e. option_map_or (λ reader. reads_of_row l.nodes reader e.1) (slice_get l.nodes e.0) []) (enumerate_from l.n (drop l.n l.self.ins))
    ≡ reads_of_rows l.nodes l.self.ins
