use Rattle.std.proofs.Common.{rules}
use Rattle.std.proofs.lemmas.List.FromFn.{length-map-range_with_len}
use Rattle.rig_links.proofs.Readers.{numbered_row}
use Rattle.rig_links.proofs.table.LinkTable.readers.Goals as goal

pub get-requires : goal.get-requires
get-requires c = search (rules, length-map-range_with_len)

pub returns : goal.returns
returns c = search (rules, numbered_row)
