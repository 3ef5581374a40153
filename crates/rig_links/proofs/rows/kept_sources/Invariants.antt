use Rattle.std.proofs.Common.{◌≡◌, map, filter, take, not}
use Rattle.rig_cut.specs.declared.links.Link.{Link}
use Rattle.rig_cut.specs.Links.{is_cut}
use Rattle.rig_links.proofs.rows.kept_sources.Given as goal

abbrev pub invariant-loop-index : goal.invariant-loop-index
invariant-loop-index l = l.list.items ≡ map (λ (x : Link). x.source) (filter (λ (x : Link). not (is_cut l.links x)) (take l.index l.links))
