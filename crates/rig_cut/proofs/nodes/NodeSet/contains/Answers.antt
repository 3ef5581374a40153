use Rattle.std.proofs.Common.{◌<◌, ◌≤◌, length, ap, sym, ◌∙◌, arith}
use Rattle.std.specs.Prelude.{nat_eq}
use Rattle.std.specs.List.{list_any}
use Rattle.std.specs.Vec.{vec_capacity}
use Rattle.std.proofs.lemmas.Bool.{le-ltb}
use Rattle.std.proofs.lemmas.List.{get_or_read}
use Rattle.rig_cut.proofs.Members.{contains_within, contains_beyond}
use Rattle.rig_cut.proofs.nodes.NodeSet.contains.Goals as goal

pub returns-then-position-len : goal.returns-then-position-len
returns-then-position-len c =
    let s = c.self.inside in
    let count = ap (λ v. v.count) c.self.view_is in
    let node : c.args.node < length s.positions.items = omega arith in
    let within : c.index.result.now < length s.members.items = omega arith in
    let at = get_or_read s.positions.items c.args.node c.index.result.now node c.index.ensures 0 in
    let is = get_or_read s.members.items c.index.result.now c.index-then-position-len.result.now within c.index-then-position-len.ensures 0 in
    contains_within s.members.items s.positions.items (vec_capacity s.members) c.self.invariant c.args.node c.index.result.now c.index-then-position-len.result.now at within is
    ∙ ap (λ v. list_any (nat_eq c.args.node) v.members) c.self.view_is

pub returns-else-position-len : goal.returns-else-position-len
returns-else-position-len c =
    let s = c.self.inside in
    let count = ap (λ v. v.count) c.self.view_is in
    let node : c.args.node < length s.positions.items = omega arith in
    let beyond : length s.members.items ≤ c.index.result.now = omega arith in
    let at = get_or_read s.positions.items c.args.node c.index.result.now node c.index.ensures 0 in
    le-ltb c.index.result.now c.len.result (omega arith)
    ∙ sym (contains_beyond s.members.items s.positions.items (vec_capacity s.members) c.self.invariant c.args.node c.index.result.now at beyond)
    ∙ ap (λ v. list_any (nat_eq c.args.node) v.members) c.self.view_is
