use Rattle.std.specs.List.{All}
use Rattle.std.proofs.Common.{◌<◌, [], subst, ◌∙◌, arith}
use Rattle.std.proofs.lemmas.Option.{get_or_from_slice_get}
use Rattle.rig_cut.proofs.Planned.{length_is, ins_at}
use Rattle.rig_cut.proofs.plan.Plan.ins.Goals as goal

pub get-requires : goal.get-requires
get-requires c =
    let p = c.self.inside in
    let same = c.self.invariant.same_length in
    let len = length_is p.ops.items p.ins c.self.invariant c.args.self.now c.self.view_is in
    omega arith

pub returns-clause-ins : goal.returns-clause-ins
returns-clause-ins c =
    let p = c.self.inside in
    ins_at p.ops.items p.ins c.self.invariant c.args.self.now c.self.view_is c.args.i ∙ c.get.ensures

pub returns-clause-earlier : goal.returns-clause-earlier
returns-clause-earlier c =
    let p = c.self.inside in
    let same = c.self.invariant.same_length in
    let len = length_is p.ops.items p.ins c.self.invariant c.args.self.now c.self.view_is in
    subst (λ l. All (λ j. j < c.args.i) l) (get_or_from_slice_get p.ins c.args.i c.get.result.now [] c.get.ensures) (c.self.invariant.earlier c.args.i (omega arith))
