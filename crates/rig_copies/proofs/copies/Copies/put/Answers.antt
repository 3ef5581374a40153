use Rattle.std.specs.Prelude.{slice_set, map}
use Rattle.std.proofs.Common.{◌≡◌, ◌<◌, length, get_or, Some, None, sym, ap, ◌∙◌, subst, arith}
use Rattle.std.proofs.lemmas.List.{length-set}
use Rattle.slab.proofs.SlabLemmas.{Updates-with_value}
use Rattle.slab.specs.Slab.{Updates}
use Rattle.rig_copies.proofs.Written.{within_kept, key_read, kept-replaced, kept-inserted, held-inserted}
use Rattle.rig_copies.proofs.copies.Copies.put.Goals as goal
use Rattle.rig_copies.proofs.copies.Copies.put.Goals.{in-Some-1, in-None-1}
use Rattle.rig_copies.specs.Keys.{kept_under}

pub invariant_of-self-in-None : goal.invariant_of-self-in-None
invariant_of-self-in-None c = (
  held-inserted c.self.inside.outs c.insert_reserved.new.self c.insert_reserved.result c.args.out c.insert_reserved.ensures.updates
      c.self.inside.keys.items c.args.n c.self.invariant.0
      (within_kept c.self.inside.outs c.self.inside.keys.items c.args.n (subst (λ v. c.args.n < length v.kept) (sym c.self.view_is) c.requires.within))
      c.insert_reserved.ensures.was_vacant,
  omega (arith, length-set c.self.inside.keys.items c.args.n (Some c.insert_reserved.result), c.self.invariant.1),
)

pub returns-in-Some-clause-kept : goal.returns-in-Some-clause-kept
returns-in-Some-clause-kept c =
    let at : get_or c.self.inside.keys.items c.args.n None ≡ Some c.in-Some.key =
    key_read c.self.inside.keys.items c.args.n c.index.result.now
    (within_kept c.self.inside.outs c.self.inside.keys.items c.args.n (subst (λ v. c.args.n < length v.kept) (sym c.self.view_is) c.requires.within))
    c.index.ensures ∙ c.in-Some.is in
    let kept : map (kept_under c.replace.new.outs) c.self.inside.keys.items ≡ slice_set c.args.self.now.kept c.args.n (Some c.args.out) =
    kept-replaced c.self.inside.outs c.replace.new.outs c.in-Some.key c.args.out
    (subst (λ s. Updates c.self.inside.outs s c.in-Some.key (Some c.args.out)) (sym c.replace.ensures.now)
    (Updates-with_value c.self.inside.outs c.in-Some.key c.args.out (c.self.invariant.0.held c.args.n c.in-Some.key at)))
    c.self.inside.keys.items c.args.n c.self.invariant.0 at
    ∙ ap (λ v. slice_set v.kept c.args.n (Some c.args.out)) c.self.view_is in
    elim c.match-index_mut.branch [
      | in-Some-1 w ↦ ap (λ v. v.kept) w.self-is ∙ kept
      | in-None-1 w ↦ ap (λ v. v.kept) w.self-is ∙ kept
    ]

pub returns-in-None-clause-kept : goal.returns-in-None-clause-kept
returns-in-None-clause-kept c =
    kept-inserted c.self.inside.outs c.insert_reserved.new.self c.insert_reserved.result c.args.out c.insert_reserved.ensures.updates
    c.self.inside.keys.items c.args.n c.self.invariant.0
    (within_kept c.self.inside.outs c.self.inside.keys.items c.args.n (subst (λ v. c.args.n < length v.kept) (sym c.self.view_is) c.requires.within))
    c.insert_reserved.ensures.was_vacant
    ∙ ap (λ v. slice_set v.kept c.args.n (Some c.args.out)) c.self.view_is
