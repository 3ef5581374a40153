use Rattle.std.proofs.Common.{◌≡◌, ℕ, ◌-◌, ◌++◌, length, map, replicate, Option, None, subst, sym, ap, ◌∙◌, arith}
use Rattle.std.proofs.lemmas.List.{length-append, length-map, length-replicate}
use Rattle.rig_laws.specs.Output.{Output}
use Rattle.rig_copies.specs.Copies.{extended}
use Rattle.rig_copies.specs.Keys.{kept_under, AreHeld}
use Rattle.rig_copies.proofs.Written.{held-more, kept-more}
use Rattle.rig_copies.proofs.copies.Copies.extend_to.Goals as goal

keys_are : (c : goal.After-push_nothing-2) → c.push_nothing-2.new.items.items ≡ c.self.inside.keys.items ++ replicate c.saturating_sub-more.result None
keys_are c = c.push_nothing-2.ensures ∙ ap (λ l. l ++ replicate c.saturating_sub-more.result None) c.reserve-2.ensures.items

spares_are : (c : goal.After-push_nothing-2) → c.push_nothing.new.items.items ≡ c.self.inside.spares.items ++ replicate c.saturating_sub-more.result None
spares_are c = c.push_nothing.ensures ∙ ap (λ l. l ++ replicate c.saturating_sub-more.result None) c.reserve.ensures.items

pub invariant_of-self-2 : goal.invariant_of-self-2
invariant_of-self-2 c =
    let more = c.saturating_sub-more.result in (
      subst (λ keys. AreHeld c.self.inside.outs keys) (sym (keys_are c)) (held-more c.self.inside.outs c.self.inside.keys.items more c.self.invariant.0),
      omega (
        arith,
        ap length (keys_are c),
        length-append c.self.inside.keys.items (replicate more None),
        ap length (spares_are c),
        length-append c.self.inside.spares.items (replicate more None),
        length-replicate {A = Option ℕ} more None,
        length-replicate {A = Option Output} more None,
        c.self.invariant.1,
      ),
    )

pub returns-clause-ok : goal.returns-clause-ok
returns-clause-ok c =
    let f = kept_under c.self.inside.outs in
    let keys = c.self.inside.keys.items in
    let more = c.saturating_sub-more.result in
    let more_is : more ≡ c.args.count - length (map f keys) = omega (arith, length-map keys f, c.len.ensures, c.saturating_sub-more.ensures) in
    ap (map f) (keys_are c)
    ∙ kept-more c.self.inside.outs keys more
    ∙ ap (λ k. map f keys ++ replicate k None) more_is
    ∙ ap (λ v. extended v.kept c.args.count) c.self.view_is
