use Rattle.std.proofs.Common.{◌≡◌, ◌<◌, ◌∷◌, length, sym, ap, ◌∙◌, subst}
use Rattle.std.specs.List.{All}
use Rattle.std.specs.Vec.Iter.{into_iter_items}
use Rattle.std.proofs.lemmas.List.{length-set}
use Rattle.std.proofs.lemmas.List.Elements.{All-tail}
use Rattle.rig_graph.specs.declared.frame.Change.{Change}
use Rattle.rig_graph.specs.Parts.{changed}
use Rattle.rig_graph.proofs.frame.change_outs.Goals as goal

pub loop-change-preserved : goal.loop-change-preserved
loop-change-preserved c =
    let rest = into_iter_items c.next.new.self in
    let outs = c.loop-change.outs in
    let items : into_iter_items c.loop-change.change-iterator ≡ c.in-Some.change ∷ rest = c.in-Some.ensures.steps.0 in
    let within = subst (λ changes. All (λ (change : Change). change.place < length outs) changes) items c.loop-change.invariant.within in
    record {
      next = tt;
      finite = tt;
      changed = ap (λ outs. changed outs rest) c.set.ensures ∙ ap (changed outs) (sym items) ∙ c.loop-change.invariant.changed;
      within = subst (λ count. All (λ (change : Change). change.place < count) rest)
          (sym (ap length c.set.ensures ∙ length-set outs c.in-Some.change.place c.in-Some.change.out))
          (All-tail (λ (change : Change). change.place < length outs) c.in-Some.change rest within);
    }
