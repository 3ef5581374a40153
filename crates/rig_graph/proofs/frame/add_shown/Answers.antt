use Rattle.std.proofs.Common.{◌++◌, [], ◌∷◌, map, take, Some, sym, ap, ◌∙◌}
use Rattle.std.proofs.lemmas.List.{map-append, map_more, append_assoc}
use Rattle.rig_graph.specs.Parts.{given_at}
use Rattle.rig_graph.proofs.frame.add_shown.Goals as goal

pub loop-n-preserved : goal.loop-n-preserved
loop-n-preserved c =
    let given = given_at c.args.reached.now.members c.args.results.now c.args.copies.now.kept in
    let shown = c.args.shown.now in
    let i = c.loop-n.n-index in
    let out = c.in_ok-share.field-0 in
    let before = map Some c.args.done.now.outs in (
      ap (λ done. map Some done.outs) c.in_ok-add.ensures.ok
          ∙ map-append Some c.loop-n.done.outs (out ∷ [])
          ∙ ap (λ l. l ++ Some out ∷ []) c.loop-n.invariant.0
          ∙ append_assoc before (map given (take i shown)) (Some out ∷ [])
          ∙ ap (λ o. before ++ (map given (take i shown) ++ o ∷ [])) (ap Some c.in_ok-share.ensures ∙ sym c.there_at.ensures)
          ∙ ap (λ l. before ++ l) (sym (map_more given shown i 0 c.loop-n-test.true)),
      ap (λ done. done.frame) c.in_ok-add.ensures.ok ∙ c.loop-n.invariant.1,
      ap (λ done. done.mode) c.in_ok-add.ensures.ok ∙ c.loop-n.invariant.2,
      ap (λ done. done.cuts) c.in_ok-add.ensures.ok ∙ c.loop-n.invariant.3,
    )
