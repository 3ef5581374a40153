use Rattle.std.specs.Prelude.{replicate, None}
use Rattle.std.proofs.Common.{false, length, sym, ap, ◌∙◌, subst}
use Rattle.rig_flush.specs.Graph.{Fresh, opened}
use Rattle.rig_graph.specs.LastPlan.{no_plan}
use Rattle.rig_graph.specs.Opened.{opened_parts, opened_fresh, opened_state}
use Rattle.rig_graph.specs.Parts.{AreParts, record_of}
use Rattle.rig_graph.specs.State.{state_of}
use Rattle.rig_graph.proofs.graph.Graph.open.Goals as goal

pub invariant_of-result : goal.invariant_of-result
invariant_of-result c =
    let copy = c.in_ok-copy.copy in
    let counted = c.len-2.ensures in
    let kept_is = c.in_ok-copies.ensures ∙ ap (λ n. replicate n None) c.len.ensures in (
      subst (λ count. AreParts c.args.mode copy c.in_ok-tags.tags c.in_ok-copies.copies.kept count None false) (sym (c.in_ok-last.ensures.count ∙ counted))
          (subst (λ tags. AreParts c.args.mode copy tags c.in_ok-copies.copies.kept (length copy.nodes) None false) (sym c.in_ok-tags.ensures)
          (subst (λ kept. AreParts c.args.mode copy copy.nodes kept (length copy.nodes) None false) (sym kept_is) (opened_parts c.args.mode copy c.in_ok-copy.ensures.copy))),
      subst (λ tags. Fresh (state_of (record_of c.args.mode 0 copy tags c.in_ok-copies.copies.kept None))) (sym c.in_ok-tags.ensures)
          (subst (λ kept. Fresh (state_of (record_of c.args.mode 0 copy copy.nodes kept None))) (sym kept_is) (opened_fresh c.args.mode copy c.in_ok-copy.ensures.copy)),
      no_plan copy.links c.in_ok-last.last c.in_ok-last.ensures.unmade,
    )

pub returns : goal.returns
returns c =
    let copy = c.in_ok-copy.copy in
    let kept_is = c.in_ok-copies.ensures ∙ ap (λ n. replicate n None) c.len.ensures in
    ap (λ tags. state_of (record_of c.args.mode 0 copy tags c.in_ok-copies.copies.kept None)) c.in_ok-tags.ensures
    ∙ ap (λ kept. state_of (record_of c.args.mode 0 copy copy.nodes kept None)) kept_is
    ∙ opened_state c.args.mode copy c.in_ok-copy.ensures.copy
    ∙ ap (λ scene. opened scene c.args.mode) c.in_ok-copy.ensures.scene
