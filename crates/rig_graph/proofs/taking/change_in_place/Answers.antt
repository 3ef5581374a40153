use Rattle.std.proofs.Common.{take, length, ap, ◌∙◌}
use Rattle.std.specs.Prelude.{OnErr, Result, Ok, Err}
use Rattle.rig_graph.specs.TagsAdded.{tags_behind}
use Rattle.rig_graph.proofs.taking.change_in_place.Goals as goal

holds_on_err : {X E : Type 0} (result : Result X E) (P : Type 0) → P → OnErr result P
holds_on_err (Ok x) P p = tt
holds_on_err (Err e) P p = p

pub returns-then-is_err-clause-same_tags : goal.returns-then-is_err-clause-same_tags
returns-then-is_err-clause-same_tags c =
    holds_on_err c.change-answer.result _
    (c.truncate.ensures
    ∙ ap (λ n. take n c.add_tags.new.tags) c.len-count.ensures
    ∙ ap (take (length c.args.tags.now)) c.in_ok-add_tags.ensures.ok
    ∙ tags_behind c.args.copy.now.nodes c.args.tags.now c.in_ok-touched.touched)
