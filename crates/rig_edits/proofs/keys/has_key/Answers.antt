use Rattle.std.proofs.Common.{int_eq, w32, sym, ap, ◌∙◌}
use Rattle.std.specs.List.{list_any}
use Rattle.std.proofs.lemmas.Int.{to_z-of_z}
use Rattle.rig_edits.proofs.keys.has_key.Goals as goal

pub returns-in-Ok : goal.returns-in-Ok
returns-in-Ok g c =
    sym c.in-Ok.ensures.has
    ∙ ap (λ f. list_any (λ k. int_eq (g.K.Keyframe.frame k) f) c.args.keys.now) (to_z-of_z w32 c.args.frame c.ranges.frame)
