use Rattle.std.proofs.Common.{◌≡◌, ◌∙◌, Some, slice_get, length, subst, ap, unwrap_or}
use Rattle.std.specs.Prelude.{IfSome, IfNone, Contains}
use Rattle.rig_links.specs.Numbers.{number_of}
use Rattle.rig_links.proofs.Numbers.{number_or_past}
use Rattle.rig_links.proofs.numbered.NumberedScene.number.Goals as goal

pub returns : goal.returns
returns c =
    subst (λ s. c.unwrap_or.result ≡ number_of s c.args.op.now) c.self.view_is
    (c.unwrap_or.ensures ∙ ap (unwrap_or c.number.result) (c.len.ensures ∙ ap length c.self.invariant.1)
    ∙ number_or_past c.self.inside.scene.now c.self.invariant.0 c.number.result c.args.op.now
    (subst (λ ops. IfSome c.number.result (λ n. slice_get ops n ≡ Some c.args.op.now)) c.self.invariant.1 c.number.ensures.some)
    (subst (λ ops. IfNone c.number.result (Contains ops c.args.op.now → ⊥)) c.self.invariant.1 c.number.ensures.none))
