use Rattle.std.proofs.Common.{◌≡◌, Some, None, slice_get, subst, if◌then◌else◌}
use Rattle.std.specs.Prelude.{IfSome, IfNone, Contains}
use Rattle.rig_laws.specs.Members.{has_operation}
use Rattle.rig_links.specs.Numbers.{number_of}
use Rattle.rig_links.proofs.Numbers.{number_found}
use Rattle.rig_links.proofs.numbered.NumberedScene.number_if_there.Goals as goal

pub returns : goal.returns
returns c =
    subst (λ s. c.number.result ≡ (if has_operation s c.args.op.now then Some (number_of s c.args.op.now) else None)) c.self.view_is
    (number_found c.self.inside.scene.now c.self.invariant.0 c.number.result c.args.op.now
    (subst (λ ops. IfSome c.number.result (λ n. slice_get ops n ≡ Some c.args.op.now)) c.self.invariant.1 c.number.ensures.some)
    (subst (λ ops. IfNone c.number.result (Contains ops c.args.op.now → ⊥)) c.self.invariant.1 c.number.ensures.none))
