use Rattle.std.proofs.Common.{arith, rules, ◌≡◌, ◌∙◌, ap, ℤ, neg_ℤ, w64, to_z, of_z, pos, ◌-ℤ◌}
use Rattle.std.proofs.lemmas.Int.{ints}
use Rattle.rig_fixed.specs.Fixed.{clamp, IsWithinLimits}
use Rattle.rig_fixed.proofs.Shortcuts.{within_stays}
use Rattle.rig_fixed.proofs.fixed.Fx.negation.Goals as goal

negated : (z a : ℤ) → IsWithinLimits z → z ≡ a → to_z w64 (of_z w64 (pos 0 -ℤ to_z w64 (of_z w64 z))) ≡ neg_ℤ a
negated z a h e = omega (arith, ints)

stays : (a : ℤ) → IsWithinLimits a → clamp (neg_ℤ a) ≡ neg_ℤ a
stays a h = within_stays (neg_ℤ a) (omega (arith, ints), omega (arith, ints))

pub returns : goal.returns
returns c =
    let within : IsWithinLimits c.args.self = search rules in
    c.of_i64.ensures ∙ ap clamp (negated c.get.result c.args.self c.get.ensures.within c.get.ensures.value) ∙ stays c.args.self within
