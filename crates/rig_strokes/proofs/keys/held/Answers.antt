use Rattle.std.proofs.Common.{◌≡◌, List, Option, Some, None, IsNone, ℤ, w32, refl, subst, sym, ◌∙◌, ap}
use Rattle.std.proofs.lemmas.Int.{to_z-of_z}
use Rattle.std.specs.Option.{option_copied}
use Rattle.rig_scene.specs.declared.pencil.LayerKey.{LayerKey}
use Rattle.rig_scene.specs.Keys.{key_up_to}
use Rattle.rig_strokes.proofs.HeldKeys.{after-if_none, none-if_after}
use Rattle.rig_strokes.proofs.keys.held.Goals as goal

-- what is found is the last key up to the frame that was given, of the keys that were given
found : (key : Option LayerKey) (slice keys : List LayerKey) (passed frame : ℤ) → key ≡ key_up_to (λ k. k.frame) passed slice → passed ≡ frame → slice ≡ keys → key ≡ key_up_to (λ k. k.frame) frame keys
found key slice keys passed frame is same_frame same_keys =
    is ∙ ap (λ frame. key_up_to (λ k. k.frame) frame slice) same_frame ∙ ap (key_up_to (λ k. k.frame) frame) same_keys

not-both : (k : LayerKey) → Some k ≡ None → ⊥
not-both k none = cc

pub returns-in_err-key-clause-none : goal.returns-in_err-key-clause-none
returns-in_err-key-clause-none c =
    let keys = c.args.layer.now.keys in
    let frame = c.args.frame in
    let key = found (option_copied c.keys_around.result.0) c.as_slice.result.now keys _ frame c.keys_around.ensures.before (to_z-of_z w32 frame c.ranges.frame) c.as_slice.ensures in (
      λ _. after-if_none keys frame (sym key ∙ ap option_copied c.in_err-key.was),
      λ _. subst IsNone (sym c.from_residual.ensures) refl,
    )

pub returns-clause-none : goal.returns-clause-none
returns-clause-none c =
    let keys = c.args.layer.now.keys in
    let frame = c.args.frame in
    let key = found (option_copied c.keys_around.result.0) c.as_slice.result.now keys _ frame c.keys_around.ensures.before (to_z-of_z w32 frame c.ranges.frame) c.as_slice.ensures in (
      λ none. cc,
      λ after. absurd (not-both c.in_ok-key.field-0.now (sym (ap option_copied c.in_ok-key.was) ∙ key ∙ none-if_after keys frame after)),
    )
