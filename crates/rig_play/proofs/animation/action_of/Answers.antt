use Rattle.std.proofs.Common.{◌≡◌, option_map, slice_get, ap, ◌∙◌, subst, true, IsTrue}
use Rattle.rig_scene.specs.WellFormed.{is_scene}
use Rattle.rig_play.proofs.Held.{got, got_action}
use Rattle.rig_play.proofs.animation.action_of.Goals as goal

pub returns : goal.returns
returns c =
    let same : c.as_slice.result.now ≡ c.args.scene.now.actions = c.as_slice.ensures ∙ ap (λ s. s.actions) c.scene.view_is in
    let holds : IsTrue (is_scene c.args.scene.now) = subst (λ s. is_scene s ≡ true) c.scene.view_is c.scene.invariant.is_scene in
    let is : option_map (λ a. a.now) c.get.result ≡ slice_get c.args.scene.now.actions c.in_ok-index.index =
    rw (← same) (got c.as_slice.result.now c.in_ok-index.index c.get.result c.get.ensures.lookup.0 c.get.ensures.lookup.1) in
    got_action c.args.scene.now c.args.object.now c.in_ok-index.index c.get.result holds c.in_ok-index.was is
