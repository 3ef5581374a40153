use Rattle.std.proofs.Common.{◌≡◌, Some, map, false, ap, ◌∙◌, sym}
use Rattle.rig_scene.specs.Cut.{cuts}
use Rattle.rig_play.specs.Output.{worlds_at}
use Rattle.rig_play.proofs.Passes.{worlds-at_last}
use Rattle.rig_play.proofs.PlainScene.{plain_cuts}
use Rattle.rig_play.proofs.PlainWorlds.{plain_worlds}
use Rattle.rig_play.proofs.engine.Engine.worlds.Goals as goal

pub returns-clause-worlds : goal.returns-clause-worlds
returns-clause-worlds c = λ mode frame is unmarked.
    let e = c.self.inside in
    let s = c.self.invariant in
    let last : e.last ≡ Some frame = ap (λ p. p.last) c.self.view_is ∙ is in
    let set : e.marks ≡ map (λ _. false) e.marks =
    ap (λ p. p.set) c.self.view_is ∙ unmarked ∙ sym (ap (λ p. map (λ _. false) p.set) c.self.view_is) in
    c.as_slice.ensures ∙ worlds-at_last e.scene e.marks e.worlds e.last frame s last set
    ∙ sym (plain_worlds e.scene s.is_scene s.plain mode frame)
    ∙ ap (λ p. worlds_at p.scene mode frame) c.self.view_is

pub returns-clause-uncut : goal.returns-clause-uncut
returns-clause-uncut c = sym (ap (λ p. cuts p.scene) c.self.view_is) ∙ plain_cuts c.self.inside.scene c.self.invariant.plain
