use Rattle.std.specs.Prelude.{IsTrue}
use Rattle.std.proofs.Common.{◌≡◌, None, sym, ap, ◌∙◌, subst}
use Rattle.rig_edits.specs.Conditions.{first_cause}
use Rattle.rig_edits.specs.Edited.{edited}
use Rattle.rig_flush.specs.Graph.{Fresh, taken, version_after}
use Rattle.rig_flush.specs.TakenFresh.{taken_scene_is_fresh}
use Rattle.rig_graph.specs.declared.scene_copy.SceneCopy.{SceneCopy}
use Rattle.rig_graph.specs.LastPlan.{IsLast}
use Rattle.rig_graph.specs.Parts.{AreParts, record_of}
use Rattle.rig_graph.specs.State.{GraphRecord, state_of}
use Rattle.rig_graph.specs.TakenInPlace.{in_place_parts, in_place_state}
use Rattle.rig_graph.specs.Taking.{with_tags}
use Rattle.rig_scene.specs.WellFormed.{is_scene}
use Rattle.rig_touch.specs.KeepsLinks.{keeps_links}
use Rattle.rig_touch.specs.Touch.{touch}
use Rattle.rig_graph.proofs.graph.Graph.take_in_place.Goals as goal

pub invariant_of-self-2 : goal.invariant_of-self-2
invariant_of-self-2 c =
    let inside = c.self.inside in
    let edit = c.args.entry.now.edit in
    let copy_now : SceneCopy = record inside.copy { scene = edited inside.copy.scene edit } in
    let tags_now = with_tags inside.copy.nodes inside.tags (touch inside.copy.scene edit) in
    let copy_is : c.change_in_place.new.copy ≡ copy_now = c.in_ok-change_in_place.ensures.copy in
    let tags_are : c.change_in_place.new.tags ≡ tags_now = c.in_ok-change_in_place.ensures.tags in
    let keeps : IsTrue (keeps_links inside.copy.scene edit) = subst (λ (r : GraphRecord). IsTrue (keeps_links r.copy edit)) (sym c.self.view_is) c.requires.keeps in
    let met : IsTrue (is_scene (edited inside.copy.scene edit)) = subst (λ (k : SceneCopy). IsTrue (is_scene k.scene)) copy_is c.in_ok-change_in_place.ensures.met in
    let accepted : first_cause inside.copy.scene edit ≡ None = ap (λ (r : GraphRecord). first_cause r.copy edit) c.self.view_is ∙ c.requires.can.accepted in
    let state = in_place_state inside.mode inside.version inside.copy inside.tags inside.copies.kept inside.last.reached.count inside.published inside.fits c.self.invariant.0 edit keeps met c.args.entry.now.turn in (
      subst (λ k. AreParts inside.mode k c.change_in_place.new.tags inside.copies.kept inside.last.reached.count inside.published inside.fits) (sym copy_is)
          (subst (λ t. AreParts inside.mode copy_now t inside.copies.kept inside.last.reached.count inside.published inside.fits) (sym tags_are)
          (in_place_parts inside.mode inside.version inside.copy inside.tags inside.copies.kept inside.last.reached.count inside.published inside.fits c.self.invariant.0 edit keeps met)),
      subst (λ k. Fresh (state_of (record_of inside.mode (version_after c.args.entry.now.turn) k c.change_in_place.new.tags inside.copies.kept inside.published))) (sym copy_is)
          (subst (λ t. Fresh (state_of (record_of inside.mode (version_after c.args.entry.now.turn) copy_now t inside.copies.kept inside.published))) (sym tags_are)
          (subst (λ g. Fresh g) (sym state)
          (taken_scene_is_fresh (state_of (record_of inside.mode inside.version inside.copy inside.tags inside.copies.kept inside.published)) c.self.invariant.0.copy.met c.self.invariant.1 edit accepted met c.args.entry.now.turn))),
      subst (λ (k : SceneCopy). IsLast k.links inside.last) (sym copy_is) c.self.invariant.2,
    )

pub returns-clause-ok : goal.returns-clause-ok
returns-clause-ok c =
    let inside = c.self.inside in
    let edit = c.args.entry.now.edit in
    let copy_now : SceneCopy = record inside.copy { scene = edited inside.copy.scene edit } in
    let copy_is : c.change_in_place.new.copy ≡ copy_now = c.in_ok-change_in_place.ensures.copy in
    let keeps : IsTrue (keeps_links inside.copy.scene edit) = subst (λ (r : GraphRecord). IsTrue (keeps_links r.copy edit)) (sym c.self.view_is) c.requires.keeps in
    let met : IsTrue (is_scene (edited inside.copy.scene edit)) = subst (λ (k : SceneCopy). IsTrue (is_scene k.scene)) copy_is c.in_ok-change_in_place.ensures.met in
    ap (λ k. state_of (record_of inside.mode (version_after c.args.entry.now.turn) k c.change_in_place.new.tags inside.copies.kept inside.published)) copy_is
    ∙ ap (λ t. state_of (record_of inside.mode (version_after c.args.entry.now.turn) copy_now t inside.copies.kept inside.published)) c.in_ok-change_in_place.ensures.tags
    ∙ in_place_state inside.mode inside.version inside.copy inside.tags inside.copies.kept inside.last.reached.count inside.published inside.fits c.self.invariant.0 edit keeps met c.args.entry.now.turn
    ∙ ap (λ r. taken (state_of r) edit c.args.entry.now.turn) c.self.view_is
