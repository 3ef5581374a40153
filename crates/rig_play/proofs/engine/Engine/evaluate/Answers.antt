use Rattle.std.proofs.Common.{◌≡◌, ◌+◌, ◌≤◌, length, ap, sym, ◌∙◌, if◌then◌else◌, arith, w32}
use Rattle.std.proofs.lemmas.Int.{to_z-of_z}
use Rattle.rig_scene.specs.declared.limits.TheConstants.{MAX_OBJECTS}
use Rattle.rig_play.specs.declared.engine.Pass.{Pass}
use Rattle.rig_play.specs.Flush.{flushed, is_first, is_moved}
use Rattle.rig_play.specs.Stands.{all_stand, objects_ran}
use Rattle.rig_play.proofs.Held.{few_objects}
use Rattle.rig_play.proofs.Passes.{pass-is, stands-frame, time-most}
use Rattle.rig_play.proofs.PlainOperations.{flushed_count}
use Rattle.rig_play.proofs.engine.Engine.evaluate.Goals as goal

pub run_objects-objects-requires-clause-room : goal.run_objects-objects-requires-clause-room
run_objects-objects-requires-clause-room g c =
    let few : length c.self.inside.scene.objects ≤ MAX_OBJECTS = few_objects c.self.inside.scene c.self.invariant.is_scene in
    omega (arith, few, time-most c.of-pass.result.moved, c.run_time-time.ensures.ran, c.run_time-time.ensures.ticks, c.requires)

pub invariant_of-self : goal.invariant_of-self
invariant_of-self g c =
    let e = c.self.inside in
    let frame = to_z-of_z w32 c.args.frame c.ranges.frame in
    let pass : c.of-pass.result ≡ record { frame = c.args.frame; first = is_first e.last; moved = is_moved e.last c.args.frame } =
    rw frame at c.of-pass.ensures in
    let stood = c.run_objects-objects.ensures.worlds
    ∙ ap (λ (p : Pass). all_stand e.scene p.first p.moved p.frame e.scene.objects e.marks e.worlds) pass
    ∙ pass-is e.scene e.marks e.worlds e.last c.args.frame c.self.invariant in
    rw frame (stands-frame e.scene e.marks c.run_objects-objects.new.marks e.worlds c.run_objects-objects.new.worlds e.last c.args.frame c.self.invariant
    c.run_objects-objects.ensures.marks stood)

pub returns-clause-ran : goal.returns-clause-ran
returns-clause-ran g c =
    let e = c.self.inside in
    let s = c.self.invariant in
    let frame = to_z-of_z w32 c.args.frame c.ranges.frame in
    let pass : c.of-pass.result ≡ record { frame = c.args.frame; first = is_first e.last; moved = is_moved e.last c.args.frame } =
    rw frame at c.of-pass.ensures in
    ap (λ n. n + c.run_objects-objects.result) c.run_time-time.ensures.ran
    ∙ ap (λ n. (if c.of-pass.result.moved then 1 else 0) + n) c.run_objects-objects.ensures.ran
    ∙ ap (λ (p : Pass). (if p.moved then 1 else 0) + objects_ran p.first p.moved e.scene.objects e.marks) pass
    ∙ sym (flushed_count (record { scene = e.scene; set = e.marks; last = e.last }) c.args.frame s.is_scene s.plain s.marks_length)
    ∙ ap (λ p. length (flushed p c.args.frame)) c.self.view_is
