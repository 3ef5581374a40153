use Rattle.std.proofs.Common.{◌≡◌, ◌≤◌, length, true, false, Some, slice_get, ap, sym, ◌∙◌, subst, arith, add-one, length-set}
use Rattle.rig_play.proofs.Passes.{stand_more, unmarked_more, ran_more, object_ran-most, ran_step, ticks_step, few_step}
use Rattle.rig_scene.specs.WellFormed.{is_scene}
use Rattle.rig_scene.specs.declared.limits.TheConstants.{MAX_OBJECTS}
use Rattle.rig_play.proofs.Held.{few_objects}
use Rattle.rig_play.proofs.engine.run_objects.Goals as goal

pub loop-index-preserved : goal.loop-index-preserved
loop-index-preserved g c =
    let inv = c.loop-index.invariant in
    let index = c.loop-index.index in
    let objects = c.args.scene.now.objects in
    let o = c.get-object.result.now in
    let marks = c.loop-index.marks in
    let worlds = c.loop-index.worlds in
    let first = c.args.pass.first in
    let moved = c.args.pass.moved in
    let mark = c.get-was_set.result.now in
    let world = c.get_mut.result.now in
    let there : slice_get objects index ≡ Some o = subst (λ s. slice_get s.objects index ≡ Some o) c.scene.view_is c.get-object.ensures in
    let marked : slice_get marks index ≡ Some mark = c.get-was_set.ensures in
    let stood : slice_get worlds index ≡ Some world = c.get_mut.ensures.value in
    let ran = c.run_object-ran.ensures.ran in
    let unmarked = c.set.ensures in
    record {
      marks_length = rw unmarked (length-set marks index false ∙ inv.marks_length);
      worlds_length = length-set worlds index _ ∙ inv.worlds_length;
      few = few_step _ _ _ index inv.few (object_ran-most first moved o mark) ran;
      ran = rw (add-one, unmarked) (ran_step _ _ _ _ _ _ inv.ran (ran_more first moved index objects marks o mark there marked) ran);
      worlds = rw (add-one, unmarked, c.run_object-ran.ensures.stands)
          (sym (stand_more c.args.scene.now first moved c.args.pass.frame index objects marks worlds o mark world there marked stood) ∙ inv.worlds);
      marks = rw (add-one, unmarked) (sym (unmarked_more index marks mark marked) ∙ inv.marks);
      ticks = ticks_step _ _ _ _ _ inv.ticks c.run_object-ran.ensures.ticks;
    }

pub overflow_add-ran : goal.overflow_add-ran
overflow_add-ran g c =
    let long : length c.scene.inside.objects ≡ length c.args.scene.now.objects = ap (λ s. length s.objects) c.scene.view_is in
    let few : length c.args.scene.now.objects ≤ MAX_OBJECTS = few_objects c.args.scene.now (subst (λ s. is_scene s ≡ true) c.scene.view_is c.scene.invariant.is_scene) in
    let most = object_ran-most c.args.pass.first c.args.pass.moved c.get-object.result.now c.get-was_set.result.now in
    omega (arith, most, c.run_object-ran.ensures.ran, c.loop-index.invariant.few)

pub returns-clause-few : goal.returns-clause-few
returns-clause-few g c =
    let long : length c.scene.inside.objects ≡ length c.args.scene.now.objects = ap (λ s. length s.objects) c.scene.view_is in
    let few : length c.args.scene.now.objects ≤ MAX_OBJECTS = few_objects c.args.scene.now (subst (λ s. is_scene s ≡ true) c.scene.view_is c.scene.invariant.is_scene) in
    omega (arith, c.loop-index.invariant.few)
