use Rattle.std.proofs.Common.{◌≡◌, ◌+◌, ◌*◌, ◌≤◌, ◌++◌, length, take, drop, map, false}
use Rattle.rig_play.specs.Stands.{objects_ran, all_stand}
use Rattle.rig_play.proofs.engine.run_objects.Given as goal

abbrev pub invariant-loop-index : goal.invariant-loop-index
invariant-loop-index g l = record {
  marks_length : length l.marks ≡ length l.scene.objects;
  worlds_length : length l.worlds ≡ length l.scene.objects;
  few : l.ran ≤ 3 * l.index;
  ran : l.ran + objects_ran l.pass.first l.pass.moved (drop l.index l.scene.objects) (drop l.index l.marks)
      ≡ objects_ran l.pass.first l.pass.moved l.scene.objects l.initial.marks;
  worlds : take l.index l.worlds ++ all_stand l.scene l.pass.first l.pass.moved l.pass.frame (drop l.index l.scene.objects) (drop l.index l.marks) (drop l.index l.worlds)
      ≡ all_stand l.scene l.pass.first l.pass.moved l.pass.frame l.scene.objects l.initial.marks l.initial.worlds;
  marks : take l.index l.marks ++ map (λ _. false) (drop l.index l.marks) ≡ map (λ _. false) l.initial.marks;
  ticks : g.Y.Tally.count l.tally ≡ g.Y.Tally.count l.initial.tally + l.ran;
}
