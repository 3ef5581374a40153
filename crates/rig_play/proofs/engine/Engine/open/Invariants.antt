use Rattle.std.proofs.Common.{◌≡◌, length, take, map, false}
use Rattle.rig_play.proofs.engine.Engine.open.Given as goal

abbrev pub invariant-loop-object : goal.invariant-loop-object
invariant-loop-object l = record {
  marks : l.marks ≡ map (λ _. false) (take l._object-index l._object-items);
  worlds : length l.worlds ≡ l._object-index;
}
