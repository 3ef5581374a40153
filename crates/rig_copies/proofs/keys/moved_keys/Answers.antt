use Rattle.std.proofs.Common.{map, take, [], ◌∷◌, ◌++◌, sym, ap, ◌∙◌, arith}
use Rattle.std.proofs.lemmas.List.{map_more}
use Rattle.std.proofs.lemmas.Option.{get_or_from_slice_get, slice_get_within}
use Rattle.rig_copies.specs.Keys.{key_for}
use Rattle.rig_copies.proofs.keys.moved_keys.Goals as goal

pub loop-n-preserved : goal.loop-n-preserved
loop-n-preserved c = record {
  items = c.push_reserved.ensures.items
      ∙ ap (λ l. l ++ c.key_of.result ∷ []) c.loop-n.invariant.items
      ∙ ap (λ k. map (key_for c.args.old.now c.args.keys.now) (take c.loop-n.n c.args.new.now) ++ k ∷ []) (c.key_of.ensures
      ∙ ap (key_for c.args.old.now c.args.keys.now) (sym (get_or_from_slice_get c.args.new.now c.loop-n.n c.op.result.now c.op.result.now c.op.ensures)))
      ∙ sym (map_more (key_for c.args.old.now c.args.keys.now) c.args.new.now c.loop-n.n c.op.result.now
      (slice_get_within c.args.new.now c.loop-n.n c.op.result.now c.op.ensures));
  count = omega (arith, c.push_reserved.ensures.len, c.loop-n.invariant.count);
  room = c.push_reserved.ensures.capacity ∙ c.loop-n.invariant.room;
}
