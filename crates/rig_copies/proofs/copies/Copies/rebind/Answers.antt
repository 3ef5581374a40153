use Rattle.std.specs.Prelude.{Contains}
use Rattle.std.proofs.Common.{◌≡◌, length, map, subst, sym, ap, ◌∙◌, arith}
use Rattle.std.proofs.lemmas.List.{length-map}
use Rattle.rig_scene.specs.declared.operation.OpId.{OpId}
use Rattle.rig_copies.specs.Copies.{renumbered}
use Rattle.rig_copies.specs.Keys.{kept_under, key_for, AreHeld}
use Rattle.rig_copies.proofs.Renumbered.{held-moved, kept-moved}
use Rattle.rig_copies.proofs.copies.Copies.rebind.Goals as goal

moved : (c : goal.After-drop-self-inside-2) → c.in_ok-keys.keys.items ≡ map (key_for c.args.old.now c.self.inside.keys.items) c.args.new.now
moved c = c.in_ok-keys.ensures.moved ∙ ap (λ keys. map (key_for c.args.old.now keys) c.args.new.now) c.as_slice.ensures.value

stays : (c : goal.After-drop-self-inside-2) → (op : OpId) → Contains c.args.new.now op
    → kept_under c.remove_gone.new.outs (key_for c.args.old.now c.self.inside.keys.items op) ≡ kept_under c.self.inside.outs (key_for c.args.old.now c.self.inside.keys.items op)
stays c =
    subst (λ keys. (op : OpId) → Contains c.args.new.now op → kept_under c.remove_gone.new.outs (key_for c.args.old.now keys op) ≡ kept_under c.self.inside.outs (key_for c.args.old.now keys op))
    c.as_slice-2.ensures.value c.remove_gone.ensures.kept

pub invariant_of-self-2 : goal.invariant_of-self-2
invariant_of-self-2 c = (
  subst (λ keys. AreHeld c.remove_gone.new.outs keys) (sym (moved c))
      (held-moved c.args.old.now c.self.inside.keys.items c.self.inside.outs c.remove_gone.new.outs c.args.new.now (stays c) c.self.invariant.0 c.moved_keys.ensures.once),
  omega (arith, ap length (moved c), length-map c.args.new.now (key_for c.args.old.now c.self.inside.keys.items), c.in_ok-spares.ensures.moved),
)

pub returns-clause-ok : goal.returns-clause-ok
returns-clause-ok c =
    ap (map (kept_under c.remove_gone.new.outs)) (moved c)
    ∙ kept-moved c.args.old.now c.self.inside.keys.items c.self.inside.outs c.remove_gone.new.outs c.args.new.now (stays c)
    ∙ ap (λ v. renumbered c.args.old.now c.args.new.now v.kept) c.self.view_is
