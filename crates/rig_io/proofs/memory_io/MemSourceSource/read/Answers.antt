use Rattle.std.proofs.Common.{drop, ◌+◌, ◌≡◌, refl, ap, subst, sym, ◌∙◌, false}
use Rattle.rig_io.specs.Memory.{SourceState, is_named}
use Rattle.rig_io.proofs.Buffers.{piece_and_rest, not_true}
use Rattle.rig_io.proofs.memory_io.MemSourceSource.read.Goals as goal

pub returns-clause-gave : goal.returns-clause-gave
returns-clause-gave c = (
  drop (c.self.inside.at + c.min-n.result) c.self.inside.bytes.items,
  piece_and_rest _ _ _ _ _ (ap (λ s. s.left) c.self.view_is)
      (rw c.deref-2.ensures.value at c.copy_piece.ensures.prefix),
  refl,
)

pub returns-clause-fails : goal.returns-clause-fails
returns-clause-fails c =
    let e : is_named c.self.inside.fails.items c.self.inside.calls ≡ false =
    sym (rw c.deref.ensures.value at c.contains.ensures.value) ∙ c.if-contains.false in
    ((λ h. cc), (λ h. not_true _ (subst (λ (s : SourceState). is_named s.fails s.calls ≡ false) c.self.view_is e) _ h))

pub returns-then-n-eq0-clause-fails : goal.returns-then-n-eq0-clause-fails
returns-then-n-eq0-clause-fails c =
    let e : is_named c.self.inside.fails.items c.self.inside.calls ≡ false =
    sym (rw c.deref.ensures.value at c.contains.ensures.value) ∙ c.if-contains.false in
    ((λ h. cc), (λ h. not_true _ (subst (λ (s : SourceState). is_named s.fails s.calls ≡ false) c.self.view_is e) _ h))
