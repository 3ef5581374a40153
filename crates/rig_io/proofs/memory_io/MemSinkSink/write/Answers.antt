use Rattle.std.proofs.Common.{arith, ◌≡◌, ◌<◌, ◌||◌, nat_le, length, subst, sym, ◌∙◌, false}
use Rattle.rig_io.specs.Memory.{SinkState, is_named}
use Rattle.rig_io.proofs.Buffers.{neither, not_true}
use Rattle.rig_io.proofs.memory_io.MemSinkSink.write.Goals as goal

pub returns-clause-fails : goal.returns-clause-fails
returns-clause-fails c =
    let e : is_named c.self.inside.fails.items c.self.inside.calls ≡ false =
    sym (rw c.deref.ensures.value at c.contains.ensures.value) ∙ c.if-contains.false in
    let fits : length c.self.inside.bytes.items < c.self.inside.room = omega (arith, c.self.inside.bytes.ok.0) in
    let none = neither _ c.self.inside.room (length c.self.inside.bytes.items) e fits in (
      (λ h. cc),
      (λ h. not_true _
          (subst
          (λ (s : SinkState). (is_named s.fails s.calls || nat_le s.room (length s.written)) ≡ false)
          c.self.view_is none)
          _ h),
    )
