use Rattle.std.proofs.Common.{◌+◌, ◌++◌, drop, sym, ap, ◌∙◌, append_assoc}
use Rattle.std.specs.List.{flat_map}
use Rattle.rig_play.proofs.Sinks.{appended_both, prefix_of_all, flat_map-drop}
use Rattle.rig_play.proofs.program.write_each.Goals as goal

pub returns-in-Err-clause-err : goal.returns-in-Err-clause-err
returns-in-Err-clause-err g c =
    let item = c.text-item.result in
    let i = c.loop-text.text-index in
    let texts = c.args.texts.now in
    let inv = c.loop-text.invariant.written in
    let rest = flat_map-drop (λ t. t.items) texts i item c.loop-text-test.true c.text-item.is in
    let prefix = rw c.deref.ensures.value at c.in-Err.ensures.err in
    prefix_of_all _ _ _ inv.0 item.items (flat_map (λ t. t.items) (drop (i + 1) texts)) _ inv.1 prefix (ap (λ t. inv.0 ++ t) (sym rest) ∙ inv.2)

pub loop-text-preserved : goal.loop-text-preserved
loop-text-preserved g c =
    let item = c.text-item.result in
    let i = c.loop-text.text-index in
    let texts = c.args.texts.now in
    let inv = c.loop-text.invariant.written in
    let rest = flat_map-drop (λ t. t.items) texts i item c.loop-text-test.true c.text-item.is in
    let whole = rw c.deref.ensures.value at c.in-Ok.ensures.ok in
    record {
      written = (
        inv.0 ++ item.items,
        appended_both _ _ _ inv.0 item.items inv.1 whole,
        append_assoc inv.0 item.items (flat_map (λ t. t.items) (drop (i + 1) texts)) ∙ ap (λ t. inv.0 ++ t) (sym rest) ∙ inv.2,
      );
      faults = c.in-Ok.ensures.no_fault ∙ c.loop-text.invariant.faults;
    }
