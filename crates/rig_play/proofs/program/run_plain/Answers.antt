use Rattle.std.proofs.Common.{◌≡◌, ◌≤◌, ◌∙◌, Some, None, length, inl, inr, refl, subst, sym, ap, arith}
use Rattle.rig_scene.specs.declared.limits.TheConstants.{MAX_INPUT_BYTES}
use Rattle.rig_play.specs.declared.command.Command.TheVariants.{Check, Eval}
use Rattle.rig_play.specs.declared.status.Status.TheVariants as status
use Rattle.rig_play.specs.Input.{contents_for}
use Rattle.rig_play.specs.Run.{CallsFor, built, status_for, text_for, too_long_line, usage_line}
use Rattle.rig_play.proofs.Ends.{checks, plays}
use Rattle.rig_play.proofs.program.run_plain.Goals as goal

pub returns-in-Ok-None-clause-write_fault : goal.returns-in-Ok-None-clause-write_fault
returns-in-Ok-None-clause-write_fault g c =
    λ e. let failed = c.tell.ensures.fault e in
    let none : None ≡ built c.args.words.now = sym c.in-Ok-None.field-0-is ∙ c.in-Ok-None.ensures in
    (failed.0, (usage_line, subst (λ b. CallsFor b (g.S.Source.left c.args.source.now) (g.S.Source.left c.args.source.now) usage_line) none refl, failed.1))

pub returns-in-Ok-clause-ok_eval : goal.returns-in-Ok-clause-ok_eval
returns-in-Ok-clause-ok_eval g c =
    λ ok eval. let bytes = c.in-Ok.bytes.items in
    let command : Some c.in-Ok-Some.command ≡ Some Eval = sym c.in-Ok-Some.field-0-is ∙ (c.in-Ok-Some.ensures ∙ eval) in
    let few : length bytes ≤ MAX_INPUT_BYTES = omega (arith, c.in-Ok.ensures.within, c.in-Ok.bytes.ok.0) in
    let ended = rw c.deref.ensures.value at (c.respond.ensures.ended (λ e. cc) (λ e. cc)) in
    plays c.in-Ok-Some.command _ _ _ _ _ _ bytes command c.in-Ok.ensures.ok few (sym ended.0 ∙ ok) ended.1 ended.2

pub returns-in-Ok-clause-ok_check : goal.returns-in-Ok-clause-ok_check
returns-in-Ok-clause-ok_check g c =
    λ ok check. let bytes = c.in-Ok.bytes.items in
    let command : Some c.in-Ok-Some.command ≡ Some Check = sym c.in-Ok-Some.field-0-is ∙ (c.in-Ok-Some.ensures ∙ check) in
    let few : length bytes ≤ MAX_INPUT_BYTES = omega (arith, c.in-Ok.ensures.within, c.in-Ok.bytes.ok.0) in
    let ended = rw c.deref.ensures.value at (c.respond.ensures.ended (λ e. cc) (λ e. cc)) in
    checks c.in-Ok-Some.command _ _ _ _ _ _ bytes command c.in-Ok.ensures.ok few (sym ended.0 ∙ ok) ended.1 ended.2

pub returns-in-Ok-clause-write_fault : goal.returns-in-Ok-clause-write_fault
returns-in-Ok-clause-write_fault g c =
    λ e. let failed = c.respond.ensures.write_fault e in
    let bytes = c.in-Ok.bytes.items in
    let text = text_for (contents_for c.in-Ok-Some.command bytes) in
    let prefix = rw c.deref.ensures.value at failed.1 in
    let command : Some c.in-Ok-Some.command ≡ built c.args.words.now = sym c.in-Ok-Some.field-0-is ∙ c.in-Ok-Some.ensures in
    let few : length bytes ≤ MAX_INPUT_BYTES = omega (arith, c.in-Ok.ensures.within, c.in-Ok.bytes.ok.0) in
    (failed.0, (text, subst (λ b. CallsFor b (g.S.Source.left c.args.source.now) (g.S.Source.left c.read_all.new.source) text) command (inr (bytes, (c.in-Ok.ensures.ok, few), refl)), prefix))

pub returns-in-Err-TooLong-clause-write_fault : goal.returns-in-Err-TooLong-clause-write_fault
returns-in-Err-TooLong-clause-write_fault g c =
    λ e. let failed = c.tell-in-Err-TooLong.ensures.fault e in
    let command : Some c.in-Ok-Some.command ≡ built c.args.words.now = sym c.in-Ok-Some.field-0-is ∙ c.in-Ok-Some.ensures in
    (failed.0, (too_long_line, subst (λ b. CallsFor b (g.S.Source.left c.args.source.now) (g.S.Source.left c.read_all.new.source) too_long_line) command (inl (c.in-Err-TooLong.ensures.too_long cc, refl)), failed.1))
