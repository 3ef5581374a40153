use Rattle.std.proofs.Common.{rules, ap, ap₂, codes, true, ◌≡◌, ◌∙◌}
use Rattle.std.proofs.lemmas.Result.{IfOk-weaker}
use Rattle.clap.specs.Simple.{app_of_fields, on_top}
use Rattle.clap.specs.Words.{app_of, new_app, rule_of, with_rule}
use Rattle.rig_play.specs.Command.{app, command_argument, trace_flag}
use Rattle.rig_play.proofs.Options.{has_options}
use Rattle.rig_play.proofs.command.definition.Goals as goal

pub returns-clause-app : goal.returns-clause-app
unfolding app
returns-clause-app c =
    let command_is : rule_of c.required-command.result ≡ command_argument = search rules in
    let trace_is : rule_of c.action-trace.result ≡ trace_flag = search rules in
    let no_help : app_of c.disable_help_flag.result ≡ on_top (λ s. record s { disable_help_flag = true }) (new_app (codes "rigplay")) =
    ap app_of_fields c.disable_help_flag.ensures ∙ ap (on_top (λ s. record s { disable_help_flag = true })) c.new-3.ensures.app in
    let start = ap app_of_fields c.disable_version_flag.ensures ∙ ap (on_top (λ s. record s { disable_version_flag = true })) no_help in
    let one = c.in_ok-arg.ensures.shape (search rules) ∙ ap₂ with_rule start command_is in
    let two = c.in_ok-arg-2.ensures.shape c.number_option-workers.ensures.plain.1 ∙ ap₂ with_rule one c.number_option-workers.ensures.rule in
    let three = c.in_ok-arg-3.ensures.shape c.number_option-size.ensures.plain.1 ∙ ap₂ with_rule two c.number_option-size.ensures.rule in
    IfOk-weaker c.arg-4.result _ _ (λ r added. added.shape (search rules) ∙ ap₂ with_rule three trace_is) c.arg-4.ensures

pub returns-clause-options : goal.returns-clause-options
returns-clause-options c =
    IfOk-weaker c.arg-4.result _ _ (λ r added.
    has_options _ _ _ _ r _ _ _ _ c.in_ok-arg.ensures c.in_ok-arg-2.ensures c.in_ok-arg-3.ensures added
    (ap (λ f. f.args.items) c.disable_version_flag.ensures ∙ (ap (λ f. f.args.items) c.disable_help_flag.ensures ∙ c.new-3.ensures.empty.0)) (ap (λ f. f.groups.items) c.disable_version_flag.ensures ∙ (ap (λ f. f.groups.items) c.disable_help_flag.ensures ∙ c.new-3.ensures.empty.1))
    (ap (λ f. f.has_globals) c.disable_version_flag.ensures ∙ (ap (λ f. f.has_globals) c.disable_help_flag.ensures ∙ c.new-3.ensures.local))
    (search rules) (search rules, search rules)
    c.number_option-workers.ensures.option c.number_option-workers.ensures.plain
    c.number_option-size.ensures.option c.number_option-size.ensures.plain
    (search rules) (search rules, search rules)) c.arg-4.ensures
