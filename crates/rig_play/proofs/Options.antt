-- The argument list of the program has its two number options, and a parse gives each a number in its bounds.
use Rattle.std.proofs.Common.{◌≡◌, ◌∙◌, ◌<◌, ◌++◌, ◌||◌, zero, suc, ap, ℕ, true, false, List, [], ◌∷◌, length, refl, sym, subst, inl, inr, arith, codes, slice_index}
use Rattle.std.specs.List.{All, slice_index_or}
use Rattle.std.specs.Str.{bytes_eq}
use Rattle.std.proofs.lemmas.List.Elements.{All-nil}
use Rattle.clap.proofs.CallerLemmas.{added_plain}
use Rattle.clap.specs.Facts.{args_of, groups_of}
use Rattle.clap.specs.Built.{AddsArg, IsParsedFrom, IsPlain, IsPlainArg, SameRules}
use Rattle.clap.specs.declared.builder.action.ArgAction.TheVariants.{Set}
use Rattle.clap.specs.declared.builder.arg.Arg.{Arg}
use Rattle.clap.specs.declared.builder.command.Command.{Command}
use Rattle.clap.specs.declared.builder.command.Command.TheViews.{out-Command}
use Rattle.clap.specs.declared.parser.matches.ArgMatches.{ArgMatches}
use Rattle.rig_scene.specs.declared.limits.TheConstants.{MAX_WORKERS}
use Rattle.rig_play.specs.declared.command.TheConstants.{MAX_SIZE}
use Rattle.rig_play.specs.Options.{HasNumber, HasOptions, IsNumberOption}
use Rattle.rig_play.proofs.OptionReads.{option_reads}

-- an argument with the same rules is the same option
same_option : (name : List ℕ) (most : ℕ) (a b : Arg) → SameRules a b → IsNumberOption name most a → IsNumberOption name most b
same_option name most a b s o = record {
  id = ap (λ x. x.now) s.id ∙ o.id;
  action = s.action Set o.action;
  delimiter = s.val_delim ∙ o.delimiter;
  least = s.least o.action o.least;
  default = (s.ifs ∙ o.default.0, rw (s.defaults o.default.1) o.default.1);
  parser = s.parser _ o.parser;
  ignore_case = s.ignore_case ∙ o.ignore_case;
}

abbrev IsPlainAlone : Arg → Type 0
IsPlainAlone a = IsPlainArg a × (a.global ≡ false)

-- one more argument that isn't global
still_local : (old new : Command) (a : Arg) → AddsArg old a new → a.global ≡ false → (out-Command old).has_globals ≡ false
    → (out-Command new).has_globals ≡ false
still_local old new a d own before = d.globals ∙ (ap (λ b. b || a.global) before ∙ ap (λ b. false || b) own)

pub has_options : (s c1 c2 c3 c4 : Command) (command workers size trace : Arg)
    → AddsArg s command c1 → AddsArg c1 workers c2 → AddsArg c2 size c3 → AddsArg c3 trace c4
    → args_of s ≡ [] → groups_of s ≡ [] → (out-Command s).has_globals ≡ false
    → command.id.now ≡ codes "command" → IsPlainAlone command
    → IsNumberOption (codes "workers") MAX_WORKERS workers → IsPlainAlone workers
    → IsNumberOption (codes "size") MAX_SIZE size → IsPlainAlone size
    → trace.id.now ≡ codes "trace" → IsPlainAlone trace
    → HasOptions c4
has_options s c1 c2 c3 c4 command workers size trace d1 d2 d3 d4 args groups globals command_id command_plain workers_is workers_plain size_is
    size_plain trace_id trace_plain =
    let start : IsPlain s = (subst (All IsPlainArg) (sym args) (All-nil IsPlainArg), groups) in record {
      command = d1.arg;
      workers = d2.arg;
      size = d3.arg;
      trace = d4.arg;
      args = d4.args ∙ ap (λ l. l ++ d4.arg ∷ []) (d3.args ∙ ap (λ l. l ++ d3.arg ∷ [])
          (d2.args ∙ ap (λ l. l ++ d2.arg ∷ []) (d1.args ∙ ap (λ l. l ++ d1.arg ∷ []) args)));
      command_id = ap (λ x. x.now) d1.rules.id ∙ command_id;
      trace_id = ap (λ x. x.now) d4.rules.id ∙ trace_id;
      workers_option = same_option (codes "workers") MAX_WORKERS workers d2.arg d2.rules workers_is;
      size_option = same_option (codes "size") MAX_SIZE size d3.arg d3.rules size_is;
      plain = added_plain c3 c4 trace d4
          (added_plain c2 c3 size d3 (added_plain c1 c2 workers d2 (added_plain s c1 command d1 start command_plain.0) workers_plain.0) size_plain.0)
          trace_plain.0;
      globals = still_local c3 c4 trace d4 trace_plain.1 (still_local c2 c3 size d3 size_plain.1
          (still_local c1 c2 workers d2 workers_plain.1 (still_local s c1 command d1 command_plain.1 globals)));
    }

module _ (c : Command) (o : HasOptions c) (m : ArgMatches) (p : IsParsedFrom c m) where
  abbrev all : List Arg
  all = o.command ∷ o.workers ∷ o.size ∷ o.trace ∷ []

  abbrev SameId : List ℕ → List ℕ → Type 0
  SameId a b = bytes_eq a b ≡ true

  only_workers : (j : ℕ) (e : Arg) → j < 4 → SameId (slice_index_or all j e).id.now o.workers.id.now → j ≡ 1
  only_workers zero e lt same =
      let bad : false ≡ true = subst (λ i. SameId i (codes "workers")) o.command_id (subst (SameId o.command.id.now) o.workers_option.id same) in cc
  only_workers (suc zero) e lt same = refl
  only_workers (suc (suc zero)) e lt same =
      let bad : false ≡ true = subst (λ i. SameId i (codes "workers")) o.size_option.id (subst (SameId o.size.id.now) o.workers_option.id same) in cc
  only_workers (suc (suc (suc zero))) e lt same =
      let bad : false ≡ true = subst (λ i. SameId i (codes "workers")) o.trace_id (subst (SameId o.trace.id.now) o.workers_option.id same) in cc
  only_workers (suc (suc (suc (suc j)))) e lt same = absurd (omega arith)

  only_size : (j : ℕ) (e : Arg) → j < 4 → SameId (slice_index_or all j e).id.now o.size.id.now → j ≡ 2
  only_size zero e lt same =
      let bad : false ≡ true = subst (λ i. SameId i (codes "size")) o.command_id (subst (SameId o.command.id.now) o.size_option.id same) in cc
  only_size (suc zero) e lt same =
      let bad : false ≡ true = subst (λ i. SameId i (codes "size")) o.workers_option.id (subst (SameId o.workers.id.now) o.size_option.id same) in cc
  only_size (suc (suc zero)) e lt same = refl
  only_size (suc (suc (suc zero))) e lt same =
      let bad : false ≡ true = subst (λ i. SameId i (codes "size")) o.trace_id (subst (SameId o.trace.id.now) o.size_option.id same) in cc
  only_size (suc (suc (suc (suc j)))) e lt same = absurd (omega arith)

  -- an option whose name begins with neither of the letters h and v
  reads : (k : ℕ) (a : Arg) (name : List ℕ) (most : ℕ) → k < 4 → slice_index_or all k a ≡ a
      → ((j : ℕ) (e : Arg) → j < 4 → SameId (slice_index_or all j e).id.now a.id.now → j ≡ k)
      → (slice_index name 0 ≡ 0 → ⊥) → (slice_index name 0 ≡ 104 → ⊥) → (slice_index name 0 ≡ 118 → ⊥)
      → IsNumberOption name most a → HasNumber name most m
  reads k a name most lt at only no_zero no_h no_v option =
      let begins : (t : List ℕ) → a.id.now ≡ t → slice_index name 0 ≡ slice_index t 0 =
      λ t e. ap (λ w. slice_index w 0) (sym option.id ∙ e) in
      let own : IsNumberOption a.id.now most a = subst (λ w. IsNumberOption w most a) (sym option.id) option in
      let read : HasNumber a.id.now most m = option_reads c m p o.plain o.globals k a (subst (λ l. k < length l) (sym o.args) lt)
      (subst (λ l. slice_index_or l k a ≡ a) (sym o.args) at)
      (λ j e low same. only j e (subst (λ l. j < length l) o.args low) (subst (λ l. SameId (slice_index_or l j e).id.now a.id.now) o.args same))
      (λ e. no_zero (begins [] e))
      (λ auto. elim auto [ inl e ↦ no_h (begins _ e) | inr e ↦ no_v (begins _ e) ]) most own in
      subst (λ w. HasNumber w most m) option.id read

  pub workers_read : HasNumber (codes "workers") MAX_WORKERS m
  workers_read = reads 1 o.workers (codes "workers") MAX_WORKERS (omega arith) refl only_workers (λ e. omega (arith, e)) (λ e. omega (arith, e)) (λ e. omega (arith, e)) o.workers_option

  pub size_read : HasNumber (codes "size") MAX_SIZE m
  size_read = reads 2 o.size (codes "size") MAX_SIZE (omega arith) refl only_size (λ e. omega (arith, e)) (λ e. omega (arith, e)) (λ e. omega (arith, e)) o.size_option
