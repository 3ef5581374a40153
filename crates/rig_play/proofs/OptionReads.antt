-- An option that has a default has a text after a parse, which its parser took.
use Rattle.std.proofs.Common.{◌≡◌, ◌∙◌, ◌<◌, zero, suc, ap, ℕ, Bool, true, false, List, [], ◌∷◌, length, Some, refl, sym, subst, inl, inr, arith}
use Rattle.std.specs.List.{All, slice_index_or}
use Rattle.std.specs.Str.{bytes_eq}
use Rattle.std.specs.Borrow.{Bor}
use Rattle.std.specs.Prelude.{find, option_map, pos, slice_get}
use Rattle.std.proofs.lemmas.Slice.Eq.{bytes_eq-Decides}
use Rattle.std.proofs.lemmas.List.Elements.{All-get_or}
use Rattle.clap.proofs.CallerLemmas.{default_present, entry_by_id, same_rules_by_id}
use Rattle.clap.specs.Facts.{Entry, EntryPasses, HasIn, PassesArg, WantsDefault, args_of, groups_of, parser_of, parser_of_value}
use Rattle.clap.specs.Built.{IsAuto, IsParsedFrom, IsPlain, SameRules}
use Rattle.clap.specs.Matches.{found_of, matched_of, one_text}
use Rattle.clap.specs.Values.{Accepts, read_as, reading_of}
use Rattle.clap.specs.declared.builder.action.ArgAction.TheVariants.{Count, Set}
use Rattle.clap.specs.declared.builder.arg.Arg.{Arg}
use Rattle.clap.specs.declared.builder.command.Command.{Command}
use Rattle.clap.specs.declared.builder.command.Command.TheViews.{out-Command}
use Rattle.clap.specs.declared.builder.value_parser.Reading.{Reading}
use Rattle.clap.specs.declared.builder.value_parser.ValueParser.{ValueParser}
use Rattle.clap.specs.declared.builder.value_parser.ValueParser.TheVariants.{Signed}
use Rattle.clap.specs.declared.parser.matches.ArgMatches.{ArgMatches}
use Rattle.clap.specs.declared.parser.matches.Found.{Found}
use Rattle.clap.specs.declared.parser.matches.MatchedArg.{MatchedArg}
use Rattle.rig_play.specs.Options.{HasNumber, IsNumberOption}

-- the first entry of an id that has one
entry_of : (xs : List Entry) (id : List ℕ) → HasIn xs id
    → (a : MatchedArg) × (option_map (λ e. e.1) (find (λ e. bytes_eq e.0.now id) xs) ≡ Some a)
entry_of [] id h = absurd (omega (arith, h.1))
entry_of (x ∷ xs) id h = go (bytes_eq x.0.now id) refl (λ (i : ℕ) lt at. entry_of xs id (i, lt, at)) h.0 h.1 h.2
  where
    go : (t : Bool) → bytes_eq x.0.now id ≡ t
        → ((i : ℕ) → i < length xs → ((d : Entry) → bytes_eq (slice_index_or xs i d).0.now id ≡ true)
        → (a : MatchedArg) × (option_map (λ e. e.1) (find (λ e. bytes_eq e.0.now id) xs) ≡ Some a))
        → (i : ℕ) → i < length (x ∷ xs) → ((d : Entry) → bytes_eq (slice_index_or (x ∷ xs) i d).0.now id ≡ true)
        → (a : MatchedArg) × (option_map (λ e. e.1) (find (λ e. bytes_eq e.0.now id) (x ∷ xs)) ≡ Some a)
    go true t rest i lt at = (x.1, rw t refl)
    go false t rest zero lt at = let bad : false ≡ true = sym t ∙ at x in cc
    go false t rest (suc i) lt at = let got = rest i (omega arith) at in (got.0, rw t got.1)

-- the text that is read of an entry with a first value
text_of : (f : Found) (id : List ℕ) (a : MatchedArg) (how : Reading) (v : Bor (List ℕ)) → matched_of f id ≡ Some a → a.reading ≡ how
    → slice_get a.vals.items 0 ≡ Some v → one_text f id ≡ Some (read_as how v.now)
text_of f id a how v found reading first = rw (found, first, reading) refl

-- the first of the values, which all pass
first_of_all : (P : Bor (List ℕ) → Type 0) (vs : List (Bor (List ℕ))) → 0 < length vs → All P vs
    → (v : Bor (List ℕ)) × (slice_get vs 0 ≡ Some v) × P v
first_of_all P [] lt all = absurd (omega arith)
first_of_all P (v ∷ vs) lt all = (v, refl, All-get_or P (v ∷ vs) 0 v (omega arith) all)

module _ (c : Command) (m : ArgMatches) (p : IsParsedFrom c m) (plain : IsPlain c) (globals : (out-Command c).has_globals ≡ false)
    (k : ℕ) (a : Arg) (lt : k < length (args_of c)) (at : slice_index_or (args_of c) k a ≡ a)
    (unique : (j : ℕ) (e : Arg) → j < length (args_of c) → bytes_eq (slice_index_or (args_of c) j e).id.now a.id.now ≡ true → j ≡ k)
    (named : a.id.now ≡ [] → ⊥) (own : IsAuto a → ⊥) (most : ℕ) (option : IsNumberOption a.id.now most a) where
  -- an argument of the built command with the option's id keeps its rules
  kept : (j : ℕ) (x : Arg) → j < length (args_of p.built) → slice_index_or (args_of p.built) j x ≡ x → bytes_eq x.id.now a.id.now ≡ true
      → SameRules a x
  kept j x high is same = subst (λ (y : Arg). SameRules y x) at (same_rules_by_id c m p k a lt
      (λ j e low eq. unique j e low (subst (λ (y : Arg). bytes_eq (slice_index_or (args_of c) j e).id.now y.id.now ≡ true) at eq))
      (λ auto. own (subst IsAuto at auto)) j x high is (subst (λ (y : Arg). bytes_eq x.id.now y.id.now ≡ true) (sym at) same))

  no_groups : groups_of p.built ≡ []
  no_groups = (p.from.plain plain).1

  taken_by : (x : Arg) (t : List ℕ) → SameRules a x → Accepts x.ignore_case (parser_of x) t → Accepts false (Signed (pos 1) (pos most)) t
  taken_by x t s passes =
      let is : parser_of x ≡ Signed (pos 1) (pos most) = ap parser_of_value (s.parser _ option.parser) in
      let taken : Accepts x.ignore_case (Signed (pos 1) (pos most)) t = subst (λ (q : ValueParser). Accepts x.ignore_case q t) is passes in
      subst (λ (b : Bool). Accepts b (Signed (pos 1) (pos most)) t) (s.ignore_case ∙ option.ignore_case) taken

  entry_read : (e : Entry) → e.0.now ≡ a.id.now → matched_of (found_of m) a.id.now ≡ Some e.1 → EntryPasses p.built e → HasNumber a.id.now most m
  entry_read e key found pass =
      let no_group : e.1.is_group ≡ true → ⊥ = λ g. elim (pass.3 g) [
        | inl empty ↦ named (sym key ∙ empty)
        | inr lots ↦ let bad : 0 < 0 = rw no_groups at lots in absurd (omega arith)
      ] in
      let same : (j : ℕ) (x : Arg) → j < length (args_of p.built) → slice_index_or (args_of p.built) j x ≡ x
      → bytes_eq x.id.now e.0.now ≡ true → SameRules a x = λ j x high is eq.
      kept j x high is (subst (λ (w : List ℕ). bytes_eq x.id.now w ≡ true) key eq) in
      let filled : 0 < length e.1.vals.items = elim pass.1 [
        | inl g ↦ absurd (no_group g.0)
        | inr (inl some) ↦ some
        | inr (inr (inl h)) ↦
            let s = same h.1.0 h.1.1 h.1.2 h.1.3 h.1.4.0 in
            let bad : Set ≡ Count = rw (s.action Set option.action) at h.1.4.1 in
            cc
        | inr (inr (inr h)) ↦
            let s = same h.0 h.1 h.2 h.3 h.4.0 in
            elim h.4.1 [
              | inl none ↦ let one = s.least option.action option.least in absurd (omega arith)
              | inr has ↦ let bad : false ≡ true = rw (s.val_delim, option.delimiter) at has in cc
            ]
      ] in
      let values : All (λ v. PassesArg p.built e.0.now v.now) e.1.vals.items = elim pass.0 [
        | inl g ↦ absurd (no_group g)
        | inr all ↦ all
      ] in
      let reading : e.1.reading ≡ reading_of (Signed (pos 1) (pos most)) = elim pass.4 [
        | inl g ↦ absurd (no_group g)
        | inr h ↦
            let s = same h.0 h.1 h.2 h.3 h.4.0 in
            sym h.4.1 ∙ ap (λ o. reading_of (parser_of_value o)) (s.parser _ option.parser)
      ] in
      let first = first_of_all (λ v. PassesArg p.built e.0.now v.now) e.1.vals.items filled values in
      record {
        text = first.0.now;
        found = text_of (found_of m) a.id.now e.1 (reading_of (Signed (pos 1) (pos most))) first.0 found reading first.1;
        passes = let any = first.2 in taken_by any.1 first.0.now (same any.0 any.1 any.2 any.3 any.4.0) any.4.1;
      }

  -- the option has a number in its bounds
  pub option_reads : HasNumber a.id.now most m
  option_reads =
      let parsed = p.parsed (p.from.globals ∙ globals) in
      let has = subst (λ (y : Arg). HasIn (found_of m).entries.items y.id.now) at
      (default_present c m p globals k a lt (subst (λ (y : Arg). WantsDefault y) (sym at) option.default)) in
      let entry = entry_of (found_of m).entries.items a.id.now has in
      let got = entry_by_id (EntryPasses p.built) (found_of m).entries.items a.id.now entry.0 parsed.values entry.1 in
      entry_read got.0 ((bytes_eq-Decides got.0.0.now a.id.now).0 got.2) (entry.1 ∙ ap Some (sym got.1)) got.3
