-- What a step of an edit finds, and what it refuses.
use Rattle.std.proofs.Common.{◌≡◌, ℕ, ◌<◌, Bool, true, false, cond, List, length, None, Some, nat_lt, refl, ap, ◌∙◌, MatchOption, Option, Result, Ok, Err, sym}
use Rattle.std.specs.List.{position, position_or_len}
use Rattle.std.proofs.lemmas.List.Folds.{find_at}
use Rattle.std.proofs.lemmas.Option.{slice_get_past}
use Rattle.std.proofs.lemmas.Bool.{ltb-true, ltb-false}
use Rattle.rig_scene.specs.Found.{some_slice_get}
use Rattle.rig_edits.specs.Steps.{FoundAt, FoundNowhere, Finds}
use Rattle.std.specs.Result.{IsErrAnd}
use Rattle.rig_edits.specs.declared.cause.EditCause.{EditCause}

-- the first that passes, or none
module _ {A : Type 0} (test : A → Bool) (xs : List A) where
  abbrev first : ℕ
  first = position_or_len test xs

  found_by : (passes : Bool) → nat_lt first (length xs) ≡ passes → MatchOption (cond passes (Some first) None) (FoundNowhere test xs) (FoundAt test xs)
  found_by true e =
      let within : first < length xs = ltb-true first (length xs) e in
      let some = some_slice_get xs first within in
      record {
        element = some.0;
        is_at = some.1;
        is_found = find_at test xs ∙ some.1;
        is_position = ap (λ b. cond b (Some first) None) e;
        within = within;
      }
  found_by false e = record {
    is_found = find_at test xs ∙ slice_get_past xs first (ltb-false first (length xs) e);
    is_position = ap (λ b. cond b (Some first) None) e;
  }

  pub found : MatchOption (position test xs) (FoundNowhere test xs) (FoundAt test xs)
  found = found_by (nat_lt first (length xs)) refl

-- what is refused by a step's cause
pub refused : {T : Type 0} (r : Result T EditCause) (cause : Option EditCause) (stop : EditCause) (P : T → Type 0) → IsErrAnd r (λ e. e ≡ stop)
    → cause ≡ Some stop → Finds r cause P
refused (Ok x) cause stop P e is = absurd e
refused (Err e) cause stop P same is = is ∙ ap Some (sym same)
