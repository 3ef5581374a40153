-- The marks of numbered operations that run one after the other are a trace in order, where each needs earlier ones alone.
use Rattle.std.specs.Prelude.{◌≡◌, ◌≢◌, ℕ, List, [], ◌∷◌, ◌++◌, Contains}
use Rattle.std.proofs.Common.{refl, sym, ap, ◌∙◌, subst, ⊎_elim}
use Rattle.std.proofs.lemmas.Grind.{flat_map-append}
use Rattle.std.proofs.lemmas.List.{append_assoc}
use Rattle.std.proofs.lemmas.List.Elements.{All-contains, Contains-append_right, Contains-push_cases}
use Rattle.rig_cycles.specs.Elements.{element_first, element_cases, element_none}
use Rattle.rig_laws.specs.Lists.{element_of_flat_map}
use Rattle.rig_pending.specs.declared.mark.Mark.{Mark}
use Rattle.rig_pending.specs.declared.mark.Mark.TheVariants.{Start, Finish}
use Rattle.rig_pending.specs.Ordered.{operation, StandsOnce, StandsBefore, IsOrdered}
use Rattle.rig_scene.specs.Pairs.{NoneTwice, AllPairs-head, AllPairs-tail}
use Rattle.rig_flush.specs.Evaluation.{marks_of}

-- ---- where an element stands

-- the elements before an element, and those behind it
pub split_at : {X : Type 0} (xs : List X) (x : X) → Contains xs x → (before : List X) × (after : List X) × (xs ≡ before ++ x ∷ after)
split_at [] x e = absurd (element_none x e)
split_at (y ∷ ys) x e = ⊎_elim
    (λ s. ([], ys, ap (λ z. z ∷ ys) s))
    (λ c. let later = split_at ys x c in (y ∷ later.0, later.1, ap (λ l. y ∷ l) later.2))
    (element_cases y ys x e)

module _ {X : Type 0} where
  pub apart_before : (before after : List X) (x : X) → NoneTwice (before ++ x ∷ after) → Contains before x → ⊥
  apart_before [] after x once e = element_none x e
  apart_before (y ∷ before) after x once e = ⊎_elim
      (λ s. All-contains (λ z. y ≢ z) (before ++ x ∷ after) x (AllPairs-head (λ x y. x ≢ y) y (before ++ x ∷ after) once)
      (Contains-append_right before (x ∷ after) x (element_first x after)) s)
      (λ c. apart_before before after x (AllPairs-tail (λ x y. x ≢ y) y (before ++ x ∷ after) once) c)
      (element_cases y before x e)

  pub apart_after : (before after : List X) (x : X) → NoneTwice (before ++ x ∷ after) → Contains after x → ⊥
  apart_after [] after x once e = All-contains (λ z. x ≢ z) after x (AllPairs-head (λ x y. x ≢ y) x after once) e refl
  apart_after (y ∷ before) after x once e = apart_after before after x (AllPairs-tail (λ x y. x ≢ y) y (before ++ x ∷ after) once) e

-- ---- marks

-- a mark of numbers is that of one of them
mark_of_one : (numbers : List ℕ) (mark : Mark) → Contains (marks_of numbers) mark → Contains numbers (operation mark)
mark_of_one numbers mark e =
    let of = element_of_flat_map (λ n. Start n ∷ Finish n ∷ []) numbers mark e in
    subst (λ n. Contains numbers n) (by of.0 of.2) of.1
  where
    by : (n : ℕ) → Contains (Start n ∷ Finish n ∷ []) mark → n ≡ operation mark
    by n c = ⊎_elim (λ s. ap operation s)
        (λ later. ⊎_elim (λ s. ap operation s) (λ rest. absurd (element_none mark rest)) (element_cases (Finish n) [] mark later))
        (element_cases (Start n) (Finish n ∷ []) mark c)

marks_apart : (n : ℕ) → Finish n ≢ Start n
marks_apart n e = cc

-- the marks around those of one number
pub marks_around : (numbers before after : List ℕ) (n : ℕ) → numbers ≡ before ++ n ∷ after
    → marks_of numbers ≡ marks_of before ++ Start n ∷ (Finish n ∷ marks_of after)
marks_around numbers before after n is = ap marks_of is ∙ flat_map-append (λ n. Start n ∷ Finish n ∷ []) before (n ∷ after)

module _ (numbers before after : List ℕ) (n : ℕ) (is : numbers ≡ before ++ n ∷ after) where
  runs_at : StandsBefore (marks_of numbers) (Start n) (Finish n)
  runs_at = record { before = marks_of before; between = []; after = marks_of after; trace_is = marks_around numbers before after n is }

  -- an operation that stands earlier has finished
  source_at : (source : ℕ) → Contains before source → StandsBefore (marks_of numbers) (Finish source) (Start n)
  source_at source e =
      let around = split_at before source e in
      let rest = Start n ∷ (Finish n ∷ marks_of after) in
      record {
        before = marks_of around.0 ++ Start source ∷ [];
        between = marks_of around.1;
        after = Finish n ∷ marks_of after;
        trace_is =
            marks_around numbers before after n is
            ∙ ap (λ l. l ++ rest) (marks_around before around.0 around.1 source around.2)
            ∙ append_assoc (marks_of around.0) (Start source ∷ (Finish source ∷ marks_of around.1)) rest
            ∙ sym (append_assoc (marks_of around.0) (Start source ∷ []) (Finish source ∷ (marks_of around.1 ++ rest)));
      }

  module _ (once : NoneTwice numbers) where
    not_before : Contains before n → ⊥
    not_before = apart_before before after n (subst (λ l. NoneTwice l) is once)

    not_after : Contains after n → ⊥
    not_after = apart_after before after n (subst (λ l. NoneTwice l) is once)

    starts_once : StandsOnce (marks_of numbers) (Start n)
    starts_once = record {
      before = marks_of before;
      after = Finish n ∷ marks_of after;
      trace_is = marks_around numbers before after n is;
      not_before = λ e. not_before (mark_of_one before (Start n) e);
      not_after = λ e. ⊎_elim
          (marks_apart n)
          (λ later. not_after (mark_of_one after (Start n) later))
          (element_cases (Finish n) (marks_of after) (Start n) e);
    }

    finishes_once : StandsOnce (marks_of numbers) (Finish n)
    finishes_once = record {
      before = marks_of before ++ Start n ∷ [];
      after = marks_of after;
      trace_is = marks_around numbers before after n is ∙ sym (append_assoc (marks_of before) (Start n ∷ []) (Finish n ∷ marks_of after));
      not_before = λ e. ⊎_elim
          (λ earlier. not_before (mark_of_one before (Finish n) earlier))
          (λ s. marks_apart n (sym s))
          (Contains-push_cases (marks_of before) (Start n) (Finish n) e);
      not_after = λ e. not_after (mark_of_one after (Finish n) e);
    }

-- ---- in order

-- what one of some numbers needs of them stands before it
abbrev pub NeedsEarlier : (ℕ → ℕ → Type 0) → List ℕ → Type 0
NeedsEarlier needs numbers =
    (before after : List ℕ) (n source : ℕ) → numbers ≡ before ++ n ∷ after
    → Contains numbers source → needs n source → Contains before source

-- numbers of which each needs earlier ones alone run in order one after the other
pub marks_in_order : (needs : ℕ → ℕ → Type 0) (numbers : List ℕ) → NoneTwice numbers → NeedsEarlier needs numbers
    → IsOrdered needs numbers (marks_of numbers)
marks_in_order needs numbers once earlier = record {
  starts = λ n e. let at = split_at numbers n e in starts_once numbers at.0 at.1 n at.2 once;
  finishes = λ n e. let at = split_at numbers n e in finishes_once numbers at.0 at.1 n at.2 once;
  others = mark_of_one numbers;
  runs = λ n e. let at = split_at numbers n e in runs_at numbers at.0 at.1 n at.2;
  sources = λ n source e there need.
      let at = split_at numbers n e in
      source_at numbers at.0 at.1 n at.2 source (earlier at.0 at.1 n source at.2 there need);
}
