-- The traces of the examples, mark by mark.
use Rattle.std.specs.Prelude.{Contains}
use Rattle.std.proofs.Common.{◌≡◌, ◌⊎◌, inl, inr, ℕ, zero, suc, ◌<◌, List, [], ◌∷◌, ◌++◌, length, get_or, refl, sym, ap, subst, arith}
use Rattle.rig_pending.specs.declared.mark.Mark.{Mark}
use Rattle.rig_pending.specs.declared.mark.Mark.TheVariants.{Start, Finish}
use Rattle.rig_pending.specs.Ordered.{operation, StandsOnce, StandsBefore, IsOrdered}

-- ---- marks that differ

starts_only : (m n : ℕ) → Start m ≡ Finish n → ⊥
starts_only m n e = cc

finishes_only : (m n : ℕ) → Finish m ≡ Start n → ⊥
finishes_only m n e = cc

-- marks of one kind and of two operations
other_operation : (a b : Mark) → operation a ≡ 0 → operation b ≡ 1 → a ≡ b → ⊥
other_operation a b zeroth first e = let same : operation a ≡ operation b = ap operation e in omega arith

absent_end : (mark : Mark) → Contains [] mark → ⊥
absent_end mark e = let l : e.0 < 0 = e.1 in omega arith

absent_more : (x mark : Mark) (xs : List Mark) → (x ≡ mark → ⊥) → (Contains xs mark → ⊥) → Contains (x ∷ xs) mark → ⊥
absent_more x mark xs differs absent e = by e.0 e.1 e.2
  where
    by : (k : ℕ) → k < length (x ∷ xs) → get_or (x ∷ xs) k mark ≡ mark → ⊥
    by zero l is = differs is
    by (suc k) l is = absent (k, omega arith, is)

-- ---- the operations 0 and 1

abbrev both : List ℕ
both = 0 ∷ 1 ∷ []

number_cases : (n : ℕ) → Contains both n → (n ≡ 0) ⊎ (n ≡ 1)
number_cases n e = by e.0 e.1 e.2
  where
    by : (k : ℕ) → k < length both → get_or both k n ≡ n → (n ≡ 0) ⊎ (n ≡ 1)
    by zero l is = inl (sym is)
    by (suc zero) l is = inr (sym is)
    by (suc (suc k)) l is = absurd (omega arith)

abbrev needs : ℕ → ℕ → Type 0
needs n source = (n ≡ 1) × (source ≡ 0)

abbrev ordered_trace : List Mark
ordered_trace = Start 0 ∷ Finish 0 ∷ Start 1 ∷ Finish 1 ∷ []

once-start : (n : ℕ) → (n ≡ 0) ⊎ (n ≡ 1) → StandsOnce ordered_trace (Start n)
once-start n (inl e) = subst (λ m. StandsOnce ordered_trace (Start m)) (sym e) (record {
  before = [];
  after = Finish 0 ∷ Start 1 ∷ Finish 1 ∷ [];
  trace_is = refl;
  not_before = absent_end (Start 0);
  not_after = absent_more (Finish 0) (Start 0) (Start 1 ∷ Finish 1 ∷ []) (finishes_only 0 0)
      (absent_more (Start 1) (Start 0) (Finish 1 ∷ []) (λ e. other_operation (Start 0) (Start 1) refl refl (sym e))
      (absent_more (Finish 1) (Start 0) [] (finishes_only 1 0) (absent_end (Start 0))));
})
once-start n (inr e) = subst (λ m. StandsOnce ordered_trace (Start m)) (sym e) (record {
  before = Start 0 ∷ Finish 0 ∷ [];
  after = Finish 1 ∷ [];
  trace_is = refl;
  not_before = absent_more (Start 0) (Start 1) (Finish 0 ∷ []) (other_operation (Start 0) (Start 1) refl refl)
      (absent_more (Finish 0) (Start 1) [] (finishes_only 0 1) (absent_end (Start 1)));
  not_after = absent_more (Finish 1) (Start 1) [] (finishes_only 1 1) (absent_end (Start 1));
})

once-finish : (n : ℕ) → (n ≡ 0) ⊎ (n ≡ 1) → StandsOnce ordered_trace (Finish n)
once-finish n (inl e) = subst (λ m. StandsOnce ordered_trace (Finish m)) (sym e) (record {
  before = Start 0 ∷ [];
  after = Start 1 ∷ Finish 1 ∷ [];
  trace_is = refl;
  not_before = absent_more (Start 0) (Finish 0) [] (starts_only 0 0) (absent_end (Finish 0));
  not_after = absent_more (Start 1) (Finish 0) (Finish 1 ∷ []) (starts_only 1 0)
      (absent_more (Finish 1) (Finish 0) [] (λ e. other_operation (Finish 0) (Finish 1) refl refl (sym e)) (absent_end (Finish 0)));
})
once-finish n (inr e) = subst (λ m. StandsOnce ordered_trace (Finish m)) (sym e) (record {
  before = Start 0 ∷ Finish 0 ∷ Start 1 ∷ [];
  after = [];
  trace_is = refl;
  not_before = absent_more (Start 0) (Finish 1) (Finish 0 ∷ Start 1 ∷ []) (starts_only 0 1)
      (absent_more (Finish 0) (Finish 1) (Start 1 ∷ []) (other_operation (Finish 0) (Finish 1) refl refl)
      (absent_more (Start 1) (Finish 1) [] (starts_only 1 1) (absent_end (Finish 1))));
  not_after = absent_end (Finish 1);
})

run : (n : ℕ) → (n ≡ 0) ⊎ (n ≡ 1) → StandsBefore ordered_trace (Start n) (Finish n)
run n (inl e) = subst (λ m. StandsBefore ordered_trace (Start m) (Finish m)) (sym e)
    (record { before = []; between = []; after = Start 1 ∷ Finish 1 ∷ []; trace_is = refl })
run n (inr e) = subst (λ m. StandsBefore ordered_trace (Start m) (Finish m)) (sym e)
    (record { before = Start 0 ∷ Finish 0 ∷ []; between = []; after = []; trace_is = refl })

of_the_two : (mark : Mark) → Contains ordered_trace mark → Contains both (operation mark)
of_the_two mark e = by e.0 e.1 e.2
  where
    by : (k : ℕ) → k < length ordered_trace → get_or ordered_trace k mark ≡ mark → Contains both (operation mark)
    by zero l is = subst (λ m. Contains both (operation m)) is (0, omega arith, refl)
    by (suc zero) l is = subst (λ m. Contains both (operation m)) is (0, omega arith, refl)
    by (suc (suc zero)) l is = subst (λ m. Contains both (operation m)) is (1, omega arith, refl)
    by (suc (suc (suc zero))) l is = subst (λ m. Contains both (operation m)) is (1, omega arith, refl)
    by (suc (suc (suc (suc k)))) l is = absurd (omega arith)

-- operation 1 starts behind the finish of operation 0
behind : (n source : ℕ) → needs n source → StandsBefore ordered_trace (Finish source) (Start n)
behind n source e =
    subst (λ m. StandsBefore ordered_trace (Finish source) (Start m)) (sym e.0)
    (subst (λ m. StandsBefore ordered_trace (Finish m) (Start 1)) (sym e.1) (record { before = Start 0 ∷ []; between = []; after = Finish 1 ∷ []; trace_is = refl }))

pub in_order : IsOrdered needs both ordered_trace
in_order = record {
  starts = λ n e. once-start n (number_cases n e);
  finishes = λ n e. once-finish n (number_cases n e);
  others = of_the_two;
  runs = λ n e. run n (number_cases n e);
  sources = λ n source e f needed. behind n source needed;
}

-- ---- operation 1 starts too early

abbrev early_trace : List Mark
early_trace = Start 0 ∷ Start 1 ∷ Finish 0 ∷ Finish 1 ∷ []

first : List Mark → Mark
first [] = Start 0
first (mark ∷ marks) = mark

rest : List Mark → List Mark
rest [] = []
rest (mark ∷ marks) = marks

nothing : (before : List Mark) (mark : Mark) (after : List Mark) → [] ≡ before ++ mark ∷ after → ⊥
nothing [] mark after e = cc
nothing (x ∷ before) mark after e = cc

no_start : (between after : List Mark) → Finish 1 ∷ [] ≡ between ++ Start 1 ∷ after → ⊥
unfolding first rest
no_start [] after e = finishes_only 1 1 (ap first e)
no_start (x ∷ between) after e = nothing between (Start 1) after (ap rest e)

not_behind : (before between after : List Mark) → early_trace ≡ before ++ Finish 0 ∷ (between ++ Start 1 ∷ after) → ⊥
unfolding first rest
not_behind [] between after e = starts_only 0 0 (ap first e)
not_behind (x ∷ []) between after e = starts_only 1 0 (ap (λ l. first (rest l)) e)
not_behind (x ∷ y ∷ []) between after e = no_start between after (ap (λ l. rest (rest (rest l))) e)
not_behind (x ∷ y ∷ z ∷ []) between after e = other_operation (Finish 0) (Finish 1) refl refl (sym (ap (λ l. first (rest (rest (rest l)))) e))
not_behind (x ∷ y ∷ z ∷ w ∷ before) between after e = nothing before (Finish 0) (between ++ Start 1 ∷ after) (ap (λ l. rest (rest (rest (rest l)))) e)

pub not_in_order : IsOrdered needs both early_trace → ⊥
not_in_order ordered =
    let stands = ordered.sources 1 0 (1, omega arith, refl) (0, omega arith, refl) (refl, refl) in
    not_behind stands.before stands.between stands.after stands.trace_is
