-- Elements that are added one after the other, each unless it is there, are all added where none stands twice.
use Rattle.std.specs.Prelude.{◌≡◌, ℕ, ◌+◌, ◌<◌, List, [], ◌∷◌, ◌++◌, length, drop, Bool, true, false, Contains, if◌then◌else◌}
use Rattle.std.proofs.Common.{get_or, sym, ap, subst, ◌∙◌}
use Rattle.std.proofs.lemmas.Bool.{false_from_ne_true}
use Rattle.std.proofs.lemmas.List.{at_drop_more, append_assoc}
use Rattle.rig_flush.specs.MarksInOrder.{apart_before}
use Rattle.rig_scene.specs.Pairs.{NoneTwice}

module _ {X : Type 0} (is_in : List X → X → Bool) (listed : (xs : List X) (x : X) → is_in xs x ≡ true → Contains xs x) where
  -- what is there and what is to come is all of it, after an element more as well
  pub added_once : (xs items all : List X) (i : ℕ) (d : X) → i < length items → NoneTwice all → xs ++ drop i items ≡ all
      → (if is_in xs (get_or items i d) then xs else xs ++ get_or items i d ∷ []) ++ drop (i + 1) items ≡ all
  added_once xs items all i d l once is =
      ap (λ b. (if b then xs else xs ++ x ∷ []) ++ later) new ∙ append_assoc xs (x ∷ []) later ∙ split
    where
      x : X
      x = get_or items i d

      later : List X
      later = drop (i + 1) items

      split : xs ++ x ∷ later ≡ all
      split = sym (at_drop_more (λ l. xs ++ l) items i d l) ∙ is

      new : is_in xs x ≡ false
      new = false_from_ne_true (is_in xs x) (λ t. apart_before xs later x (subst (λ l. NoneTwice l) (sym split) once) (listed xs x t))
