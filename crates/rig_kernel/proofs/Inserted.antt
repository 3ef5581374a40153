-- Inserting values of which none stands twice, one after another, gives their list.
use Rattle.std.proofs.Common.{◌≡◌, ◌≢◌, Bool, true, false, List, [], ◌∷◌, ◌++◌, get_or, sym, ap, ◌∙◌}
use Rattle.std.specs.List.{All, list_any}
use Rattle.std.proofs.lemmas.Bool.{cond-false, false_from_ne_true}
use Rattle.std.proofs.lemmas.List.{append-nil, append_assoc}
use Rattle.std.proofs.lemmas.List.Elements.{All-head, All-tail, All-nil, All-cons, All-weaker, All-append}
use Rattle.std.proofs.lemmas.List.Folds.{list_any_none}
use Rattle.indexmap.specs.IndexSet.{insert_key, insert_all}
use Rattle.rig_scene.specs.Pairs.{NoneTwice, AllPairs-head, AllPairs-tail}

module _ {A : Type 0} (same : A → A → Bool) (equal : (x y : A) → same x y ≡ true → x ≡ y) where
  -- a value that isn't there goes to the end
  new_key : (x : A) (keys : List A) → All (λ k. x ≢ k) keys → insert_key same keys x ≡ keys ++ x ∷ []
  new_key x keys new =
      cond-false (list_any (same x) keys) keys (keys ++ x ∷ [])
      (list_any_none (same x) keys (All-weaker (λ k. x ≢ k) (λ k. same x k ≡ false) (λ k ne. false_from_ne_true (same x k) (λ e. ne (equal x k e))) keys new))

  inserted_after : (xs keys : List A) → NoneTwice xs → All (λ x. All (λ k. x ≢ k) keys) xs → insert_all same keys xs ≡ keys ++ xs
  inserted_after [] keys once new = sym (append-nil keys)
  inserted_after (x ∷ xs) keys once new =
      ap (λ l. insert_all same l xs) (new_key x keys (All-head (λ x. All (λ k. x ≢ k) keys) x xs new))
      ∙ inserted_after xs (keys ++ x ∷ []) (AllPairs-tail (λ x y. x ≢ y) x xs once) later
      ∙ append_assoc keys (x ∷ []) xs
    where
      later : All (λ y. All (λ k. y ≢ k) (keys ++ x ∷ [])) xs
      later k d l =
          All-append (λ z. get_or xs k d ≢ z) keys (x ∷ []) (All-tail (λ x. All (λ k. x ≢ k) keys) x xs new k d l)
          (All-cons (λ z. get_or xs k d ≢ z) x [] (λ e. AllPairs-head (λ x y. x ≢ y) x xs once k d l (sym e)) (All-nil (λ z. get_or xs k d ≢ z)))

  pub inserted : (xs : List A) → NoneTwice xs → insert_all same [] xs ≡ xs
  inserted xs once = inserted_after xs [] once (λ k d l. All-nil (λ z. get_or xs k d ≢ z))
