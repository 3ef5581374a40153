-- The number of an operation of a scene is its index.
use Rattle.std.proofs.Common.{◌≡◌, ℕ, zero, suc, Bool, List, [], ◌∷◌, length, slice_get, Option, Some, None, refl, sym, ap, subst, ◌∙◌, unwrap_or, if◌then◌else◌}
use Rattle.std.specs.Prelude.{IsTrue, Contains, IfSome, IfNone}
use Rattle.std.proofs.lemmas.Bool.{cond-true, cond-false, false_from_ne_true}
use Rattle.std.proofs.lemmas.List.Elements.{All-contains}
use Rattle.rig_cycles.specs.Cut.{IsEquality}
use Rattle.rig_cycles.specs.Elements.{element_first, element_later}
use Rattle.rig_cycles.specs.RankOrder.{index_in}
use Rattle.rig_scene.specs.declared.operation.OpId.{OpId}
use Rattle.rig_scene.specs.Found.{Contains-slice_get}
use Rattle.rig_scene.specs.FactsHold.{scene_facts}
use Rattle.rig_scene.specs.OneOfEach.{operations_once}
use Rattle.rig_scene.specs.Operations.{operations}
use Rattle.rig_scene.specs.Pairs.{NoneTwice, AllPairs-head, AllPairs-tail}
use Rattle.rig_scene.specs.Scene.{SceneRecord}
use Rattle.rig_scene.specs.WellFormed.{is_scene}
use Rattle.rig_laws.specs.HasOperation.{operation_has, has_operation_is}
use Rattle.rig_laws.specs.Members.{has_operation}
use Rattle.rig_links.specs.Numbers.{same_operation, number_of}
use Rattle.rig_links.specs.SameOperation.{same_operation-Decides}

-- ---- the index of an element

module _ {A : Type 0} (same : A → A → Bool) (equal : IsEquality same) where
  index_past : (xs : List A) (x : A) → (Contains xs x → ⊥) → index_in same xs x ≡ length xs
  index_past [] x out = refl
  index_past (y ∷ ys) x out =
      cond-false (same y x) 0 (suc (index_in same ys x)) (false_from_ne_true (same y x) (λ t. out (subst (λ z. Contains (z ∷ ys) x) (sym ((equal y x).0 t)) (element_first x ys))))
      ∙ ap suc (index_past ys x (λ c. out (element_later y ys x c)))

  index_at : (xs : List A) (n : ℕ) (x : A) → NoneTwice xs → slice_get xs n ≡ Some x → index_in same xs x ≡ n
  index_at [] n x once e = absurd (cc)
  index_at (y ∷ ys) zero x once e = cond-true (same y x) 0 (suc (index_in same ys x)) ((equal y x).1 (cc))
  index_at (y ∷ ys) (suc n) x once e =
      let there = Contains-slice_get ys n x e in
      cond-false (same y x) 0 (suc (index_in same ys x))
      (false_from_ne_true (same y x) (λ t. All-contains (λ z. y ≡ z → ⊥) ys x (AllPairs-head (λ a b. a ≡ b → ⊥) y ys once) there ((equal y x).0 t)))
      ∙ ap suc (index_at ys n x (AllPairs-tail (λ a b. a ≡ b → ⊥) y ys once) e)

-- ---- the numbers of a scene's operations

module _ (s : SceneRecord) (met : IsTrue (is_scene s)) where
  pub number_at : (n : ℕ) (op : OpId) → slice_get (operations s) n ≡ Some op → number_of s op ≡ n
  unfolding number_of
  number_at n op e = index_at same_operation same_operation-Decides (operations s) n op (operations_once s (scene_facts s met)) e

  pub number_past : (op : OpId) → (Contains (operations s) op → ⊥) → number_of s op ≡ length (operations s)
  unfolding number_of
  number_past op out = index_past same_operation same_operation-Decides (operations s) op out

  -- what the table answers
  pub number_found : (found : Option ℕ) (op : OpId) → IfSome found (λ n. slice_get (operations s) n ≡ Some op) → IfNone found (Contains (operations s) op → ⊥)
      → found ≡ (if has_operation s op then Some (number_of s op) else None)
  number_found (Some n) op is out =
      ap Some (sym (number_at n op is))
      ∙ sym (cond-true (has_operation s op) (Some (number_of s op)) None (operation_has s met op (Contains-slice_get (operations s) n op is)))
  number_found None op is out =
      sym (cond-false (has_operation s op) (Some (number_of s op)) None (false_from_ne_true (has_operation s op) (λ t. out (has_operation_is s met op t))))

  -- and with the number behind the last one for what it hasn't
  pub number_or_past : (found : Option ℕ) (op : OpId) → IfSome found (λ n. slice_get (operations s) n ≡ Some op) → IfNone found (Contains (operations s) op → ⊥)
      → unwrap_or found (length (operations s)) ≡ number_of s op
  number_or_past (Some n) op is out = sym (number_at n op is)
  number_or_past None op is out = sym (number_past op out)
