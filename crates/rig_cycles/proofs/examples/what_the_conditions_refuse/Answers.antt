use Rattle.std.specs.Prelude.{◌≡◌, ℕ, ◌<◌, [], ◌∷◌, length}
use Rattle.std.proofs.Common.{⊎_elim, refl, arith}
use Rattle.std.proofs.lemmas.Bool.{true≢false}
use Rattle.std.proofs.lemmas.List.Sorted.{length_permutation}
use Rattle.rig_cycles.specs.Walk.Walk.{none, first}
use Rattle.rig_cycles.specs.Examples.{reference, inner}
use Rattle.rig_cycles.specs.Elements.{element_cases, element_none}
use Rattle.rig_cycles.proofs.examples.what_the_conditions_refuse.Goals as goal

pub returns-clause-two : goal.returns-clause-two
returns-clause-two c acyclic = acyclic (reference 1 2) (0, omega arith, refl) (first (reference 2 1) (1, omega arith, refl) none)

pub returns-clause-itself : goal.returns-clause-itself
returns-clause-itself c acyclic = acyclic (reference 1 1) (0, omega arith, refl) none

pub returns-clause-rising : goal.returns-clause-rising
returns-clause-rising c falls = let h : 2 < 1 = falls (inner 1 2) (0, omega arith, refl) in omega arith

pub returns-clause-level : goal.returns-clause-level
returns-clause-level c falls = let h : 0 < 0 = falls (inner 1 2) (0, omega arith, refl) in omega arith

pub returns-clause-not_closed : goal.returns-clause-not_closed
returns-clause-not_closed c closed = ⊎_elim
    (λ (s : 1 ≡ 2). omega arith)
    (λ e. element_none 2 e)
    (element_cases 1 [] 2 (closed (inner 1 2) (0, omega arith, refl) (0, omega arith, refl)))

pub returns-clause-other_order : goal.returns-clause-other_order
returns-clause-other_order c order = element_none 2 (order.sources_first [] (2 ∷ 3 ∷ []) 1 refl (inner 1 2) (0, omega arith, refl) refl)

pub returns-clause-node_missing : goal.returns-clause-node_missing
returns-clause-node_missing c order = shorter (length_permutation (1 ∷ 2 ∷ 3 ∷ []) (3 ∷ 2 ∷ []) order.same_nodes)
  where
    shorter : length {A = ℕ} (3 ∷ 2 ∷ []) ≡ length {A = ℕ} (1 ∷ 2 ∷ 3 ∷ []) → ⊥
    shorter h = omega arith

pub returns-clause-one_name : goal.returns-clause-one_name
returns-clause-one_name c apart = true≢false (apart 1 2 (0, omega arith, refl) (1, omega arith, refl))
