-- What holds of both reads of the chain of the examples.
use Rattle.std.specs.Prelude.{ℕ, ◌-◌, ◌<◌, [], ◌∷◌, Contains}
use Rattle.std.proofs.Common.{⊎_elim, refl, subst, arith}
use Rattle.rig_cycles.specs.Cut.{Arrow}
use Rattle.rig_cycles.specs.Walk.{IsAcyclic, IsRank}
use Rattle.rig_cycles.specs.Depth.{IsClosed}
use Rattle.rig_cycles.specs.Examples.{inner, chain}
use Rattle.rig_cycles.specs.Elements.{element_cases, element_none}
use Rattle.rig_cycles.specs.Acyclic.{acyclic_from_rank}

pub of_chain : (P : Arrow ℕ → Type 0) → P (inner 1 2) → P (inner 2 3) → (read : Arrow ℕ) → Contains chain read → P read
of_chain P p q read e = ⊎_elim
    (λ s. subst P s p)
    (λ c. ⊎_elim (λ s. subst P s q) (λ d. absurd (element_none read d)) (element_cases (inner 2 3) [] read c))
    (element_cases (inner 1 2) (inner 2 3 ∷ []) read e)

pub chain_rank : IsRank (λ n. 3 - n) chain
chain_rank = of_chain (λ read. 3 - read.source < 3 - read.reader) (omega arith) (omega arith)

pub chain_acyclic : IsAcyclic chain
chain_acyclic = acyclic_from_rank (λ n. 3 - n) chain chain_rank

pub chain_closed : IsClosed (1 ∷ 2 ∷ 3 ∷ []) chain
chain_closed = of_chain (λ read. Contains (1 ∷ 2 ∷ 3 ∷ []) read.reader → Contains (1 ∷ 2 ∷ 3 ∷ []) read.source) (λ e. (1, omega arith, refl)) (λ e. (2, omega arith, refl))
