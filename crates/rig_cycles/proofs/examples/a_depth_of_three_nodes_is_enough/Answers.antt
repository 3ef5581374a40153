use Rattle.std.specs.Prelude.{◌≡◌, ℕ, ◌+◌, max, List, [], ◌∷◌, Bool, true, false, cond, nat_eq, Contains}
use Rattle.std.proofs.Common.{refl, ap, ◌∙◌, arith}
use Rattle.std.proofs.lemmas.Bool.{eqb-true}
use Rattle.std.proofs.lemmas.Bool.Decides.{Decides-eqb}
use Rattle.rig_cycles.specs.Cut.{Arrow}
use Rattle.rig_cycles.specs.Depth.{LooksAtSources}
use Rattle.rig_cycles.specs.Examples.{chain, longest_by, longest_at}
use Rattle.rig_cycles.specs.Elements.{element_first, element_later}
use Rattle.rig_cycles.specs.DepthIsEnough.{one_value}
use Rattle.rig_cycles.proofs.Chain.{chain_acyclic, chain_closed}
use Rattle.rig_cycles.proofs.examples.a_depth_of_three_nodes_is_enough.Goals as goal

same_choice : (b : Bool) (x y : ℕ) → (b ≡ true → x ≡ y) → cond b (x + 1) 0 ≡ cond b (y + 1) 0
same_choice true x y h = ap (λ n. n + 1) (h refl)
same_choice false x y h = refl

looks_along : (reads : List (Arrow ℕ)) (node : ℕ) (f g : ℕ → ℕ) → ((read : Arrow ℕ) → Contains reads read → read.reader ≡ node → f read.source ≡ g read.source) → longest_by reads node f ≡ longest_by reads node g
looks_along [] node f g h = refl
looks_along (a ∷ rest) node f g h =
    ap (λ n. max n (longest_by rest node f)) (same_choice (nat_eq a.reader node) (f a.source) (g a.source) (λ t. h a (element_first a rest) (eqb-true a.reader node t)))
    ∙ ap (λ n. max (cond (nat_eq a.reader node) (g a.source + 1) 0) n) (looks_along rest node f g (λ read e. h read (element_later a rest read e)))

looks : LooksAtSources (1 ∷ 2 ∷ 3 ∷ []) chain (longest_by chain)
looks node f g e h = looks_along chain node f g h

pub returns : goal.returns
returns c depth h =
    one_value nat_eq Decides-eqb (1 ∷ 2 ∷ 3 ∷ []) chain chain_acyclic chain_closed (longest_by chain) (longest_at chain) (λ d n. refl) looks depth 3 1 (0, omega arith, refl) h (omega arith)
