-- What is kept, as the keys and the slab have it.
use Rattle.std.specs.Prelude.{is_some, IsSome}
use Rattle.std.specs.List.{sum_by}
use Rattle.std.proofs.Common.{◌≡◌, ℕ, ◌+◌, List, set, map, get_or, Option, Some, None, cond, ap, ◌∙◌, arith}
use Rattle.std.proofs.Math.ListN as listn
use Rattle.std.proofs.lemmas.List.Sums.{sum_by-set}
use Rattle.slab.proofs.SlabLemmas.{ContainsKey-within}
use Rattle.slab.specs.Slab.{Slab, get, slab_len, with_value}
use Rattle.rig_laws.specs.Output.{Output}
use Rattle.rig_copies.specs.Copies.{kept_at}
use Rattle.rig_copies.specs.Keys.{kept_under}
use Rattle.rig_copies.specs.Numbers.{kept_at-get_or}

-- what is kept at a number is what is under the key there
pub kept_at-keys : (outs : Slab Output) (keys : List (Option ℕ)) (n : ℕ) → kept_at (map (kept_under outs) keys) n ≡ kept_under outs (get_or keys n None)
kept_at-keys outs keys n = kept_at-get_or (map (kept_under outs) keys) n ∙ listn.get_or-map (kept_under outs) keys n None

-- what an output counts for, where it is one
abbrev weight : Option Output → ℕ
weight o = cond (is_some o) 1 0

weight-some : (o : Option Output) → IsSome o → weight o ≡ 1
weight-some o present = ap (λ b. let one : ℕ = cond b 1 0 in one) present

-- an output in the place of another leaves the number of them
pub slab_len-with_value : (outs : Slab Output) (key : ℕ) (out : Output) → IsSome (get outs key) → slab_len (with_value outs key out) ≡ slab_len outs
slab_len-with_value outs key out present =
    let counted : sum_by weight (set outs.slots key (Some out)) + weight (get outs key) ≡ sum_by weight outs.slots + weight (Some out) =
    sum_by-set weight outs.slots key (Some out) None (ContainsKey-within outs key present) in
    omega (arith, weight-some (get outs key) present)
