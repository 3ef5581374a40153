use Rattle.std.proofs.Common.{◌≡◌, ℕ, ◌<◌, Bool, true, false, List, length, Option, Some, None, refl, sym, ap, ◌∙◌, subst, arith}
use Rattle.std.specs.Prelude.{slice_get, option_map, option_and_then, nat_eq}
use Rattle.std.proofs.Math.ListN.{set}
use Rattle.std.proofs.lemmas.Bool.{eqb-true, eqb-false}
use Rattle.std.proofs.lemmas.List.{get_or-set_other}
use Rattle.rig_copies.specs.Copies.{kept_at}
use Rattle.rig_copies.specs.Numbers.{kept_at-get_or}
use Rattle.rig_flush.specs.Options.{replaced}
use Rattle.rig_laws.specs.Output.{Output, rest_output}
use Rattle.rig_scene.specs.declared.operation.OpId.{OpId}
use Rattle.rig_graph.proofs.scene_copy.add_rest.Goals as goal

abbrev IsRest : List OpId → List (Option Output) → ℕ → Type 0
IsRest ops kept n = kept_at kept n ≡ option_map rest_output (slice_get ops n)

-- where a rest value is put, the others stay
still_rest : (ops : List OpId) (kept : List (Option Output)) (n : ℕ) (out : Output)
    → option_map rest_output (slice_get ops n) ≡ Some out → n < length kept
    → (m : ℕ) → IsRest ops kept m → IsRest ops (set kept n (Some out)) m
still_rest ops kept n out is within m at = by (nat_eq m n) refl
  where
    here : IsRest ops (set kept n (Some out)) n
    here = ap (option_and_then (λ o. o)) (replaced kept n (Some out) within) ∙ sym is

    by : (b : Bool) → nat_eq m n ≡ b → IsRest ops (set kept n (Some out)) m
    by true e = subst (IsRest ops (set kept n (Some out))) (sym (eqb-true m n e)) here
    by false e =
        kept_at-get_or (set kept n (Some out)) m ∙ get_or-set_other kept n m (Some out) None (eqb-false m n e)
        ∙ sym (kept_at-get_or kept m) ∙ at

pub returns-clause-others : goal.returns-clause-others
returns-clause-others c n at =
    still_rest c.args.nodes.now c.args.rests.now.items c.args.link.source c.in_ok-out.out
    (ap (option_map rest_output) c.op.ensures ∙ ap Some (sym c.in_ok-out.ensures)) (omega arith) n at
