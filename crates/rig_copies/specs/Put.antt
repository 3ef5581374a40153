-- What is kept of each operation after outputs were put.
use Rattle.std.specs.Prelude.{slice_get, slice_set, option_map, option_and_then}
use Rattle.std.specs.List.{position}
use Rattle.std.proofs.Common.{◌≡◌, ◌⊎◌, inl, inr, ℕ, zero, suc, ◌+◌, ◌<◌, List, [], ◌∷◌, length, map, drop, get_or, Option, Some, None, refl, sym, ap, ◌∙◌, arith}
use Rattle.std.proofs.lemmas.Bool.{cases_order}
use Rattle.std.proofs.lemmas.List.{at_drop_more, get_or-set_same, get_or-set_other, length-set}
use Rattle.std.proofs.lemmas.Option.{slice_get-get_or, slice_get-map, slice_get_within, get_or_from_slice_get}
use Rattle.rig_cut.specs.Plan.{PlanNode}
use Rattle.rig_laws.specs.Output.{Output}
use Rattle.rig_links.specs.Numbers.{same_operation}
use Rattle.rig_scene.specs.declared.operation.OpId.{OpId}
use Rattle.rig_scene.specs.Pairs.{NoneTwice}
use Rattle.rig_copies.specs.Copies.{kept_at, kept_for, put_each}
use Rattle.rig_copies.specs.Numbers.{op_at_number, number_once, kept_for-number}

-- outputs that are put at other numbers leave what is kept at one
put_elsewhere : (n : ℕ) (plan : List PlanNode) (outs : List Output) (kept : List (Option Output)) → ((i : ℕ) (node : PlanNode) → slice_get plan i ≡ Some node → node.op ≡ n → ⊥)
    → get_or (put_each kept plan outs) n None ≡ get_or kept n None
put_elsewhere n [] outs kept others = refl
put_elsewhere n (node ∷ nodes) [] kept others = refl
put_elsewhere n (node ∷ nodes) (out ∷ outs) kept others =
    put_elsewhere n nodes outs (slice_set kept node.op (Some out)) (λ i other at same. others (suc i) other at same)
    ∙ get_or-set_other kept node.op n (Some out) None (λ same. others 0 node refl (sym same))

-- no two nodes are of one number
abbrev OncePlanned : List PlanNode → Type 0
OncePlanned plan = (i j : ℕ) (node other : PlanNode) → slice_get plan i ≡ Some node → slice_get plan j ≡ Some other → node.op ≡ other.op → i ≡ j

numbered : (plan : List PlanNode) (i : ℕ) (node : PlanNode) → slice_get plan i ≡ Some node → slice_get (map (λ n. n.op) plan) i ≡ Some node.op
numbered plan i node at = slice_get-map (λ (n : PlanNode). n.op) plan i ∙ ap (λ o. option_map (λ (n : PlanNode). n.op) o) at

not_before : (numbers : List ℕ) → NoneTwice numbers → (i j n : ℕ) → slice_get numbers i ≡ Some n → slice_get numbers j ≡ Some n → i < j → ⊥
not_before numbers once i j n at is before =
    once i j n before (slice_get_within numbers j n is) (get_or_from_slice_get numbers i n n at ∙ sym (get_or_from_slice_get numbers j n n is))

once_planned : (plan : List PlanNode) → NoneTwice (map (λ node. node.op) plan) → OncePlanned plan
once_planned plan once i j node other at is same =
    elim (cases_order i j) [
      | inl equal ↦ equal
      | inr apart ↦ elim apart [
        | inl before ↦ absurd (not_before (map (λ n. n.op) plan) once i j node.op here there before)
        | inr after ↦ absurd (not_before (map (λ n. n.op) plan) once j i node.op there here after)
      ]
    ]
  where
    here : slice_get (map (λ n. n.op) plan) i ≡ Some node.op
    here = numbered plan i node at

    there : slice_get (map (λ n. n.op) plan) j ≡ Some node.op
    there = numbered plan j other is ∙ ap Some (sym same)

-- an output that is put at a number is kept there, where it is put there alone
put_there : (plan : List PlanNode) (outs : List Output) (kept : List (Option Output)) → OncePlanned plan → (i : ℕ) (node : PlanNode) (out : Output)
    → slice_get plan i ≡ Some node → slice_get outs i ≡ Some out → node.op < length kept → get_or (put_each kept plan outs) node.op None ≡ Some out
put_there [] outs kept once i node out at put within = absurd (cc)
put_there (first ∷ nodes) [] kept once i node out at put within = absurd (cc)
put_there (first ∷ nodes) (front ∷ outs) kept once zero node out at put within =
    let same : first.op ≡ node.op = ap (λ o. op_or o) at in
    let there : first.op < length kept = omega arith in
    ap (λ n. get_or (put_each (slice_set kept first.op (Some front)) nodes outs) n None) (sym same)
    ∙ put_elsewhere first.op nodes outs (slice_set kept first.op (Some front)) (λ j other is e. never j (once 0 (suc j) first other refl is (sym e)))
    ∙ get_or-set_same kept first.op (Some front) None there ∙ put
  where
    op_or : Option PlanNode → ℕ
    op_or None = 0
    op_or (Some node) = node.op

    never : (j : ℕ) → 0 ≡ suc j → ⊥
    never j e = omega arith
put_there (first ∷ nodes) (front ∷ outs) kept once (suc i) node out at put within =
    put_there nodes outs (slice_set kept first.op (Some front)) (λ j k a b is other e. less j k (once (suc j) (suc k) a b is other e)) i node out at put
    (within_set (length-set kept first.op (Some front)))
  where
    less : (j k : ℕ) → suc j ≡ suc k → j ≡ k
    less j k e = omega arith

    within_set : length (slice_set kept first.op (Some front)) ≡ length kept → node.op < length (slice_set kept first.op (Some front))
    within_set same = omega arith

-- what is kept of an operation of a node is the node's output
pub put_for : (ops : List OpId) (kept : List (Option Output)) (plan : List PlanNode) (outs : List Output) → NoneTwice ops → NoneTwice (map (λ node. node.op) plan)
    → (i : ℕ) (node : PlanNode) (op : OpId) (out : Output) → slice_get plan i ≡ Some node → slice_get outs i ≡ Some out → slice_get ops node.op ≡ Some op → node.op < length kept
    → kept_for ops (put_each kept plan outs) op ≡ Some out
put_for ops kept plan outs distinct once i node op out at put is within =
    kept_for-number ops (put_each kept plan outs) op node.op (number_once ops distinct op node.op is)
    ∙ put_there plan outs kept (once_planned plan once) i node out at put within

-- what is kept of any other operation is what was
pub put_for_other : (ops : List OpId) (kept : List (Option Output)) (plan : List PlanNode) (outs : List Output) (op : OpId)
    → ((i : ℕ) (node : PlanNode) → slice_get plan i ≡ Some node → slice_get ops node.op ≡ Some op → ⊥) → kept_for ops (put_each kept plan outs) op ≡ kept_for ops kept op
put_for_other ops kept plan outs op others = by (position (same_operation op) ops) refl
  where
    by : (o : Option ℕ) → position (same_operation op) ops ≡ o → kept_for ops (put_each kept plan outs) op ≡ kept_for ops kept op
    by None is = ap (λ o. option_and_then (kept_at (put_each kept plan outs)) o) is ∙ sym (ap (λ o. option_and_then (kept_at kept) o) is)
    by (Some n) is =
        kept_for-number ops (put_each kept plan outs) op n is
        ∙ put_elsewhere n plan outs kept (λ i node at same. others i node at (ap (slice_get ops) same ∙ op_at_number ops op n is))
        ∙ sym (kept_for-number ops kept op n is)

-- ---- outputs put one after another

no_node : PlanNode
no_node = record { op = 0; ins = [] }

-- the output at a node is put before those of the nodes behind it
pub put_next : (kept : List (Option Output)) (plan : List PlanNode) (i n : ℕ) (out : Output) (outs : List Output) → i < length plan → option_map (λ node. node.op) (slice_get plan i) ≡ Some n
    → put_each (slice_set kept n (Some out)) (drop (i + 1) plan) outs ≡ put_each kept (drop i plan) (out ∷ outs)
put_next kept plan i n out outs within is =
    ap (λ m. put_each (slice_set kept m (Some out)) (drop (i + 1) plan) outs) (sym same)
    ∙ sym (at_drop_more (λ nodes. put_each kept nodes (out ∷ outs)) plan i no_node within)
  where
    some_same : {a b : ℕ} → Some a ≡ Some b → a ≡ b
    some_same e = cc

    same : (get_or plan i no_node).op ≡ n
    same = some_same (ap (λ o. option_map (λ (node : PlanNode). node.op) o) (sym (slice_get-get_or plan i no_node within)) ∙ is)
