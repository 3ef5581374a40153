-- The tags after an edit, an operation at a time.
use Rattle.std.specs.Prelude.{slice_get}
use Rattle.std.proofs.Common.{◌≡◌, ◌||◌, ℕ, ◌+◌, ◌<◌, Bool, true, false, cond, List, [], ◌∷◌, ◌++◌, filter, take, Some, refl, sym, ap, ◌∙◌, subst, arith}
use Rattle.std.proofs.lemmas.Bool.{cond_both, cond-false}
use Rattle.std.proofs.lemmas.List.{take_more, length-take-le, get_or-take, append-nil}
use Rattle.std.proofs.lemmas.List.Elements.{filter_more}
use Rattle.std.proofs.lemmas.Option.{slice_get_within, get_or_from_slice_get}
use Rattle.rig_cycles.specs.Elements.{element_of_kept}
use Rattle.rig_links.specs.Numbers.{same_operation}
use Rattle.rig_links.specs.SameOperation.{same_operation-Decides}
use Rattle.rig_scene.specs.declared.operation.OpId.{OpId}
use Rattle.rig_scene.specs.Pairs.{NoneTwice}
use Rattle.rig_flush.specs.Retag.{is_one_of}
use Rattle.rig_flush.proofs.SameRows.{none_of}

abbrev pub with_op : List OpId → OpId → List OpId
with_op ops op = cond (is_one_of ops op) ops (ops ++ op ∷ [])

-- ---- a set of operations

one_of_append : (xs ys : List OpId) (op : OpId) → is_one_of (xs ++ ys) op ≡ (is_one_of xs op || is_one_of ys op)
one_of_append [] ys op = refl
one_of_append (x ∷ xs) ys op = ap (λ b. same_operation op x || b) (one_of_append xs ys op) ∙ assoc (same_operation op x) (is_one_of xs op) (is_one_of ys op)
  where
    assoc : (a b c : Bool) → (a || (b || c)) ≡ ((a || b) || c)
    assoc true b c = refl
    assoc false b c = refl

one_of_more : (set : List OpId) (x op : OpId) → is_one_of (with_op set x) op ≡ (is_one_of set op || is_one_of (x ∷ []) op)
one_of_more set x op = cond_both (is_one_of set x) set (set ++ x ∷ []) (λ l. is_one_of l op ≡ (is_one_of set op || is_one_of (x ∷ []) op))
    (λ t. there (is_one_of set op) (same_operation op x) (λ s. subst (λ o. is_one_of set o ≡ true) (sym ((same_operation-Decides op x).0 s)) t))
    (λ f. one_of_append set (x ∷ []) op)
  where
    there : (a s : Bool) → (s ≡ true → a ≡ true) → a ≡ (a || (s || false))
    there true s h = refl
    there false true h = h refl
    there false false h = refl

pub set_more : (ops set : List OpId) (i : ℕ) (x : OpId) → slice_get ops i ≡ Some x → ((op : OpId) → is_one_of set op ≡ is_one_of (take i ops) op) → (op : OpId) → is_one_of (with_op set x) op ≡ is_one_of (take (i + 1) ops) op
set_more ops set i x at so_far op =
    one_of_more set x op
    ∙ ap (λ b. b || is_one_of (x ∷ []) op) (so_far op)
    ∙ sym (ap (λ l. is_one_of l op) (take_more ops i x (slice_get_within ops i x at) ∙ ap (λ y. take i ops ++ y ∷ []) (get_or_from_slice_get ops i x x at)) ∙ one_of_append (take i ops) (x ∷ []) op)

-- ---- an operation more

not_yet : (p : OpId → Bool) (ops : List OpId) (i : ℕ) (op : OpId) → NoneTwice ops → slice_get ops i ≡ Some op → is_one_of (filter p (take i ops)) op ≡ false
not_yet p ops i op once at = none_of (filter p (take i ops)) op (λ e.
    let within = slice_get_within ops i op at in
    let k = element_of_kept p (take i ops) op e in
    let lower : k.0 < i = omega (arith, length-take-le i ops (omega arith), k.1) in
    once k.0 i op lower within (sym (get_or-take i ops k.0 op lower) ∙ k.2 ∙ sym (get_or_from_slice_get ops i op op at)))

pub tags_more : (p : OpId → Bool) (ops tags : List OpId) (i : ℕ) (op : OpId) (b : Bool) → NoneTwice ops → slice_get ops i ≡ Some op → b ≡ p op → tags ≡ filter p (take i ops) → cond b (with_op tags op) tags ≡ filter p (take (i + 1) ops)
tags_more p ops tags i op b once at test so_far =
    let first = get_or_from_slice_get ops i op op at in
    ap (λ c. cond c (with_op tags op) tags) test
    ∙ ap (λ l. cond (p op) (with_op l op) l) so_far
    ∙ ap (λ l. cond (p op) l (filter p (take i ops))) (cond-false (is_one_of (filter p (take i ops)) op) (filter p (take i ops)) (filter p (take i ops) ++ op ∷ []) (not_yet p ops i op once at))
    ∙ by (p op)
    ∙ ap (λ y. filter p (take i ops) ++ cond (p y) (y ∷ []) []) (sym first)
    ∙ sym (filter_more p ops i op (slice_get_within ops i op at))
  where
    by : (c : Bool) → cond c (filter p (take i ops) ++ op ∷ []) (filter p (take i ops)) ≡ filter p (take i ops) ++ cond c (op ∷ []) []
    by true = refl
    by false = sym (append-nil (filter p (take i ops)))

-- the four reasons, the last two taken as one
pub four_reasons : (a b c d : Bool) → ((a || b) || (c || d)) ≡ (((a || b) || c) || d)
four_reasons true b c d = refl
four_reasons false true c d = refl
four_reasons false false c d = refl
