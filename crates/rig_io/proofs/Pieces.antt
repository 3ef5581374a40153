-- Pieces that a source gave, or a sink took, one after another.
use Rattle.std.proofs.Common.{◌≡◌, ℕ, ◌+◌, ◌≤◌, List, [], ◌++◌, length, take, refl, sym, ◌∙◌, ap, subst, append_assoc, arith, length-append}
use Rattle.std.proofs.lemmas.List.{length-take}
use Rattle.std.specs.Prelude.{Option, Some, None}
use Rattle.std.proofs.lemmas.Grind.{common_steps}
use Rattle.rig_io.specs.Bytes.{Gave, GaveAll, GaveAtMost, GaveOneMore, Appended}

-- nothing was given yet
pub Gave-none : (a : Option (List ℕ)) → Gave a a []
Gave-none None = tt
Gave-none (Some xs) = (xs, refl, refl)

-- two pieces, one after the other
pub Gave-append : (a b c : Option (List ℕ)) (xs ys : List ℕ) → Gave a b xs → Gave b c ys → Gave a c (xs ++ ys)
Gave-append None b c xs ys p q = tt
Gave-append (Some left) b c xs ys p q =
    let q' = subst (λ (o : Option (List ℕ)). Gave o c ys) p.2 q in
    (q'.0, p.1 ∙ ap (λ (r : List ℕ). xs ++ r) q'.1 ∙ sym (append_assoc xs ys q'.0), q'.2)

-- a piece, and then the end
pub Gave-end : (a b c : Option (List ℕ)) (xs : List ℕ) → Gave a b xs → GaveAll b c [] → GaveAll a c xs
Gave-end None b c xs p q = tt
Gave-end (Some left) b c xs p q =
    let q' = subst (λ (o : Option (List ℕ)). GaveAll o c []) p.2 q in
    (p.1 ∙ ap (λ (r : List ℕ). xs ++ r) q'.0 ∙ grind (arith, common_steps), q'.1)

-- nothing was taken yet
pub Appended-none : (a : Option (List ℕ)) → Appended a a []
Appended-none None = tt
Appended-none (Some xs) = grind (arith, common_steps)

-- two pieces, one after the other
pub Appended-append : (a b c : Option (List ℕ)) (xs ys : List ℕ) → Appended a b xs → Appended b c ys → Appended a c (xs ++ ys)
Appended-append None b c xs ys p q = tt
Appended-append (Some w) b c xs ys p q =
    let q' = subst (λ (o : Option (List ℕ)). Appended o c ys) p q in
    q' ∙ ap (λ (r : List ℕ). Some r) (append_assoc w xs ys)

-- what two pieces have, the second a prefix of a list, against a limit
pub Gave-at_most : (a b c : Option (List ℕ)) (xs ys : List ℕ) (n limit : ℕ) → Gave a b xs → Gave b c (take n ys) →
    length xs + n ≤ limit → GaveAtMost a c limit
Gave-at_most a b c xs ys n limit p q h =
    (xs ++ take n ys, Gave-append a b c xs (take n ys) p q, omega (arith, length-append xs (take n ys), length-take n ys))

pub Gave-one_more : (a b c : Option (List ℕ)) (xs ys : List ℕ) (n limit : ℕ) → Gave a b xs → Gave b c (take n ys) →
    n ≤ length ys → length xs + n ≡ limit + 1 → GaveOneMore a c limit
Gave-one_more a b c xs ys n limit p q h k =
    (xs ++ take n ys, Gave-append a b c xs (take n ys) p q, omega (arith, length-append xs (take n ys), length-take n ys))

-- a write that took nothing
pub Appended-kept : (a b c : Option (List ℕ)) (xs : List ℕ) → Appended a b xs → c ≡ b → Appended a c xs
Appended-kept a b c xs p e = subst (λ (o : Option (List ℕ)). Appended a o xs) (sym e) p
