-- Members of lists of numbers, and of what a set of nodes has after a node more.
use Rattle.std.specs.Prelude.{slice_index, nat_eq, Contains}
use Rattle.std.specs.Bool.{Decides}
use Rattle.std.specs.List.{list_any}
use Rattle.std.proofs.Common.{◌≡◌, ◌⊎◌, ℕ, ◌<◌, false, List, [], ◌∷◌, ◌++◌, length, refl, sym, ap, ◌∙◌, subst, inl}
use Rattle.std.proofs.lemmas.Bool.{eqb-true, eq-eqb, false_from_ne_true, cond_both}
use Rattle.std.proofs.lemmas.List.{append-nil, append_assoc, get_or_default}
use Rattle.std.proofs.lemmas.List.Elements.{Contains-get_or, Contains-append_left, Contains-push, Contains-push_cases}
use Rattle.rig_cycles.specs.Elements.{any_from_element, element_from_any}
use Rattle.rig_cut.specs.NodeSets.{Begins, with_node}

-- ---- lists of numbers

pub member_decides : (xs : List ℕ) (n : ℕ) → Decides (list_any (nat_eq n) xs) (Contains xs n)
member_decides xs n = (
  λ t. let found = element_from_any (nat_eq n) xs t in subst (λ z. Contains xs z) (sym (eqb-true n found.0 found.2)) found.1,
  λ e. any_from_element (nat_eq n) xs n e (eq-eqb n n refl),
)

pub not_member : (xs : List ℕ) (n : ℕ) → (Contains xs n → ⊥) → list_any (nat_eq n) xs ≡ false
not_member xs n h = false_from_ne_true _ (λ t. h ((member_decides xs n).0 t))

-- the index of an element
pub index_of_element : (xs : List ℕ) (n : ℕ) → Contains xs n → (k : ℕ) × (k < length xs) × (slice_index xs k ≡ n)
index_of_element xs n e = (e.0, e.1, get_or_default xs e.0 0 n e.1 ∙ e.2)

pub element_at : (xs : List ℕ) (k n : ℕ) → k < length xs → n ≡ slice_index xs k → Contains xs n
element_at xs k n h e = subst (λ z. Contains xs z) (sym e) (Contains-get_or xs k 0 h)

-- ---- a node more

pub begins_itself : (xs : List ℕ) → Begins xs xs
begins_itself xs = ([], sym (append-nil xs))

pub begins_then : (xs ys zs : List ℕ) → Begins xs ys → Begins ys zs → Begins xs zs
begins_then xs ys zs p q = (p.0 ++ q.0, q.1 ∙ ap (λ l. l ++ q.0) p.1 ∙ append_assoc xs p.0 q.0)

pub begins_contains : (xs ys : List ℕ) (n : ℕ) → Begins xs ys → Contains xs n → Contains ys n
begins_contains xs ys n b e = subst (λ l. Contains l n) (sym b.1) (Contains-append_left xs b.0 n e)

pub with_node_begins : (members : List ℕ) (node : ℕ) → Begins members (with_node members node)
with_node_begins members node =
    cond_both (list_any (nat_eq node) members) members (members ++ node ∷ []) (λ l. Begins members l)
    (λ t. begins_itself members) (λ f. (node ∷ [], refl))

pub with_node_has : (members : List ℕ) (node : ℕ) → Contains (with_node members node) node
with_node_has members node =
    cond_both (list_any (nat_eq node) members) members (members ++ node ∷ []) (λ l. Contains l node)
    (λ t. (member_decides members node).0 t) (λ f. Contains-push members node)

pub with_node_of : (members : List ℕ) (node n : ℕ) → Contains (with_node members node) n → Contains members n ⊎ (node ≡ n)
with_node_of members node n =
    cond_both (list_any (nat_eq node) members) members (members ++ node ∷ []) (λ l. Contains l n → Contains members n ⊎ (node ≡ n))
    (λ t e. inl e) (λ f e. Contains-push_cases members node n e)
