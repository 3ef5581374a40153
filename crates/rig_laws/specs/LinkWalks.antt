-- Reads between names that stand for reads between nodes, beside others that lead only to what no node is named: the cut of
-- the former is that of the latter.
use Rattle.std.specs.Prelude.{◌≡◌, ◌⊎◌, List, [], ◌∷◌, ◌++◌, map, Bool, true, false, cond, Contains}
use Rattle.std.proofs.Common.{inl, inr, ⊎_elim, refl, sym, ap, ◌∙◌, subst}
use Rattle.std.proofs.lemmas.Bool.Decides.{Decides-like, same_from_decides}
use Rattle.std.proofs.lemmas.List.Elements.{Contains-append_left, Contains-push, Contains-push_cases}
use Rattle.rig_cycles.specs.Cut.{Arrow, IsEquality, leads, closes_cycle, cuts_from}
use Rattle.rig_cycles.specs.Walk.{Walk, IsAcyclic, AreReadsOf}
use Rattle.rig_cycles.specs.Walk.Walk.{none, first}
use Rattle.rig_cycles.specs.Names.{arrow_map}
use Rattle.rig_cycles.specs.Elements.{element_first, element_later, element_map}
use Rattle.rig_cycles.specs.Leads.{walk_keeps, leads_decides}
use Rattle.rig_laws.specs.Lists.{element_of_map}

cond_of_map : {A B : Type 0} (f : A → B) (b : Bool) (x y : List A) (u v : List B) → u ≡ map f x → v ≡ map f y → cond b u v ≡ map f (cond b x y)
cond_of_map f true x y u v p q = p
cond_of_map f false x y u v p q = q

module _ {A B : Type 0} (nodes : List A) (name : A → B) (Dead : B → Type 0) where
  -- a read of a node that a read between names stands for
  abbrev pub IsReadOf : List (Arrow A) → A → Arrow B → Type 0
  IsReadOf part q b = (a : Arrow A) × Contains part a × (a.reader ≡ q) × (b.source ≡ name a.source) × Contains nodes a.source

  -- each read of nodes is there between their names, each read by a node's name stands for one or leads only to what is
  -- dead, and what is dead leads only to what is
  abbrev pub StandFor : List (Arrow B) → List (Arrow A) → Type 0
  StandFor whole part =
      ((a : Arrow A) → Contains part a → Contains whole (arrow_map name a))
      × ((b : Arrow B) → Contains whole b → (q : A) → Contains nodes q → b.reader ≡ name q → IsReadOf part q b ⊎ Dead b.source)
      × ((b : Arrow B) → Contains whole b → Dead b.reader → Dead b.source)

  walk_of_names : (whole : List (Arrow B)) (part : List (Arrow A)) → StandFor whole part → {start end : A} → Walk part start end → Walk whole (name start) (name end)
  walk_of_names whole part h none = none
  walk_of_names whole part h (first a e w) = first (arrow_map name a) (h.0 a e) (walk_of_names whole part h w)

  -- the node whose name a walk ends at
  abbrev EndsAt : List (Arrow A) → A → B → Type 0
  EndsAt part q end = (r : A) × Contains nodes r × (end ≡ name r) × Walk part q r

  walk_of_nodes : (whole : List (Arrow B)) (part : List (Arrow A)) → StandFor whole part → {start end : B} → Walk whole start end → (q : A) → Contains nodes q → start ≡ name q → EndsAt part q end ⊎ Dead end
  walk_of_nodes whole part h none q within s = inl (q, within, s, none)
  walk_of_nodes whole part h (first b e {end} w) q within s =
      ⊎_elim
      (λ is. ⊎_elim
      (λ ends. inl (ends.0, ends.1, ends.2, subst (λ z. Walk part z ends.0) is.2 (first is.0 is.1 ends.3)))
      (λ d. inr d)
      (walk_of_nodes whole part h w is.0.source is.4 is.3))
      (λ d. inr (walk_keeps whole Dead h.2 w d))
      (h.1 b e q within s)

  module _ (alive : (q : A) → Contains nodes q → Dead (name q) → ⊥) (injective : (a b : A) → Contains nodes a → Contains nodes b → name a ≡ name b → a ≡ b) where
    walk_back : (whole : List (Arrow B)) (part : List (Arrow A)) → StandFor whole part → (start end : A) → Contains nodes start → Contains nodes end → Walk whole (name start) (name end) → Walk part start end
    walk_back whole part h start end s e w =
        ⊎_elim
        (λ ends. subst (λ z. Walk part start z) (sym (injective end ends.0 e ends.1 ends.2)) ends.3)
        (λ d. absurd (alive end e d))
        (walk_of_nodes whole part h w start s refl)

    -- with one read more of nodes, and that read between their names
    one_more : (whole : List (Arrow B)) (part : List (Arrow A)) (a : Arrow A) → Contains nodes a.reader × Contains nodes a.source → StandFor whole part → StandFor (whole ++ arrow_map name a ∷ []) (part ++ a ∷ [])
    one_more whole part a within h = (
      λ x c. ⊎_elim
          (λ old. Contains-append_left whole (arrow_map name a ∷ []) (arrow_map name x) (h.0 x old))
          (λ new. subst (λ y. Contains (whole ++ arrow_map name a ∷ []) (arrow_map name y)) new (Contains-push whole (arrow_map name a)))
          (Contains-push_cases part a x c),
      λ b c q node s. ⊎_elim
          (λ old. ⊎_elim (λ is. inl (is.0, Contains-append_left part (a ∷ []) is.0 is.1, is.2, is.3, is.4)) (λ d. inr d) (h.1 b old q node s))
          (λ new. inl (a, Contains-push part a, injective a.reader q within.0 node (ap (λ y. y.reader) new ∙ s), sym (ap (λ y. y.source) new), within.1))
          (Contains-push_cases whole (arrow_map name a) b c),
      λ b c d. ⊎_elim
          (λ old. h.2 b old d)
          (λ new. absurd (alive a.reader within.0 (subst (λ y. Dead y.reader) (sym new) d)))
          (Contains-push_cases whole (arrow_map name a) b c),
    )

    module _ (same : A → A → Bool) (equal : IsEquality same) (same_name : B → B → Bool) (equal_name : IsEquality same_name) where
      leads_alike : (whole : List (Arrow B)) (part : List (Arrow A)) → StandFor whole part → (start end : A) → Contains nodes start → Contains nodes end → leads same_name whole (name start) (name end) ≡ leads same part start end
      leads_alike whole part h start end s e =
          same_from_decides (leads same_name whole (name start) (name end)) (leads same part start end)
          (Decides-like (leads same_name whole (name start) (name end)) (walk_back whole part h start end s e) (walk_of_names whole part h) (leads_decides same_name equal_name whole (name start) (name end)))
          (leads_decides same equal part start end)

      -- the same reads are cut
      pub cuts_alike : (whole : List (Arrow B)) (part rest : List (Arrow A)) → StandFor whole part → AreReadsOf nodes rest → cuts_from same_name whole (map (arrow_map name) rest) ≡ map (arrow_map name) (cuts_from same part rest)
      cuts_alike whole part [] h r = refl
      cuts_alike whole part (a ∷ rest) h r =
          ap (λ t. cond t (arrow_map name a ∷ cuts_from same_name whole (map (arrow_map name) rest)) (cuts_from same_name (whole ++ arrow_map name a ∷ []) (map (arrow_map name) rest)))
          (leads_alike whole part h a.source a.reader here.1 here.0)
          ∙ cond_of_map (arrow_map name) (closes_cycle same part a) _ _ _ _
          (ap (λ l. arrow_map name a ∷ l) (cuts_alike whole part rest h later))
          (cuts_alike (whole ++ arrow_map name a ∷ []) (part ++ a ∷ []) rest (one_more whole part a here h) later)
        where
          here : Contains nodes a.reader × Contains nodes a.source
          here = r a (element_first a rest)

          later : AreReadsOf nodes rest
          later x e = r x (element_later a rest x e)

-- reads that make no cycle make none between names, where no two nodes have the same
pub acyclic_of_names : {A B : Type 0} (nodes : List A) (name : A → B) → ((a b : A) → Contains nodes a → Contains nodes b → name a ≡ name b → a ≡ b) → (reads : List (Arrow A)) → AreReadsOf nodes reads → IsAcyclic reads → IsAcyclic (map (arrow_map name) reads)
acyclic_of_names {A} {B} nodes name injective reads among acyclic b e w =
    let at = element_of_map (arrow_map name) reads b e in
    let ends = among at.0 at.1 in
    acyclic at.0 at.1
    (walk_back nodes name (λ n. ⊥) (λ q c d. d) injective (map (arrow_map name) reads) reads stand at.0.source at.0.reader ends.1 ends.0
    (subst (λ b. Walk (map (arrow_map name) reads) b.source b.reader) (sym at.2) w))
  where
    stand : StandFor nodes name (λ n. ⊥) (map (arrow_map name) reads) reads
    stand = (
      λ a c. element_map (arrow_map name) reads a c,
      λ x c q node s.
          let of = element_of_map (arrow_map name) reads x c in
          let are = among of.0 of.1 in
          inl (of.0, of.1, injective of.0.reader q are.0 node (ap (λ y. y.reader) of.2 ∙ s), ap (λ y. y.source) (sym of.2), are.1),
      λ x c d. d,
    )
