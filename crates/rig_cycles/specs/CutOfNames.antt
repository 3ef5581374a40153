-- The cut of reads between names is the cut of the reads, between names.
use Rattle.std.specs.Prelude.{◌≡◌, ℕ, zero, suc, ◌&&◌, ◌||◌, List, [], ◌∷◌, ◌++◌, map, length, Bool, true, false, cond, Contains}
use Rattle.std.specs.List.{list_any}
use Rattle.std.proofs.Common.{⊎_elim, refl, sym, ap, ◌∙◌, subst}
use Rattle.std.proofs.lemmas.List.{length-map, map-append}
use Rattle.std.proofs.lemmas.List.Elements.{Contains-push_cases}
use Rattle.rig_cycles.specs.Cut.{Arrow, leads_within, leads, closes_cycle, cuts_from, kept_after}
use Rattle.rig_cycles.specs.Walk.{AreReadsOf}
use Rattle.rig_cycles.specs.Names.{arrow_map, TellsApart}
use Rattle.rig_cycles.specs.Elements.{element_first, element_later, any_of_map}

cond_of_map : {A B : Type 0} (f : A → B) (b : Bool) (x y : List A) (u v : List B) → u ≡ map f x → v ≡ map f y → cond b u v ≡ map f (cond b x y)
cond_of_map f true x y u v p q = p
cond_of_map f false x y u v p q = q

among_more : {A : Type 0} (nodes : List A) (kept : List (Arrow A)) (a : Arrow A) → AreReadsOf nodes kept → Contains nodes a.reader × Contains nodes a.source → AreReadsOf nodes (kept ++ a ∷ [])
among_more nodes kept a k h read e = ⊎_elim (λ c. k read c) (λ s. subst (λ r. Contains nodes r.reader × Contains nodes r.source) s h) (Contains-push_cases kept a read e)

module _ {A B : Type 0} (nodes : List A) (same : A → A → Bool) (same_name : B → B → Bool) (name : A → B) (apart : TellsApart nodes same same_name name) where
  leads_within_of_names : (n : ℕ) (reads : List (Arrow A)) → AreReadsOf nodes reads → (start end : A) → Contains nodes start → Contains nodes end → leads_within same_name n (map (arrow_map name) reads) (name start) (name end) ≡ leads_within same n reads start end
  leads_within_of_names zero reads among start end s e = apart start end s e
  leads_within_of_names (suc n) reads among start end s e =
      ap (λ t. t || list_any (λ a. same_name a.reader (name start) && leads_within same_name n (map (arrow_map name) reads) a.source (name end)) (map (arrow_map name) reads)) (apart start end s e)
      ∙ ap (λ t. same start end || t) (any_of_map (arrow_map name)
      (λ a. same a.reader start && leads_within same n reads a.source end)
      (λ a. same_name a.reader (name start) && leads_within same_name n (map (arrow_map name) reads) a.source (name end)) reads
      (λ a c. ap (λ t. t && leads_within same_name n (map (arrow_map name) reads) (name a.source) (name end)) (apart a.reader start (among a c).0 s)
      ∙ ap (λ t. same a.reader start && t) (leads_within_of_names n reads among a.source end (among a c).1 e)))

  pub leads_of_names : (reads : List (Arrow A)) → AreReadsOf nodes reads → (start end : A) → Contains nodes start → Contains nodes end → leads same_name (map (arrow_map name) reads) (name start) (name end) ≡ leads same reads start end
  leads_of_names reads among start end s e =
      ap (λ n. leads_within same_name n (map (arrow_map name) reads) (name start) (name end)) (length-map reads (arrow_map name))
      ∙ leads_within_of_names (length reads) reads among start end s e

  -- a choice by whether a read closes a cycle is one by whether it does between names
  choice_of_names : (kept : List (Arrow A)) (a : Arrow A) → AreReadsOf nodes kept → Contains nodes a.reader × Contains nodes a.source → (x y : List (Arrow A)) (u v : List (Arrow B)) → u ≡ map (arrow_map name) x → v ≡ map (arrow_map name) y → cond (closes_cycle same_name (map (arrow_map name) kept) (arrow_map name a)) u v ≡ map (arrow_map name) (cond (closes_cycle same kept a) x y)
  choice_of_names kept a k h x y u v p q =
      ap (λ t. cond t u v) (leads_of_names kept k a.source a.reader h.1 h.0) ∙ cond_of_map (arrow_map name) (closes_cycle same kept a) x y u v p q

  -- the cuts, and what is kept in the end
  pub cut_of_names : (kept rest : List (Arrow A)) → AreReadsOf nodes kept → AreReadsOf nodes rest → (cuts_from same_name (map (arrow_map name) kept) (map (arrow_map name) rest) ≡ map (arrow_map name) (cuts_from same kept rest)) × (kept_after same_name (map (arrow_map name) kept) (map (arrow_map name) rest) ≡ map (arrow_map name) (kept_after same kept rest))
  cut_of_names kept [] k r = (refl, refl)
  cut_of_names kept (a ∷ rest) k r =
      let cut = cut_of_names kept rest k later in
      let keep = cut_of_names (kept ++ a ∷ []) rest (among_more nodes kept a k here) later in (
        choice_of_names kept a k here _ _ _ _ (ap (λ l. arrow_map name a ∷ l) cut.0) (ap (λ l. cuts_from same_name l (map (arrow_map name) rest)) more ∙ keep.0),
        choice_of_names kept a k here _ _ _ _ cut.1 (ap (λ l. kept_after same_name l (map (arrow_map name) rest)) more ∙ keep.1),
      )
    where
      here : Contains nodes a.reader × Contains nodes a.source
      here = r a (element_first a rest)

      later : AreReadsOf nodes rest
      later read e = r read (element_later a rest read e)

      more : map (arrow_map name) kept ++ arrow_map name a ∷ [] ≡ map (arrow_map name) (kept ++ a ∷ [])
      more = sym (map-append (arrow_map name) kept (a ∷ []))
