-- The links that are marked as cut are the cuts.
use Rattle.std.specs.Prelude.{nat_eq, Contains}
use Rattle.std.proofs.Common.{◌≡◌, ℕ, Bool, true, List, [], ◌∷◌, map, filter, refl, sym, ap, ◌∙◌, ⊎_elim}
use Rattle.std.proofs.lemmas.Bool.{cases_Bool, cond-true, cond-false}
use Rattle.std.proofs.lemmas.Bool.Decides.{Decides-eqb}
use Rattle.rig_cycles.specs.Cut.{Arrow, closes_cycle, kept_after, cuts_from}
use Rattle.rig_cycles.specs.Walk.{IsAcyclic}
use Rattle.rig_cycles.specs.Elements.{element_first, element_later, element_map, element_kept}
use Rattle.rig_cycles.specs.CutAlike.{split, pair_in_the_end}
use Rattle.rig_cut.specs.declared.links.Link.{Link}
use Rattle.rig_cut.specs.Links.{arrow_of, inner_of, references_of, is_cut}
use Rattle.rig_cut.proofs.Listings.{inner_kept, reference_cut}

module _ (links : List Link) (acyclic : IsAcyclic (inner_of links)) where
  -- whether a read closes a cycle with what is kept in the end
  abbrev closes : Arrow ℕ → Bool
  closes a = closes_cycle nat_eq (kept_after nat_eq (inner_of links) (references_of links)) a

  cut_closes : (l : Link) → Contains links l → l.reference ≡ true → is_cut links l ≡ closes (arrow_of l)
  cut_closes l e t =
      reference_cut links l t
      ∙ pair_in_the_end nat_eq Decides-eqb (inner_of links) (references_of links) (arrow_of l) acyclic
      (element_kept (λ a. a.is_reference) (map arrow_of links) (arrow_of l) (element_map arrow_of links l e) t)

  marked_among : (xs : List Link) → ((l : Link) → Contains xs l → Contains links l) → map arrow_of (filter (is_cut links) xs) ≡ filter closes (references_of xs)
  marked_among [] among = refl
  marked_among (x ∷ xs) among =
      let later : map arrow_of (filter (is_cut links) xs) ≡ filter closes (references_of xs) = marked_among xs (λ l e. among l (element_later x xs l e)) in
      ⊎_elim
      (λ t. ⊎_elim
      (λ c.
      ap (map arrow_of) (cond-true (is_cut links x) (x ∷ filter (is_cut links) xs) (filter (is_cut links) xs) (cut_closes x (among x (element_first x xs)) t ∙ c))
      ∙ ap (λ r. arrow_of x ∷ r) later
      ∙ sym (cond-true (closes (arrow_of x)) (arrow_of x ∷ filter closes (references_of xs)) (filter closes (references_of xs)) c)
      ∙ ap (filter closes) (sym (reference t)))
      (λ c.
      ap (map arrow_of) (cond-false (is_cut links x) (x ∷ filter (is_cut links) xs) (filter (is_cut links) xs) (cut_closes x (among x (element_first x xs)) t ∙ c))
      ∙ later
      ∙ sym (cond-false (closes (arrow_of x)) (arrow_of x ∷ filter closes (references_of xs)) (filter closes (references_of xs)) c)
      ∙ ap (filter closes) (sym (reference t)))
      (cases_Bool (closes (arrow_of x))))
      (λ f.
      ap (map arrow_of) (cond-false (is_cut links x) (x ∷ filter (is_cut links) xs) (filter (is_cut links) xs) (inner_kept links x f))
      ∙ later
      ∙ ap (filter closes) (sym (cond-false x.reference (arrow_of x ∷ references_of xs) (references_of xs) f)))
      (cases_Bool x.reference)
    where
      reference : x.reference ≡ true → references_of (x ∷ xs) ≡ arrow_of x ∷ references_of xs
      reference t = cond-true x.reference (arrow_of x ∷ references_of xs) (references_of xs) t

  pub marked : map arrow_of (filter (is_cut links) links) ≡ cuts_from nat_eq (inner_of links) (references_of links)
  marked = marked_among links (λ l e. e) ∙ sym (split nat_eq Decides-eqb (inner_of links) (references_of links) acyclic).0
