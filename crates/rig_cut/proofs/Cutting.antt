-- The test of one link after another.
use Rattle.std.specs.Prelude.{nat_eq, slice_set}
use Rattle.std.proofs.Common.{◌≡◌, ℕ, ◌+◌, ◌<◌, Bool, true, false, List, [], ◌∷◌, ◌++◌, length, map, take, drop, get_or, sym, ap, ◌∙◌, arith}
use Rattle.std.proofs.lemmas.Bool.Decides.{Decides-eqb}
use Rattle.std.proofs.lemmas.Bool.{cond-true}
use Rattle.std.proofs.lemmas.List.{append_assoc, drop_more, map_more, set_at}
use Rattle.rig_cycles.specs.Cut.{leads}
use Rattle.rig_cycles.specs.Pair.{is_pair_cut}
use Rattle.rig_cycles.specs.Walk.{IsAcyclic}
use Rattle.rig_cycles.specs.CutAlike.{cut_by_pair}
use Rattle.rig_cut.specs.declared.links.Link.{Link}
use Rattle.rig_cut.specs.Links.{arrow_of, inner_of, references_of, is_cut}
use Rattle.rig_cut.proofs.Listings.{flags_at, kept_at, references_split, reference_cut, inner_kept, first_length}

module _ (links : List Link) (acyclic : IsAcyclic (inner_of links)) (i : ℕ) (h : i < length links) (l : Link) (at : l ≡ get_or links i l) where
  rest : drop i links ≡ l ∷ drop (i + 1) links
  rest = drop_more links i l h ∙ ap (λ z. z ∷ drop (i + 1) links) (sym at)

  -- a reference is cut where its source leads to its reader by what is kept
  pub tested : l.reference ≡ true → leads nat_eq (kept_at links i) l.source l.reader ≡ is_cut links l
  tested t =
      cut_by_pair nat_eq Decides-eqb (inner_of links) (references_of (take i links)) (references_of (drop (i + 1) links)) (arrow_of l) acyclic
      ∙ ap (λ r. is_pair_cut nat_eq (inner_of links) r (arrow_of l)) (sym split)
      ∙ sym (reference_cut links l t)
    where
      split : references_of links ≡ references_of (take i links) ++ arrow_of l ∷ references_of (drop (i + 1) links)
      split =
          references_split links i
          ∙ ap (λ r. references_of (take i links) ++ references_of r) rest
          ∙ ap (λ r. references_of (take i links) ++ r) (cond-true l.reference (arrow_of l ∷ references_of (drop (i + 1) links)) (references_of (drop (i + 1) links)) t)

  more : (b : Bool) → b ≡ is_cut links l → map (is_cut links) (take i links) ++ b ∷ map (λ z. z.reference) (drop (i + 1) links) ≡ flags_at links (i + 1)
  more b e =
      ap (λ z. map (is_cut links) (take i links) ++ z ∷ map (λ z. z.reference) (drop (i + 1) links)) (e ∙ ap (is_cut links) at)
      ∙ sym (append_assoc (map (is_cut links) (take i links)) (is_cut links (get_or links i l) ∷ []) (map (λ z. z.reference) (drop (i + 1) links)))
      ∙ ap (λ z. z ++ map (λ z. z.reference) (drop (i + 1) links)) (sym (map_more (is_cut links) links i l h))

  pub flags_tested : (cuts : List Bool) (b : Bool) → cuts ≡ flags_at links i → b ≡ is_cut links l → slice_set cuts i b ≡ flags_at links (i + 1)
  flags_tested cuts b is e =
      ap (λ z. slice_set z i b) (is ∙ ap (λ r. map (is_cut links) (take i links) ++ map (λ z. z.reference) r) rest)
      ∙ set_at (map (is_cut links) (take i links)) l.reference (map (λ z. z.reference) (drop (i + 1) links)) b i (first_length links acyclic i (omega arith))
      ∙ more b e

  pub flags_passed : (cuts : List Bool) → cuts ≡ flags_at links i → l.reference ≡ false → cuts ≡ flags_at links (i + 1)
  flags_passed cuts is f =
      is ∙ ap (λ r. map (is_cut links) (take i links) ++ map (λ z. z.reference) r) rest ∙ more l.reference (f ∙ sym (inner_kept links l f))
