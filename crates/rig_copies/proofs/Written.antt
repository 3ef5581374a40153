-- What is kept at each number after an output was written under a key.
use Rattle.std.specs.Prelude.{slice_set, is_some, IsSome}
use Rattle.std.proofs.Common.{◌≡◌, ◌⊎◌, inl, inr, ℕ, zero, suc, ◌<◌, List, [], ◌∷◌, ◌++◌, length, map, get_or, replicate, Option, Some, None, false, true, refl, sym, ap, ◌∙◌, arith}
use Rattle.std.proofs.lemmas.Bool.{cases_eq, cases_lt, false≢true}
use Rattle.std.proofs.lemmas.Grind.{get_or-set_at}
use Rattle.std.proofs.lemmas.List.{ext_get_or, get_or_past, get_or-replicate, length-replicate, get_or-set_other, get_or-map, length-map, length-set}
use Rattle.std.proofs.lemmas.Option.{get_or_from_slice_get, slice_get_read}
use Rattle.slab.specs.Slab.{Slab, get, Updates}
use Rattle.rig_laws.specs.Output.{Output}
use Rattle.rig_copies.specs.Keys.{kept_under, NoKeyTwice, AreHeld}

-- a number at which something may be kept has a key, or nothing
pub within_kept : (outs : Slab Output) (keys : List (Option ℕ)) (n : ℕ) → n < length (map (kept_under outs) keys) → n < length keys
within_kept outs keys n within = omega (arith, length-map keys (kept_under outs))

-- what was read at a number is what is there
pub key_read : (keys : List (Option ℕ)) (n : ℕ) (key : Option ℕ) → n < length keys → key ≡ get_or keys n key → get_or keys n None ≡ key
key_read keys n key within is = get_or_from_slice_get keys n key None (slice_get_read keys (length keys) n key refl within is)

module _ (old new : Slab Output) (key : ℕ) (out : Output) (updates : Updates old new key (Some out)) where
  -- what is kept under another key stays
  other_key : (k : Option ℕ) → (k ≡ Some key → ⊥) → kept_under new k ≡ kept_under old k
  other_key None differs = refl
  other_key (Some other) differs = updates.others other (λ e. differs (ap Some e))

  -- ---- an output in the place of another

  module _ (keys : List (Option ℕ)) (n : ℕ) (held : AreHeld old keys) (at : get_or keys n None ≡ Some key) where
    replaced_at : (i : ℕ) → i < length keys → (i ≡ n) ⊎ (i ≡ n → ⊥)
        → get_or (map (kept_under new) keys) i None ≡ get_or (slice_set (map (kept_under old) keys) n (Some out)) i None
    replaced_at i l (inl same) =
        get_or-map (kept_under new) keys i None None l
        ∙ ap (kept_under new) (ap (λ k. get_or keys k None) same ∙ at) ∙ updates.changed
        ∙ sym (get_or-set_at (map (kept_under old) keys) n i (Some out) None same (omega (arith, length-map keys (kept_under old))))
    replaced_at i l (inr differs) =
        get_or-map (kept_under new) keys i None None l
        ∙ other_key (get_or keys i None) (λ e. differs (held.once i n key e at))
        ∙ sym (get_or-map (kept_under old) keys i None None l)
        ∙ sym (get_or-set_other (map (kept_under old) keys) n i (Some out) None differs)

    pub kept-replaced : map (kept_under new) keys ≡ slice_set (map (kept_under old) keys) n (Some out)
    kept-replaced =
        ext_get_or None (map (kept_under new) keys) (slice_set (map (kept_under old) keys) n (Some out))
        (length-map keys (kept_under new) ∙ sym (length-set (map (kept_under old) keys) n (Some out) ∙ length-map keys (kept_under old)))
        (λ i l. replaced_at i (omega (arith, length-map keys (kept_under new))) (cases_eq i n))

    pub held-replaced : AreHeld new keys
    held-replaced = record {
      held = λ i k e. elim (cases_eq k key) [
        | inl same ↦ ap is_some (ap (get new) same ∙ updates.changed)
        | inr differs ↦ ap is_some (updates.others k differs) ∙ held.held i k e
      ];
      once = held.once;
    }

  -- ---- an output under a key that was vacant

  module _ (keys : List (Option ℕ)) (n : ℕ) (held : AreHeld old keys) (within : n < length keys) (vacant : get old key ≡ None) where
    -- the vacant key stood at no number
    new_key : (i : ℕ) → get_or keys i None ≡ Some key → ⊥
    new_key i e = false≢true (sym (ap is_some vacant) ∙ held.held i key e)

    inserted_at : (i : ℕ) → i < length keys → (i ≡ n) ⊎ (i ≡ n → ⊥)
        → get_or (map (kept_under new) (slice_set keys n (Some key))) i None ≡ get_or (slice_set (map (kept_under old) keys) n (Some out)) i None
    inserted_at i l (inl same) =
        get_or-map (kept_under new) (slice_set keys n (Some key)) i None None (omega (arith, length-set keys n (Some key)))
        ∙ ap (kept_under new) (get_or-set_at keys n i (Some key) None same within) ∙ updates.changed
        ∙ sym (get_or-set_at (map (kept_under old) keys) n i (Some out) None same (omega (arith, length-map keys (kept_under old))))
    inserted_at i l (inr differs) =
        get_or-map (kept_under new) (slice_set keys n (Some key)) i None None (omega (arith, length-set keys n (Some key)))
        ∙ ap (kept_under new) (get_or-set_other keys n i (Some key) None differs)
        ∙ other_key (get_or keys i None) (new_key i)
        ∙ sym (get_or-map (kept_under old) keys i None None l)
        ∙ sym (get_or-set_other (map (kept_under old) keys) n i (Some out) None differs)

    pub kept-inserted : map (kept_under new) (slice_set keys n (Some key)) ≡ slice_set (map (kept_under old) keys) n (Some out)
    kept-inserted =
        ext_get_or None (map (kept_under new) (slice_set keys n (Some key))) (slice_set (map (kept_under old) keys) n (Some out))
        (length-map (slice_set keys n (Some key)) (kept_under new) ∙ length-set keys n (Some key) ∙ sym (length-set (map (kept_under old) keys) n (Some out) ∙ length-map keys (kept_under old)))
        (λ i l. inserted_at i (omega (arith, length-map (slice_set keys n (Some key)) (kept_under new), length-set keys n (Some key))) (cases_eq i n))

    -- a key at a number is the new one there, or the one that stood there
    key_cases : (i k : ℕ) → get_or (slice_set keys n (Some key)) i None ≡ Some k → ((i ≡ n) × (k ≡ key)) ⊎ (get_or keys i None ≡ Some k)
    key_cases i k e =
        elim (cases_eq i n) [
          | inl same ↦ inl (same, some_same (sym e ∙ get_or-set_at keys n i (Some key) None same within))
          | inr differs ↦ inr (sym (get_or-set_other keys n i (Some key) None differs) ∙ e)
        ]
      where
        some_same : {a b : ℕ} → Some a ≡ Some b → a ≡ b
        some_same h = cc

    held_at : (i k : ℕ) → ((i ≡ n) × (k ≡ key)) ⊎ (get_or keys i None ≡ Some k) → (k ≡ key) ⊎ (k ≡ key → ⊥) → IsSome (get new k)
    held_at i k which (inl same) = ap is_some (ap (get new) same ∙ updates.changed)
    held_at i k (inl here) (inr differs) = absurd (differs here.1)
    held_at i k (inr there) (inr differs) = ap is_some (updates.others k differs) ∙ held.held i k there

    once_at : (i j k : ℕ) → ((i ≡ n) × (k ≡ key)) ⊎ (get_or keys i None ≡ Some k) → ((j ≡ n) × (k ≡ key)) ⊎ (get_or keys j None ≡ Some k) → i ≡ j
    once_at i j k (inl here) (inl there) = here.0 ∙ sym there.0
    once_at i j k (inl here) (inr there) = absurd (new_key j (there ∙ ap Some here.1))
    once_at i j k (inr here) (inl there) = absurd (new_key i (here ∙ ap Some there.1))
    once_at i j k (inr here) (inr there) = held.once i j k here there

    pub held-inserted : AreHeld new (slice_set keys n (Some key))
    held-inserted = record {
      held = λ i k e. held_at i k (key_cases i k e) (cases_eq k key);
      once = λ i j k e f. once_at i j k (key_cases i k e) (key_cases j k f);
    }

-- ---- numbers at which there is nothing

nothing_in : {A : Type 0} → (more n : ℕ) → get_or (replicate {A = Option A} more None) n None ≡ None
nothing_in {A} more n =
    elim (cases_lt n more) [
      | inl within ↦ get_or-replicate {A = Option A} more n None None within
      | inr past ↦ get_or_past (replicate {A = Option A} more None) n None (omega (arith, length-replicate {A = Option A} more None))
    ]

nothing_more : {A : Type 0} → (xs : List (Option A)) (more n : ℕ) → get_or (xs ++ replicate more None) n None ≡ get_or xs n None
nothing_more [] more n = nothing_in more n
nothing_more (x ∷ xs) more zero = refl
nothing_more (x ∷ xs) more (suc n) = nothing_more xs more n

pub held-more : (outs : Slab Output) (keys : List (Option ℕ)) (more : ℕ) → AreHeld outs keys → AreHeld outs (keys ++ replicate more None)
held-more outs keys more held = record {
  held = λ n key at. held.held n key (sym (nothing_more keys more n) ∙ at);
  once = λ m n key here there. held.once m n key (sym (nothing_more keys more m) ∙ here) (sym (nothing_more keys more n) ∙ there);
}

pub kept-more : (outs : Slab Output) (keys : List (Option ℕ)) (more : ℕ) → map (kept_under outs) (keys ++ replicate more None) ≡ map (kept_under outs) keys ++ replicate more None
kept-more outs [] more = nothing more
  where
    nothing : (more : ℕ) → map (kept_under outs) (replicate more None) ≡ replicate more None
    nothing zero = refl
    nothing (suc more) = ap (λ l. None ∷ l) (nothing more)
kept-more outs (key ∷ keys) more = ap (λ l. kept_under outs key ∷ l) (kept-more outs keys more)
