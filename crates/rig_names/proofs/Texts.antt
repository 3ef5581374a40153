-- Texts of a set, as the list of their bytes.
use Rattle.std.proofs.Common.{◌≡◌, ℕ, Bool, true, false, not, ◌||◌, List, [], ◌∷◌, ◌++◌, map, position, refl, sym, ap, ◌∙◌, if◌then◌else◌}
use Rattle.std.specs.Prelude.{String, string_bytes}
use Rattle.std.specs.String.{string_eq}
use Rattle.std.specs.List.{list_any, position_or_len}
use Rattle.std.specs.declared.alloc.Global.{Global}
use Rattle.std.proofs.lemmas.List.{length-map, map-append}
use Rattle.indexmap.specs.IndexSet.{insert_key}
use Rattle.rig_names.specs.Text.{same_text}

module _ {A B : Type 0} (p : B → Bool) (f : A → B) where
  -- a test of images is a test of what they come from
  list_any-map : (xs : List A) → list_any p (map f xs) ≡ list_any (λ x. p (f x)) xs
  list_any-map [] = refl
  list_any-map (x ∷ xs) = ap (λ b. p (f x) || b) (list_any-map xs)

  position_or_len-map : (xs : List A) → position_or_len p (map f xs) ≡ position_or_len (λ x. p (f x)) xs
  position_or_len-map [] = refl
  position_or_len-map (x ∷ xs) = rw (position_or_len-map xs) refl

  position-map : (xs : List A) → position p (map f xs) ≡ position (λ x. p (f x)) xs
  position-map xs = rw (position_or_len-map xs, length-map xs f) refl

module _ (text : List ℕ) (keys : List (String Global)) (seen : List (List ℕ)) (view_is : map string_bytes keys ≡ seen) where
  pub any_text : list_any (λ k. same_text text (string_bytes k)) keys ≡ list_any (same_text text) seen
  any_text = sym (list_any-map (same_text text) string_bytes keys) ∙ ap (list_any (same_text text)) view_is

  pub index_of_text : position (λ k. same_text text (string_bytes k)) keys ≡ position (same_text text) seen
  index_of_text = sym (position-map (same_text text) string_bytes keys) ∙ ap (position (same_text text)) view_is

insertion : (added : Bool) (keys : List (String Global)) (k : String Global) → added ≡ not (list_any (string_eq k) keys)
    → map string_bytes (insert_key string_eq keys k) ≡ (if added then map string_bytes keys ++ string_bytes k ∷ [] else map string_bytes keys)
insertion added keys k e = by (list_any (string_eq k) keys) added e
  where
    by : (found added : Bool) → added ≡ not found → map string_bytes (if found then keys else keys ++ k ∷ []) ≡ (if added then map string_bytes keys ++ string_bytes k ∷ [] else map string_bytes keys)
    by true true e = absurd cc
    by true false e = refl
    by false true e = map-append string_bytes keys (k ∷ [])
    by false false e = absurd cc

-- what a set answers and holds after a text is inserted
pub insertion_of_text : (added : Bool) (keys new : List (String Global)) (k : String Global) (text : List ℕ) (seen : List (List ℕ)) → map string_bytes keys ≡ seen → string_bytes k ≡ text
    → added ≡ not (list_any (string_eq k) keys) → new ≡ insert_key string_eq keys k
    → (added ≡ not (list_any (same_text text) seen)) × (map string_bytes new ≡ (if added then seen ++ text ∷ [] else seen))
insertion_of_text added keys new k text seen view_is is e inserted = (
  e ∙ ap not (any_text (string_bytes k) keys seen view_is) ∙ ap (λ t. not (list_any (same_text t) seen)) is,
  ap (map string_bytes) inserted ∙ insertion added keys k e ∙ ap (λ t. if added then map string_bytes keys ++ t ∷ [] else map string_bytes keys) is ∙ ap (λ s. if added then s ++ text ∷ [] else s) view_is,
)
