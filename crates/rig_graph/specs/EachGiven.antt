-- What a function gives of the elements of a list, where it gives something of each.
use Rattle.std.specs.Prelude.{◌≡◌, ℕ, zero, suc, List, [], ◌∷◌, map, slice_get, Option, Some, None, option_and_then, IsSome}
use Rattle.std.specs.List.{All, filter_map, cons_option}
use Rattle.std.proofs.Common.{refl, sym, ap, ◌∙◌, true≢false}
use Rattle.std.proofs.lemmas.List.Elements.{All-head, All-tail}

module _ {X Y : Type 0} (f : X → Option Y) where
  there_first : (o : Option Y) (ys : List Y) → IsSome o → map Some (cons_option o ys) ≡ o ∷ map Some ys
  there_first None ys is = absurd (true≢false (sym is))
  there_first (Some y) ys is = refl

  -- there is one for each element
  pub each_given : (xs : List X) → All (λ x. IsSome (f x)) xs → map Some (filter_map f xs) ≡ map f xs
  each_given [] all = refl
  each_given (x ∷ xs) all =
      there_first (f x) (filter_map f xs) (All-head (λ x. IsSome (f x)) x xs all)
      ∙ ap (λ l. f x ∷ l) (each_given xs (All-tail (λ x. IsSome (f x)) x xs all))

  first_given : (o : Option Y) (ys : List Y) → IsSome o → slice_get (cons_option o ys) 0 ≡ o
  first_given None ys is = absurd (true≢false (sym is))
  first_given (Some y) ys is = refl

  later_given : (o : Option Y) (ys : List Y) (k : ℕ) → IsSome o → slice_get (cons_option o ys) (suc k) ≡ slice_get ys k
  later_given None ys k is = absurd (true≢false (sym is))
  later_given (Some y) ys k is = refl

  -- at an index there is what the element of that index gives
  pub given_of_index : (xs : List X) (k : ℕ) → All (λ x. IsSome (f x)) xs
      → slice_get (filter_map f xs) k ≡ option_and_then f (slice_get xs k)
  given_of_index [] k all = refl
  given_of_index (x ∷ xs) zero all = first_given (f x) (filter_map f xs) (All-head (λ x. IsSome (f x)) x xs all)
  given_of_index (x ∷ xs) (suc k) all =
      later_given (f x) (filter_map f xs) k (All-head (λ x. IsSome (f x)) x xs all)
      ∙ given_of_index xs k (All-tail (λ x. IsSome (f x)) x xs all)
