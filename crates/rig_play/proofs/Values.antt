-- What the typed getters read of a text is what the definition says of it.
use Rattle.std.proofs.Common.{◌≡◌, ℕ, Bool, true, false, List, Option, Some, None, refl, sym, codes}
use Rattle.std.specs.Prelude.{Ok, Result, unwrap_or}
use Rattle.std.specs.Option.{option_map_or}
use Rattle.std.specs.Str.{bytes_eq}
use Rattle.std.specs.Str.Parse.{ParsesBool, ParsesUnsigned, digits_value, without_leading_plus}
use Rattle.std.proofs.lemmas.Slice.Eq.{bytes_eq-Decides}
use Rattle.clap.specs.Words.{ReadsOne}

pub flag_read : (E : Type 0) (text : Option (List ℕ)) (r : Option Bool) → (text ≡ None → r ≡ None)
    → ((t : List ℕ) → text ≡ Some t → ReadsOne {T = Bool} {E = E} ParsesBool t r)
    → unwrap_or r false ≡ option_map_or (λ t. bytes_eq t (codes "true")) text false
flag_read E None r none some = rw (none refl) refl
flag_read E (Some t) None none some =
    let h = some t refl in go (bytes_eq t (codes "true")) refl
    (λ e. absurd (h.1.0 ((bytes_eq-Decides t (codes "true")).0 e)))
  where
    go : (b : Bool) → bytes_eq t (codes "true") ≡ b → (bytes_eq t (codes "true") ≡ true → false ≡ bytes_eq t (codes "true"))
        → false ≡ bytes_eq t (codes "true")
    go true e never = never e
    go false e never = sym e
flag_read E (Some t) (Some true) none some = let is = some t refl in rw is refl
flag_read E (Some t) (Some false) none some = let is = some t refl in rw is refl

pub number_read : (E : Type 0) (G : List ℕ → Result ℕ E → Type 0) (text : Option (List ℕ)) (t : List ℕ) (n : ℕ) → text ≡ Some t
    → ((u : List ℕ) (x : Result ℕ E) → G u x → ParsesUnsigned 32 10 u x) → ReadsOne G t (Some n)
    → n ≡ option_map_or (λ t. digits_value 10 (without_leading_plus t)) text 0
number_read E G text t n is only read = let parsed = only t (Ok n) read in rw is parsed.1
