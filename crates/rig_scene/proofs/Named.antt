-- What a search of the objects by a name found, and what it says where it found nothing.
use Rattle.std.proofs.Common.{◌≡◌, ◌≢◌, ℕ, zero, suc, List, [], ◌∷◌, get_or, Bool, true, false, cond, Option, Some, None, option_map, MatchOption, IfSome, IfNone, refl, sym, ◌∙◌, arith, true≢false}
use Rattle.std.specs.List.{find, All, Any, Contains}
use Rattle.std.proofs.lemmas.Slice.Eq.{bytes_eq-Decides}
use Rattle.rig_scene.specs.declared.object.Object.{Object}
use Rattle.rig_scene.specs.Text.{same_text}
use Rattle.rig_scene.specs.Find.{id_named}

module _ {X : Type 0} (p : X → Bool) where
  all_from_head : (x : X) (xs : List X) → p x ≡ false → All (λ y. p y ≡ false) xs → All (λ y. p y ≡ false) (x ∷ xs)
  all_from_head x xs e h zero d l = e
  all_from_head x xs e h (suc k) d l = h k d (omega arith)

  found_later : (x : X) (xs : List X) (r : Option X) → p x ≡ false → MatchOption r (All (λ y. p y ≡ false) xs) (λ y. Contains xs y × (p y ≡ true)) → MatchOption r (All (λ y. p y ≡ false) (x ∷ xs)) (λ y. Contains (x ∷ xs) y × (p y ≡ true))
  found_later x xs None e h = all_from_head x xs e h
  found_later x xs (Some y) e h = ((suc h.0.0, omega (arith, h.0.1), h.0.2), h.1)

  found_by_head : (x : X) (xs : List X) (b : Bool) → p x ≡ b → MatchOption (find p xs) (All (λ y. p y ≡ false) xs) (λ y. Contains xs y × (p y ≡ true)) → MatchOption (cond b (Some x) (find p xs)) (All (λ y. p y ≡ false) (x ∷ xs)) (λ y. Contains (x ∷ xs) y × (p y ≡ true))
  found_by_head x xs true e h = ((0, omega arith, refl), e)
  found_by_head x xs false e h = found_later x xs (find p xs) e h

  -- what is found is an element that passes; where nothing is found, none passes
  found : (xs : List X) → MatchOption (find p xs) (All (λ x. p x ≡ false) xs) (λ x. Contains xs x × (p x ≡ true))
  found [] = λ k d l. absurd (omega arith)
  found (x ∷ xs) = found_by_head x xs (p x) refl (found xs)

named_if : (name : List ℕ) (os : List Object) (r : Option Object) → MatchOption r (All (λ o. same_text o.name name ≡ false) os) (λ o. Contains os o × (same_text o.name name ≡ true)) → IfSome (option_map (λ o. o.id) r) (λ id. Any (λ o. (o.id ≡ id) × (o.name ≡ name)) os)
named_if name os None h = tt
named_if name os (Some o) h = (h.0.0, o, h.0.1, h.0.2, (refl, (bytes_eq-Decides o.name name).0 h.1))

unnamed_if : (name : List ℕ) (os : List Object) (r : Option Object) → MatchOption r (All (λ o. same_text o.name name ≡ false) os) (λ o. Contains os o × (same_text o.name name ≡ true)) → IfNone (option_map (λ o. o.id) r) (All (λ o. o.name ≢ name) os)
unnamed_if name os None h = λ k d l same. true≢false (sym ((bytes_eq-Decides (get_or os k d).name name).1 same) ∙ h k d l)
unnamed_if name os (Some o) h = tt

-- the id that is found is that of an object of the name
pub some_named : (name : List ℕ) (os : List Object) → IfSome (id_named name os) (λ id. Any (λ o. (o.id ≡ id) × (o.name ≡ name)) os)
some_named name os = named_if name os (find (λ o. same_text o.name name) os) (found (λ o. same_text o.name name) os)

-- where no id is found, no object has the name
pub none_named : (name : List ℕ) (os : List Object) → IfNone (id_named name os) (All (λ o. o.name ≢ name) os)
none_named name os = unnamed_if name os (find (λ o. same_text o.name name) os) (found (λ o. same_text o.name name) os)
