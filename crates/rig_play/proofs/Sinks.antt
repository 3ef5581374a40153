-- Writes one after another.
use Rattle.std.proofs.Common.{◌≡◌, ℕ, ◌+◌, ◌<◌, ◌++◌, length, get_or, drop, List, [], Option, Some, None, sym, ap, ◌∙◌, append_assoc, subst}
use Rattle.std.proofs.lemmas.List.{append-nil, at_drop_more}
use Rattle.std.specs.List.{flat_map}
use Rattle.rig_io.specs.Bytes.{Appended, AppendedPrefix}

-- what two writes appended is the two pieces in a row
pub appended_both : (a b c : Option (List ℕ)) (x y : List ℕ) → Appended a b x → Appended b c y → Appended a c (x ++ y)
appended_both None b c x y h k = tt
appended_both (Some w) b c x y h k =
    let k' : Appended (Some (w ++ x)) c y = rw h at k in
    k' ∙ ap Some (append_assoc w x y)

-- after a whole piece, a prefix of the next is a prefix of the two and what follows
pub prefix_after : (a b c : Option (List ℕ)) (x y z : List ℕ) → Appended a b x → AppendedPrefix b c y → AppendedPrefix a c (x ++ (y ++ z))
prefix_after a b c x y z h k = (
  x ++ k.0,
  k.1 ++ z,
  rw k.2 (ap (λ t. x ++ t) (append_assoc k.0 k.1 z) ∙ sym (append_assoc x k.0 (k.1 ++ z))),
  appended_both a b c x k.0 h k.3,
)

-- nothing was appended yet
pub appended_none : (a : Option (List ℕ)) → Appended a a []
appended_none None = tt
appended_none (Some w) = ap Some (sym (append-nil w))

-- a whole piece and a prefix of the next, of what is to be written in all
pub prefix_of_all : (a b c : Option (List ℕ)) (x y z all : List ℕ) → Appended a b x → AppendedPrefix b c y → x ++ (y ++ z) ≡ all → AppendedPrefix a c all
prefix_of_all a b c x y z all h k e = let P : List ℕ → Type 0 = λ t. AppendedPrefix a c t in subst P e (prefix_after a b c x y z h k)

-- what the elements from an index on make: what that one makes, then the others
pub flat_map-drop : {X A : Type 0} (f : X → List A) (xs : List X) (i : ℕ) (x : X) → i < length xs → x ≡ get_or xs i x → flat_map f (drop i xs) ≡ f x ++ flat_map f (drop (i + 1) xs)
flat_map-drop f xs i x h e = at_drop_more (flat_map f) xs i x h ∙ ap (λ y. f y ++ flat_map f (drop (i + 1) xs)) (sym e)
