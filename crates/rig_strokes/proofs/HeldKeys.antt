-- Where no key is at or before a frame, and only there, each is after it.
use Rattle.std.proofs.Common.{◌≡◌, List, [], ◌∷◌, All, filter, cond, false, None, ℤ, ◌<ℤ◌, int_le, refl, subst, arith}
use Rattle.std.proofs.lemmas.Int.{ints}
use Rattle.std.proofs.lemmas.List.Elements.{All-nil, All-cons, All-head, All-tail}
use Rattle.std.specs.List.{last_or}
use Rattle.rig_scene.specs.declared.pencil.LayerKey.{LayerKey}
use Rattle.rig_scene.specs.Keys.{key_up_to}
use Rattle.rig_scene.specs.Rising.{last_or-fails}

after-if-not : (a frame : ℤ) → int_le a frame ≡ false → frame <ℤ a
after-if-not a frame fails = grind (arith, ints)

not-if-after : (a frame : ℤ) → frame <ℤ a → int_le a frame ≡ false
not-if-after a frame after = grind (arith, ints)

pub after-if_none : (keys : List LayerKey) (frame : ℤ) → key_up_to (λ k. k.frame) frame keys ≡ None → All (λ k. frame <ℤ k.frame) keys
after-if_none [] frame none = All-nil (λ k. frame <ℤ k.frame)
after-if_none (k ∷ ks) frame none =
    let rest = filter (λ k. int_le k.frame frame) ks in
    let fails : int_le k.frame frame ≡ false = last_or-fails (λ k. int_le k.frame frame) k ks none in
    let others : last_or None rest ≡ None = subst (λ b. last_or None (cond b (k ∷ rest) rest) ≡ None) fails none in
    All-cons (λ k. frame <ℤ k.frame) k ks (after-if-not k.frame frame fails) (after-if_none ks frame others)

pub none-if_after : (keys : List LayerKey) (frame : ℤ) → All (λ k. frame <ℤ k.frame) keys → key_up_to (λ k. k.frame) frame keys ≡ None
none-if_after [] frame after = refl
none-if_after (k ∷ ks) frame after =
    let fails : int_le k.frame frame ≡ false = not-if-after k.frame frame (All-head (λ k. frame <ℤ k.frame) k ks after) in
    rw fails (none-if_after ks frame (All-tail (λ k. frame <ℤ k.frame) k ks after))
