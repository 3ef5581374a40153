use Rattle.std.proofs.Common.{rules, arith, true, ◌≡◌, ◌∙◌, ap, sym, ℤ, Some, List, [], ◌∷◌, Option, int_le, int_lt, ◌≤ℤ◌, ◌<ℤ◌, to_z, of_z, w32, None, IsNone, refl}
use Rattle.std.proofs.lemmas.Int.{to_z-of_z, ints}
use Rattle.std.specs.Option.{option_copied}
use Rattle.rig_scene.specs.declared.action.Key.{Key}
use Rattle.rig_scene.specs.Curve.{curve_at, value_from_keys}
use Rattle.rig_scene.specs.Keys.{key_up_to, key_after}
use Rattle.rig_scene.specs.Rising.{last_or-passes, find-passes, last_or-fails, find-fails, lt-of_not_le}
use Rattle.rig_curves.proofs.curve.at.Goals as goal

abbrev before_in : List Key → ℤ → Option Key
before_in keys frame = key_up_to (λ k. k.frame) frame keys

abbrev after_in : List Key → ℤ → Option Key
after_in keys frame = key_after (λ k. k.frame) frame keys

le-of_test : (a b : ℤ) → int_le a b ≡ true → a ≤ℤ b
le-of_test a b passes = grind (arith, ints)

lt-of_test : (a b : ℤ) → int_lt a b ≡ true → a <ℤ b
lt-of_test a b passes = grind (arith, ints)

-- the definition at the keys around a frame
value : (keys : List Key) (frame : ℤ) (left right : Option Key) → left ≡ before_in keys frame → right ≡ after_in keys frame → value_from_keys left right frame ≡ curve_at keys frame
unfolding curve_at
value keys frame left right before after = ap (λ key. value_from_keys key right frame) before ∙ ap (λ key. value_from_keys (before_in keys frame) key frame) after

-- there is no value only without keys
no_keys : (left right : Option Key) (frame : ℤ) → value_from_keys left right frame ≡ None → (left ≡ None) × (right ≡ None)
no_keys None None frame none = (refl, refl)
no_keys None (Some right) frame none = cc
no_keys (Some left) None frame none = cc
no_keys (Some left) (Some right) frame none = cc

none_at : (keys : List Key) (frame : ℤ) → (IsNone (curve_at keys frame) → keys ≡ []) × (keys ≡ [] → IsNone (curve_at keys frame))
unfolding curve_at
none_at [] frame = (λ _. refl, λ _. search rules)
none_at (key ∷ keys) frame = (
  λ none.
      let neither = no_keys (before_in (key ∷ keys) frame) (after_in (key ∷ keys) frame) frame (search (rules, none)) in
      let fails = last_or-fails (λ k. int_le k.frame frame) key keys neither.0 in
      let passes = lt-of_not_le key.frame frame fails in
      let contrary = find-fails (λ k. int_lt frame k.frame) key keys neither.1 in
      cc,
  λ e. cc,
)

pub value_from-requires-clause-begun : goal.value_from-requires-clause-begun
value_from-requires-clause-begun c = λ key is.
    let frame = to_z w32 (of_z w32 c.args.frame) in
    le-of_test key.frame frame (last_or-passes (λ k. int_le k.frame frame) c.as_slice.result.now None key (λ x none. cc) (sym c.keys_around.ensures.before ∙ is))

pub value_from-requires-clause-within : goal.value_from-requires-clause-within
value_from-requires-clause-within c = λ key is.
    let frame = to_z w32 (of_z w32 c.args.frame) in
    lt-of_test frame key.frame (find-passes (λ k. int_lt frame k.frame) c.as_slice.result.now key (sym c.keys_around.ensures.after ∙ is))

pub returns-clause-value : goal.returns-clause-value
returns-clause-value c =
    let keys = c.as_slice.result.now in
    let frame = to_z w32 (of_z w32 c.args.frame) in
    c.value_from.ensures
    ∙ value keys frame (option_copied c.keys_around.result.0) (option_copied c.keys_around.result.1) c.keys_around.ensures.before c.keys_around.ensures.after
    ∙ ap (λ keys. curve_at keys frame) c.as_slice.ensures
    ∙ ap (curve_at c.args.curve.now.keys) (to_z-of_z w32 c.args.frame c.ranges.frame)

pub returns-clause-none : goal.returns-clause-none
returns-clause-none c = rw (returns-clause-value c) (none_at c.args.curve.now.keys c.args.frame)
