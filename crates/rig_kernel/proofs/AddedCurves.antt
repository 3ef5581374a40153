-- A curve that is added to those of a name.
use Rattle.std.proofs.Common.{◌≡◌, ◌&&◌, ℕ, Bool, true, false, cond, List, Option, Some, None, refl, sym, ap, ◌∙◌}
use Rattle.std.specs.Prelude.{option_and_then, unwrap_or}
use Rattle.rig_scene.specs.Same.{same_text-Decides}
use Rattle.rig_scene.specs.Text.{same_text}
use Rattle.rig_kernel.specs.ChannelCurves.{found_or}

-- where the test doesn't pass nothing is added
pub found_as_before : (found : Option ℕ) (index : ℕ) → found_or found false index ≡ found
found_as_before (Some k) index = refl
found_as_before None index = refl

module _ {V P : Type 0} (curve : V → P → Option ℕ) where
  -- the curve of a part, among those of a name
  abbrev curve_of : Option V → P → Option ℕ
  curve_of curves part = option_and_then (λ v. curve v part) curves

  -- what a name has, or else a value without curves
  pub curve_or_none : (none : V) → ((part : P) → curve none part ≡ None) → (curves : Option V) (part : P) → curve (unwrap_or curves none) part ≡ curve_of curves part
  curve_or_none none is (Some v) part = refl
  curve_or_none none is None part = is part

  -- a value that adds a curve to those of its name adds it to those of all names
  pub curve_added : (old new : List ℕ → Option V) (name : List ℕ) (value : V) (same : P → Bool) (index : ℕ)
      → ((q : List ℕ) → new q ≡ cond (same_text name q) (Some value) (old q))
      → ((part : P) → curve value part ≡ found_or (curve_of (old name) part) (same part) index)
      → (q : List ℕ) (part : P) → curve_of (new q) part ≡ found_or (curve_of (old q) part) (same_text name q && same part) index
  curve_added old new name value same index sets adds q part = ap (λ v. curve_of v part) (sets q) ∙ by (same_text name q) refl
    where
      by : (b : Bool) → same_text name q ≡ b → curve_of (cond b (Some value) (old q)) part ≡ found_or (curve_of (old q) part) (b && same part) index
      by true e = adds part ∙ ap (λ n. found_or (curve_of (old n) part) (same part) index) ((same_text-Decides name q).0 e)
      by false e = sym (found_as_before (curve_of (old q) part) index)
