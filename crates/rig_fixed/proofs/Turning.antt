-- A coordinate of a point after a turn, from the numbers that the code computes.
use Rattle.std.proofs.Common.{◌≡◌, ◌∙◌, ap, FitsSigned, to_z, of_z, w64}
use Rattle.std.proofs.Math.IntN.{ℤ, ◌+ℤ◌, ◌-ℤ◌, ◌*ℤ◌}
use Rattle.std.specs.Int.{w128}
use Rattle.std.proofs.lemmas.Int.{to_z-of_z}
use Rattle.rig_fixed.specs.Fixed.{clamp}
use Rattle.rig_fixed.specs.Rotation.{turn}
use Rattle.rig_fixed.specs.declared.vector.V3.{V3}

pub difference_of : (a b c d A B C D : ℤ) → A ≡ a → B ≡ b → C ≡ c → D ≡ d → A *ℤ B -ℤ C *ℤ D ≡ a *ℤ b -ℤ c *ℤ d
difference_of a b c d A B C D ea eb ec ed = cc

turn_of : (w once twice W O T : ℤ) → W ≡ w → O ≡ once → T ≡ twice → turn W O T ≡ turn w once twice
turn_of w once twice W O T ew eo et = ap (λ (z : ℤ). turn z O T) ew ∙ ap (λ (z : ℤ). turn w z T) eo ∙ ap (turn w once) et

pub coordinate_is : (coordinate w once twice offset after D T : ℤ)
    → FitsSigned w64 w → FitsSigned w64 once → FitsSigned w128 twice → FitsSigned w64 offset
    → once ≡ D → twice ≡ T
    → offset ≡ turn (to_z w64 (of_z w64 w)) (to_z w64 (of_z w64 once)) (to_z w128 (of_z w128 twice))
    → after ≡ clamp (coordinate +ℤ to_z w64 (of_z w64 offset))
    → after ≡ clamp (coordinate +ℤ turn w D T)
coordinate_is coordinate w once twice offset after D T fw fo ft ff eo et ef ep =
    let turn_is : offset ≡ turn w D T = ef ∙ turn_of w D T (to_z w64 (of_z w64 w)) (to_z w64 (of_z w64 once)) (to_z w128 (of_z w128 twice))
    (to_z-of_z w64 w fw) (to_z-of_z w64 once fo ∙ eo) (to_z-of_z w128 twice ft ∙ et) in
    ep ∙ ap (λ (z : ℤ). clamp (coordinate +ℤ z)) (to_z-of_z w64 offset ff ∙ turn_is)

abbrev pub v3_of : ℤ → ℤ → ℤ → V3
v3_of x y z = record { x = x; y = y; z = z }

pub v3_is : (x y z X Y Z : ℤ) → x ≡ X → y ≡ Y → z ≡ Z → v3_of x y z ≡ v3_of X Y Z
v3_is x y z X Y Z ex ey ez = cc
