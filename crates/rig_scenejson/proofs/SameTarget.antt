-- Targets that compare as equal are the same.
use Rattle.std.proofs.Common.{◌≡◌, ◌&&◌, List, ℕ, Bool, true, false, refl, ap}
use Rattle.std.proofs.Math.Path.{fun_ext}
use Rattle.rig_scene.specs.declared.path.Path.{Path}
use Rattle.rig_scene.specs.Text.{same_text}
use Rattle.rig_scenejson.specs.contracts.before.TargetPartialEq.TheImpl.{eq-value}
use Rattle.rig_scenejson.specs.declared.before.Target.{Target}
use Rattle.rig_scenejson.specs.PassOne.{same_target}
use Rattle.rig_scenejson.proofs.SamePath.{equal_same_path}

equal-parts : (x y : Bool) (m n : List ℕ) (p q : Path) → (eq-value).it (record { is_pencil = x; id = m; path = p }) (record { is_pencil = y; id = n; path = q }) ≡ same_target (record { is_pencil = x; id = m; path = p }) (record { is_pencil = y; id = n; path = q })
equal-parts true true m n p q = ap (λ same. same_text m n && same) (equal_same_path p q)
equal-parts false false m n p q = ap (λ same. same_text m n && same) (equal_same_path p q)
equal-parts x y m n p q = refl

-- the comparison of a target with others
pub equal_target : (a : Target) → (eq-value).it a ≡ same_target a
equal_target a = fun_ext (λ b. equal-parts a.is_pencil b.is_pencil a.id b.id a.path b.path)
