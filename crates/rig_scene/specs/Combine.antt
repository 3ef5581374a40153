-- How a driver makes one number of its variables' numbers (Blender Manual, Drivers).
use Rattle.std.specs.Prelude.{List, length, unwrap_or, ℤ, pos, ◌+ℤ◌}
use Rattle.std.specs.List.{fold, reduce}
use Rattle.std.specs.Int.{int_min, int_max}
use Rattle.rig_fixed.specs.Fixed.{clamp}
use Rattle.rig_fixed.specs.Number.{rdiv}
use Rattle.rig_scene.specs.declared.driver.Driver.{Driver}
use Rattle.rig_scene.specs.declared.driver.DriverKind.{DriverKind}
use Rattle.rig_scene.specs.declared.driver.DriverKind.TheVariants.{Average, Sum, Min, Max}

-- the plain sum, which may be beyond the limits
abbrev pub total_of : List ℤ → ℤ
total_of numbers = fold (λ total number. total +ℤ number) (pos 0) numbers

-- the number that a driver of a kind makes of at least one number
abbrev pub combine : DriverKind → List ℤ → ℤ
combine Average numbers = rdiv (total_of numbers) (pos (length numbers))
combine Sum numbers = clamp (total_of numbers)
combine Min numbers = unwrap_or (reduce int_min numbers) (pos 0)
combine Max numbers = unwrap_or (reduce int_max numbers) (pos 0)

-- the number that a driver makes of its variables' numbers
abbrev pub driver_value : Driver → List ℤ → ℤ
driver_value driver numbers = combine driver.kind numbers
