-- A driver by names, as contracts see it.
use Rattle.std.specs.Prelude.{List}
use Rattle.rig_scene.specs.declared.driver.DriverKind.{DriverKind}
use Rattle.rig_edits.specs.declared.edit.NewVariable.{NewVariable}

-- how one number is made of the variables, and the variables
pub record DriverByNames : Type 0 where
  pub kind : DriverKind
  pub variables : List NewVariable
