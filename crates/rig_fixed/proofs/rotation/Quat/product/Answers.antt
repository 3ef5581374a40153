use Rattle.std.proofs.Common.{◌∙◌, ap}
use Rattle.rig_fixed.specs.Rotation.{unit_rotation, product}
use Rattle.rig_fixed.proofs.rotation.Quat.product.Goals as goal

pub returns : goal.returns
unfolding product
returns c = c.unit_rotation.ensures ∙ ap unit_rotation c.quaternion_product.ensures
