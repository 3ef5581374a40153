-- The reads and the in-links of a scene that are kept, and the in-links that are cut.
use Rattle.std.specs.Prelude.{List, map, filter, flat_map, not, false}
use Rattle.rig_cycles.specs.Cut.{Arrow, kept_after}
use Rattle.rig_scene.specs.declared.quantity.Quantity.{Quantity}
use Rattle.rig_scene.specs.declared.quantity.Read.{Read}
use Rattle.rig_scene.specs.declared.operation.OpId.{OpId}
use Rattle.rig_scene.specs.Operations.{operations, ins}
use Rattle.rig_scene.specs.Scene.{SceneRecord}
use Rattle.rig_scene.specs.Quantities.{same_quantity}
use Rattle.rig_scene.specs.Cut.{inner_arrows, reference_arrows}
use Rattle.rig_laws.specs.LinkArrows.{reference_link}

-- the inner reads, and the reference reads that aren't cut
abbrev pub kept_arrows : SceneRecord → List (Arrow Quantity)
kept_arrows s = kept_after same_quantity (inner_arrows s) (reference_arrows s)

-- the read of a quantity, with its reader
abbrev pub arrow_of : Quantity → Read → Arrow Quantity
arrow_of q r = record { reader = q; source = r.source; is_reference = r.reference }

-- the in-links of a scene's operations that aren't cut, each as a read of the operation that is needed
abbrev pub kept_links : SceneRecord → List (Arrow OpId)
kept_links s =
    flat_map (λ op. map (λ link. record { reader = op; source = link.op; is_reference = false }) (filter (λ link. not link.cut) (ins s op))) (operations s)

-- those that are cut, in order, each as a reference read
abbrev pub cut_links : SceneRecord → List (Arrow OpId)
cut_links s = flat_map (λ op. map (λ link. reference_link op link.op) (filter (λ link. link.cut) (ins s op))) (operations s)
