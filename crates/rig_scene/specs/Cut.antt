-- Which reads of a scene are cut: those that would close a cycle, in the order of the quantities.
use Rattle.std.specs.Prelude.{◌&&◌, List, map, filter, Bool, not}
use Rattle.std.specs.List.{flat_map, list_any}
use Rattle.rig_cycles.specs.Cut.{Arrow, cuts_from}
use Rattle.rig_scene.specs.declared.quantity.Quantity.{Quantity}
use Rattle.rig_scene.specs.declared.quantity.CutRead.{CutRead}
use Rattle.rig_scene.specs.Scene.{SceneRecord}
use Rattle.rig_scene.specs.Quantities.{same_quantity, quantities, reads}

-- all reads of a scene: by their readers in order, and in order for each
abbrev pub arrows : SceneRecord → List (Arrow Quantity)
arrows scene =
    flat_map (λ q. map (λ r. record { reader = q; source = r.source; is_reference = r.reference }) (reads scene q)) (quantities scene)

-- the inner reads, which are always kept, and the reference reads, in the order in which they are tested
abbrev pub inner_arrows : SceneRecord → List (Arrow Quantity)
inner_arrows scene = filter (λ a. not a.is_reference) (arrows scene)

abbrev pub reference_arrows : SceneRecord → List (Arrow Quantity)
reference_arrows scene = filter (λ a. a.is_reference) (arrows scene)

-- The cut reads of a scene, in the order in which they are tested. They are closed to proofs that don't say
-- `unfolding cuts`.
unfoldable pub cuts : SceneRecord → List CutRead
cuts scene =
    map (λ a. record { source = a.source; reader = a.reader }) (cuts_from same_quantity (inner_arrows scene) (reference_arrows scene))

-- whether a read of a source by a reader is among these cut ones
abbrev pub is_among : List CutRead → Quantity → Quantity → Bool
is_among cut source reader = list_any (λ c. same_quantity c.source source && same_quantity c.reader reader) cut

-- whether a reference read of a source by a reader is cut
abbrev pub is_cut : SceneRecord → Quantity → Quantity → Bool
is_cut scene source reader = is_among (cuts scene) source reader
