-- Which edits keep the operations of a scene and the in-links of each, by the scene before: those of a number, a key, a switch or a
-- point. Only a layer with keys needs the time, so an edit of a layer's keys is one of them where the layer has keys before and after it.
use Rattle.std.specs.Prelude.{ℕ, List, length, Bool, true, false, nat_le, option_and_then}
use Rattle.std.specs.Option.{option_map_or}
use Rattle.rig_scene.specs.Scene.{SceneRecord}
use Rattle.rig_edits.specs.declared.edit.Edit.{Edit}
use Rattle.rig_edits.specs.declared.edit.Edit.TheVariants.{SetValue, SetKey, DeleteKey, SetFlag, MovePoint, SetLayerKey, DeleteLayerKey, SetParent, SetDriver, ClearDriver, AddObject, RemoveObject, AddModifier, RemoveModifier}
use Rattle.rig_edits.specs.Named.{pencil_named, layer_named}

-- how many keys the layer of a name has, of the pencil of a name: none where there is no such layer
abbrev pub keys_of_layer : SceneRecord → List ℕ → List ℕ → ℕ
keys_of_layer s pencil layer = option_map_or (λ l. length l.keys) (option_and_then (λ p. layer_named p layer) (pencil_named s pencil)) 0

-- It is closed to proofs that don't say `unfolding keeps_links`.
unfoldable pub keeps_links : SceneRecord → Edit → Bool
keeps_links s (SetValue id path value) = true
keeps_links s (SetKey action path frame value interp) = true
keeps_links s (DeleteKey action path frame) = true
keeps_links s (SetFlag flag on) = true
keeps_links s (MovePoint pencil drawing stroke point to) = true
keeps_links s (SetLayerKey pencil layer frame drawing) = nat_le 1 (keys_of_layer s pencil layer)
keeps_links s (DeleteLayerKey pencil layer frame) = nat_le 2 (keys_of_layer s pencil layer)
keeps_links s (SetParent object parent) = false
keeps_links s (SetDriver id path driver) = false
keeps_links s (ClearDriver id path) = false
keeps_links s (AddObject name kind) = false
keeps_links s (RemoveObject object) = false
keeps_links s (AddModifier object name viewport render effect) = false
keeps_links s (RemoveModifier object modifier) = false
