-- The tags after an edit.
use Rattle.std.specs.Prelude.{◌&&◌, ◌||◌, List, [], ◌∷◌, filter, Bool, true, false, not}
use Rattle.std.specs.List.{list_any}
use Rattle.rig_scene.specs.declared.operation.OpId.{OpId}
use Rattle.rig_scene.specs.Operations.{InLink, operations, ins}
use Rattle.rig_scene.specs.Scene.{SceneRecord}
use Rattle.rig_links.specs.Numbers.{same_operation}

-- whether an operation is among others
abbrev pub is_one_of : List OpId → OpId → Bool
is_one_of ops op = list_any (same_operation op) ops

-- whether two links are of one operation, and both cut or both kept
abbrev pub same_link : InLink → InLink → Bool
same_link a b = same_operation a.op b.op && same_mark a.cut b.cut
  where
    same_mark : Bool → Bool → Bool
    same_mark true cut = cut
    same_mark false cut = not cut

-- whether two lists have the same links, one after the other
abbrev pub same_links : List InLink → List InLink → Bool
same_links [] [] = true
same_links [] (b ∷ others) = false
same_links (a ∷ more) [] = false
same_links (a ∷ more) (b ∷ others) = same_link a b && same_links more others

-- whether an operation of a scene is tagged after an edit that led to it from another scene and touched some operations: it was tagged
-- or is touched, or the scene before hadn't it, or its in-links were others
abbrev pub is_tagged_after : SceneRecord → SceneRecord → List OpId → List OpId → OpId → Bool
is_tagged_after before after tags touched op =
    is_one_of tags op || is_one_of touched op || not (is_one_of (operations before) op) || not (same_links (ins before op) (ins after op))

-- the operations that are tagged after the edit, in the order of the scene
unfoldable pub retagged : SceneRecord → SceneRecord → List OpId → List OpId → List OpId
retagged before after tags touched = filter (is_tagged_after before after tags touched) (operations after)
