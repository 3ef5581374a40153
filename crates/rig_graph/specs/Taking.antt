-- The tags that an edit adds.
use Rattle.std.specs.Prelude.{◌++◌, List, [], ◌∷◌, if◌then◌else◌}
use Rattle.rig_flush.specs.Retag.{is_one_of}
use Rattle.rig_scene.specs.declared.operation.OpId.{OpId}

-- one tag more, where it is an operation that isn't tagged yet
abbrev pub with_tag : List OpId → List OpId → OpId → List OpId
with_tag ops tags op = if is_one_of ops op then if is_one_of tags op then tags else tags ++ op ∷ [] else tags

-- more tags, one after the other
abbrev pub with_tags : List OpId → List OpId → List OpId → List OpId
with_tags ops tags [] = tags
with_tags ops tags (op ∷ more) = with_tags ops (with_tag ops tags op) more
