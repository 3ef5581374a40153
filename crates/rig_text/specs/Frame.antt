-- The text of a frame of empty objects.
use Rattle.std.specs.Prelude.{ℕ, ℤ, List, [], ◌∷◌, ◌++◌, codes}
use Rattle.std.specs.Fmt.{decimal, signed_decimal}
use Rattle.std.specs.List.{flat_map}
use Rattle.rig_fixed.specs.Transform.{Transform}
use Rattle.rig_scene.specs.declared.modifier.Mode.{Mode}
use Rattle.rig_scene.specs.declared.object.Object.{Object}
use Rattle.rig_text.specs.Line.{line_feed, spaced}
use Rattle.rig_text.specs.Track.{mode_word}

-- the eight numbers of a transform
abbrev pub transform_numbers : Transform → List ℤ
transform_numbers t = t.loc.x ∷ t.loc.y ∷ t.loc.z ∷ t.rot.w ∷ t.rot.x ∷ t.rot.y ∷ t.rot.z ∷ t.scale ∷ []

-- `object X Y Z RW RX RY RZ S NAME`
abbrev pub object_line : List ℕ → Transform → List ℕ
object_line name t = codes "object" ++ flat_map spaced (transform_numbers t) ++ 32 ∷ name ++ line_feed

-- a line for each object, by its transform in the world
abbrev pub object_lines : List Object → List Transform → List ℕ
object_lines [] worlds = []
object_lines (object ∷ objects) [] = []
object_lines (object ∷ objects) (world ∷ worlds) = object_line object.name world ++ object_lines objects worlds

-- `frame F viewport` or `frame F render`
abbrev pub frame_line : Mode → ℤ → List ℕ
frame_line mode frame = codes "frame " ++ signed_decimal frame ++ 32 ∷ mode_word mode ++ line_feed

-- `cuts C`
abbrev pub cuts_line : ℕ → List ℕ
cuts_line cuts = codes "cuts " ++ decimal cuts ++ line_feed

-- a frame's lines
abbrev pub frame_lines : Mode → ℤ → ℕ → List Object → List Transform → List ℕ
frame_lines mode frame cuts objects worlds =
    frame_line mode frame ++ cuts_line cuts ++ object_lines objects worlds ++ codes "end" ++ line_feed
