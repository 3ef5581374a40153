-- The text that the command `check` prints.
use Rattle.std.specs.Prelude.{ℕ, List, ◌++◌, length, codes}
use Rattle.std.specs.Fmt.{decimal}
use Rattle.std.specs.List.{flat_map}
use Rattle.rig_scene.specs.declared.quantity.CutRead.{CutRead}
use Rattle.rig_scene.specs.Scene.{SceneRecord}
use Rattle.rig_text.specs.Line.{line_feed}
use Rattle.rig_text.specs.Quantity.{quantity_words}

-- a word that ends in a space, and a number
abbrev pub count_line : List ℕ → ℕ → List ℕ
count_line word count = word ++ decimal count ++ line_feed

-- `cut SOURCE -> READER`
abbrev pub cut_line : SceneRecord → CutRead → List ℕ
cut_line scene cut = codes "cut " ++ quantity_words scene cut.source ++ codes " -> " ++ quantity_words scene cut.reader ++ line_feed

-- `objects N`, `operations N`, `links N` and `cuts N`, and a line for each cut read
abbrev pub check_lines : SceneRecord → ℕ → ℕ → List CutRead → List ℕ
check_lines scene operations links cuts =
    count_line (codes "objects ") (length scene.objects) ++ count_line (codes "operations ") operations
    ++ count_line (codes "links ") links ++ count_line (codes "cuts ") (length cuts) ++ flat_map (cut_line scene) cuts
