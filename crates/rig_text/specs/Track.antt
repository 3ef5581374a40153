-- The lines of a track: its head, and the reply to each of its steps.
use Rattle.std.specs.Prelude.{ℕ, ℤ, List, ◌∷◌, ◌++◌, codes, Option, None, Some}
use Rattle.std.specs.Fmt.{decimal, signed_decimal}
use Rattle.rig_scene.specs.declared.modifier.Mode.{Mode}
use Rattle.rig_scene.specs.declared.modifier.Mode.TheVariants.{Viewport, Render}
use Rattle.rig_edits.specs.declared.cause.EditCause.{EditCause}
use Rattle.rig_text.specs.History.{cause_words}
use Rattle.rig_text.specs.Line.{line_feed}

abbrev pub mode_word : Mode → List ℕ
mode_word Viewport = codes "viewport"
mode_word Render = codes "render"

-- the mode that a track owns, or `edits`
abbrev pub owned_word : Option Mode → List ℕ
owned_word (Some mode) = mode_word mode
owned_word None = codes "edits"

-- `track T viewport`, `track T render` or `track T edits`
abbrev pub track_line : ℕ → Option Mode → List ℕ
track_line track mode = codes "track " ++ decimal track ++ 32 ∷ owned_word mode ++ line_feed

-- ` accepted turn K`, or ` refused turn K C`
abbrev pub answer_words : ℕ → Option EditCause → List ℕ
answer_words turn None = codes " accepted turn " ++ decimal turn ++ line_feed
answer_words turn (Some cause) = codes " refused turn " ++ decimal turn ++ 32 ∷ cause_words cause ++ line_feed

-- `step S accepted turn K`, or `step S refused turn K C`
abbrev pub edit_line : ℕ → ℕ → Option EditCause → List ℕ
edit_line step turn cause = codes "step " ++ decimal step ++ answer_words turn cause

-- ` turn K ran R of O`
abbrev pub ran_words : ℕ → ℕ → ℕ → List ℕ
ran_words turn ran all = codes " turn " ++ decimal turn ++ codes " ran " ++ decimal ran ++ codes " of " ++ decimal all ++ line_feed

-- `step S frame F turn K ran R of O`
abbrev pub frame_step_line : ℕ → ℤ → ℕ → ℕ → ℕ → List ℕ
frame_step_line step frame turn ran all = codes "step " ++ decimal step ++ codes " frame " ++ signed_decimal frame ++ ran_words turn ran all
