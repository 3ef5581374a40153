-- The history: a line for each turn, in order.
use Rattle.std.specs.Prelude.{ℕ, suc, List, [], ◌∷◌, ◌++◌, codes}
use Rattle.std.specs.Fmt.{decimal}
use Rattle.rig_edits.specs.declared.cause.EditCause.{EditCause}
use Rattle.rig_edits.specs.declared.cause.EditCause.TheVariants.{Full}
use Rattle.rig_edits.specs.Cause.{cause_code}
use Rattle.rig_text.specs.declared.history.Reply.{Reply}
use Rattle.rig_text.specs.declared.history.Reply.TheVariants.{Looked, Accepted, Refused}
use Rattle.rig_text.specs.declared.history.Turn.{Turn}
use Rattle.rig_text.specs.Line.{line_feed}

-- ` COUNT of LIMIT` behind the code of a list that is full
abbrev pub room_words : EditCause → List ℕ
room_words (Full count limit) = 32 ∷ decimal count ++ codes " of " ++ decimal limit
room_words cause = []

-- `E5`, or `E9 COUNT of LIMIT`
abbrev pub cause_words : EditCause → List ℕ
cause_words cause = cause_code cause ++ room_words cause

abbrev pub reply_words : Reply → List ℕ
reply_words Looked = codes "look"
reply_words Accepted = codes "accepted"
reply_words (Refused cause) = codes "refused " ++ cause_words cause

-- `S look`, `S accepted` or `S refused C`
abbrev pub answered_words : ℕ → Reply → List ℕ
answered_words step reply = decimal step ++ 32 ∷ reply_words reply ++ line_feed

-- `turn K track T step S look`, `.. accepted` or `.. refused C`
abbrev pub turn_line : ℕ → Turn → List ℕ
turn_line k turn =
    codes "turn " ++ decimal k ++ codes " track " ++ decimal turn.track ++ codes " step " ++ answered_words turn.step turn.reply

-- the lines of turns that are numbered from k on
abbrev pub turn_lines : ℕ → List Turn → List ℕ
turn_lines k [] = []
turn_lines k (turn ∷ turns) = turn_line k turn ++ turn_lines (suc k) turns

-- the whole history
abbrev pub history_lines : List Turn → List ℕ
history_lines turns = turn_lines 0 turns
