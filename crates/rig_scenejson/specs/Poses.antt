-- The records of a pose, as what reads them keeps them: the names of their bones, and their channels in the same order.
use Rattle.std.specs.Prelude.{◌≡◌, ℕ, List, [], ◌∷◌, if◌then◌else◌}
use Rattle.serde_json.specs.Data.{Items}
use Rattle.rig_scene.specs.declared.channel.Channels.{Channels}
use Rattle.rig_scene.specs.Text.{same_text}
use Rattle.rig_scenejson.specs.Given.{at_rest, pose_of_bone}

-- the channels of a bone, those of the rest where it isn't there
abbrev pub kept : List (List ℕ) → List Channels → Channels → List ℕ → Channels
kept [] channels rest bone = rest
kept (name ∷ names) [] rest bone = rest
kept (name ∷ names) (c ∷ channels) rest bone = if same_text bone name then c else kept names channels rest bone

-- what is kept of these records gives the channels that each bone has by them
abbrev pub Keeps : List (List ℕ) → List Channels → Items → Type 0
Keeps names channels records = (bone : List ℕ) → kept names channels at_rest bone ≡ pose_of_bone records bone
