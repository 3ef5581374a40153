-- What the readers of names and paths answer.
use Rattle.std.specs.Prelude.{◌≡◌, ℕ, List, [], ◌∷◌, Option, Some, None, is_some, Result, Ok, Err}
use Rattle.serde_json.specs.Data.{Data}
use Rattle.rig_scene.specs.declared.path.Path.{Path}
use Rattle.rig_scene.specs.Channel.{channel_named, axis_named}
use Rattle.rig_scenejson.specs.declared.fault.Fault.{Fault}
use Rattle.rig_scenejson.specs.declared.fault.Hop.TheVariants as hops
use Rattle.rig_scenejson.specs.declared.member.Member.TheVariants as m
use Rattle.rig_scenejson.specs.declared.value.NameFault.{NameFault}
use Rattle.rig_scenejson.specs.declared.value.NameFault.TheVariants as names
use Rattle.rig_scenejson.specs.declared.value.PathFault.{PathFault}
use Rattle.rig_scenejson.specs.declared.value.PathFault.TheVariants as paths
use Rattle.rig_scenejson.specs.Tests.{fault, first, required}
use Rattle.rig_scenejson.specs.Value.{text_of, name_faults, word_faults}
use Rattle.rig_scenejson.specs.Given.{path_given}
use Rattle.rig_scenejson.specs.PassOne.{path_faults}

-- the name, or what is wrong with it
abbrev pub NameAnswer : Result (List ℕ) NameFault → Data → Type 0
NameAnswer (Ok name) d = (name ≡ text_of d) × (name_faults d ≡ [])
NameAnswer (Err names.NoMemory) d = name_faults d ≡ []
NameAnswer (Err (names.Fault cause)) d = name_faults d ≡ fault cause

-- the faults of a channel, and of the axis of a layer
abbrev pub channel_faults : Data → List Fault
channel_faults d = required m.Channel (word_faults (λ s. is_some (channel_named s))) d

abbrev pub axis_faults : Data → List Fault
axis_faults d = required m.Channel (word_faults (λ s. is_some (axis_named s))) d

-- what is read of some members, or their first fault, which is of a member itself
abbrev pub ReadsMembers : {A : Type 0} → Result A PathFault → A → Option Fault → Type 0
ReadsMembers (Ok x) value found = (x ≡ value) × (found ≡ None)
ReadsMembers (Err paths.NoMemory) value found = Unit {0}
ReadsMembers (Err (paths.Fault cause member)) value found = found ≡ Some (record { cause = cause; place = hops.Member member ∷ [] })

-- the path, or the first fault of its members
abbrev pub PathAnswer : Result Path PathFault → Data → Type 0
PathAnswer result d = ReadsMembers result (path_given d) (first (path_faults d))
