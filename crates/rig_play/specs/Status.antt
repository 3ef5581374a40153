-- The exit status of each way to end.
use Rattle.std.specs.Prelude.{ℕ, Result, Ok as ran, Err as refused}
use Rattle.rig_play.specs.declared.status.Status.{Status}
use Rattle.rig_play.specs.declared.status.Status.TheVariants.{Ok, NoMemory, Usage, ReadFault, WriteFault, TooLong, NotJson, BadScene, BadScript, Unbuilt}

abbrev pub code_of : Status → ℕ
code_of Ok = 0
code_of NoMemory = 1
code_of Usage = 2
code_of ReadFault = 3
code_of WriteFault = 4
code_of TooLong = 5
code_of NotJson = 6
code_of BadScene = 7
code_of BadScript = 8
code_of Unbuilt = 20

-- how the program ends: as its run did, or for want of memory where the run could not begin
abbrev pub status_of : {E : Type 0} → Result Status E → Status
status_of (ran status) = status
status_of (refused e) = NoMemory
