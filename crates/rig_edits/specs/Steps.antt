-- What a step of an edit answers: what it finds, or the first of its own causes.
use Rattle.std.specs.Prelude.{◌≡◌, ℕ, ◌<◌, List, length, slice_get, Bool, Option, None, Some, Result, Ok, Err}
use Rattle.std.specs.List.{find, position}
use Rattle.rig_edits.specs.declared.cause.EditCause.{EditCause}

-- Ok where no cause of the step holds, with a value of which P holds; else the first cause that holds
abbrev pub Finds : {T : Type 0} → Result T EditCause → Option EditCause → (T → Type 0) → Type 0
Finds (Ok x) cause P = (cause ≡ None) × P x
Finds (Err stop) cause P = cause ≡ Some stop

-- the first element that passes a test stands at an index
pub record FoundAt {A : Type 0} (test : A → Bool) (xs : List A) (index : ℕ) : Type 0 where
  pub element : A
  pub is_at : slice_get xs index ≡ Some element
  pub is_found : find test xs ≡ Some element
  pub is_position : position test xs ≡ Some index
  pub within : index < length xs

-- no element passes a test
pub record FoundNowhere {A : Type 0} (test : A → Bool) (xs : List A) : Type 0 where
  pub is_found : find test xs ≡ None
  pub is_position : position test xs ≡ None
