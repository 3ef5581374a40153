-- The first fault of lists one after the other, and of a value in which another stands.
use Rattle.std.proofs.Common.{◌≡◌, List, [], ◌∷◌, ◌++◌, map, Option, Some, None, option_map, Result, Ok, Err, refl, ap, sym, ◌∙◌}
use Rattle.rig_scenejson.specs.declared.fault.Fault.{Fault}
use Rattle.rig_scenejson.specs.declared.fault.Hop.{Hop}
use Rattle.rig_scenejson.specs.declared.fault.SceneStop.{SceneStop}
use Rattle.rig_scenejson.specs.declared.fault.SceneStop.TheVariants as stops
use Rattle.rig_scenejson.specs.Tests.{Reads, Tests, MovedTo, moved, first}

-- the first of one list after another: the first of the one, else of the other
abbrev pub or_first : {A : Type 0} → Option A → Option A → Option A
or_first None other = other
or_first (Some x) other = Some x

pub first_append : {A : Type 0} (xs ys : List A) → first (xs ++ ys) ≡ or_first (first xs) (first ys)
first_append [] ys = refl
first_append (x ∷ xs) ys = refl

pub first_map : {A B : Type 0} (f : A → B) (xs : List A) → first (map f xs) ≡ option_map f (first xs)
first_map f [] = refl
first_map f (x ∷ xs) = refl

-- what was answered of a value, as that of the value in which it stands
module _ {A : Type 0} (hop : Hop) where
  pub reads_moved : (a b : Result A SceneStop) (value : A) (faults : List Fault) → MovedTo hop a b → Reads a value (first faults)
      → Reads b value (first (map (moved hop) faults))
  reads_moved (Ok x) (Ok y) value faults m r = (m ∙ r.0, first_map (moved hop) faults ∙ ap (option_map (moved hop)) r.1)
  reads_moved (Ok x) (Err stop) value faults m r = absurd m
  reads_moved (Err stop) (Ok y) value faults m r = absurd m
  reads_moved (Err stop) (Err stops.NoMemory) value faults m r = tt
  reads_moved (Err stops.NoMemory) (Err (stops.Fault f)) value faults m r = absurd m
  reads_moved (Err (stops.Fault g)) (Err (stops.Fault f)) value faults m r = first_map (moved hop) faults ∙ ap (option_map (moved hop)) r ∙ ap Some (sym m)

  pub tests_moved : (a b : Result A SceneStop) (faults : List Fault) → MovedTo hop a b → Tests a (first faults) → Tests b (first (map (moved hop) faults))
  tests_moved (Ok x) (Ok y) faults m r = first_map (moved hop) faults ∙ ap (option_map (moved hop)) r
  tests_moved (Ok x) (Err stop) faults m r = absurd m
  tests_moved (Err stop) (Ok y) faults m r = absurd m
  tests_moved (Err stop) (Err stops.NoMemory) faults m r = tt
  tests_moved (Err stops.NoMemory) (Err (stops.Fault f)) faults m r = absurd m
  tests_moved (Err (stops.Fault g)) (Err (stops.Fault f)) faults m r = first_map (moved hop) faults ∙ ap (option_map (moved hop)) r ∙ ap Some (sym m)
