-- What the curves of an id's action give, found by the tables.
use Rattle.std.proofs.Common.{◌≡◌, ℕ, List, [], ◌∷◌, ◌+◌, map, length, Bool, cond, not, Option, Some, None, ℤ, refl, sym, ap, ◌∙◌, nat_lt}
use Rattle.std.specs.Prelude.{slice_get, position, option_map, option_and_then}
use Rattle.std.specs.List.{position_or_len, prefix_len}
use Rattle.std.proofs.lemmas.List.{length-map}
use Rattle.std.proofs.lemmas.Option.{slice_get-map}
use Rattle.rig_scene.specs.declared.action.Action.{Action}
use Rattle.rig_scene.specs.declared.action.Curve.{Curve}
use Rattle.rig_scene.specs.declared.id.AnimId.{AnimId}
use Rattle.rig_scene.specs.declared.id.AnimId.TheVariants as anim
use Rattle.rig_scene.specs.declared.path.Path.{Path}
use Rattle.rig_scene.specs.ChannelNumber.{action_of, animated_number, number_among}
use Rattle.rig_scene.specs.Drivers.{action_index}
use Rattle.rig_scene.specs.Path.{same_path}
use Rattle.rig_scene.specs.Scene.{SceneRecord, object_of}
use Rattle.rig_kernel.specs.declared.tables.SceneTables.{SceneTables}
use Rattle.rig_kernel.specs.Driven.{curve_number}
use Rattle.rig_kernel.specs.Tables.{table_parts, curve_at, AreTables}

module _ {A B : Type 0} (p : B → Bool) (f : A → B) where
  prefix-map : (xs : List A) → prefix_len (λ y. not (p y)) (map f xs) ≡ prefix_len (λ x. not (p (f x))) xs
  prefix-map [] = refl
  prefix-map (x ∷ xs) = ap (λ n. cond (not (p (f x))) (1 + n) 0) (prefix-map xs)

  -- where a test first passes among what a function gives
  pub position-map : (xs : List A) → position p (map f xs) ≡ position (λ x. p (f x)) xs
  position-map xs =
      ap (λ n. cond (nat_lt n (length (map f xs))) (Some n) None) (prefix-map xs)
      ∙ ap (λ l. cond (nat_lt (position_or_len (λ x. p (f x)) xs) l) (Some (position_or_len (λ x. p (f x)) xs)) None) (length-map xs f)

and_then_twice : {A B C : Type 0} (f : A → Option B) (g : B → Option C) (o : Option A) → option_and_then g (option_and_then f o) ≡ option_and_then (λ x. option_and_then g (f x)) o
and_then_twice f g None = refl
and_then_twice f g (Some x) = refl

-- the action of an id is that of its index
action_is : (s : SceneRecord) (id : AnimId) → action_of s id ≡ option_and_then (slice_get s.actions) (action_index s id)
action_is s (anim.Object o) = sym (and_then_twice (λ object. object.action) (slice_get s.actions) (object_of s o))
action_is s (anim.Pencil p) = sym (and_then_twice (λ pencil. pencil.action) (slice_get s.actions) (slice_get s.pencils p))

among_curves : (numbers : List (Option ℤ)) (path : Path) (found : Option Action)
    → option_and_then (λ action. number_among action numbers path) found
    ≡ curve_number numbers (option_and_then (position (λ p. same_path p path)) (option_map (λ (a : Action). map (λ c. c.path) a.curves) found))
among_curves numbers path None = refl
among_curves numbers path (Some action) = ap (curve_number numbers) (sym (position-map (λ p. same_path p path) (λ (c : Curve). c.path) action.curves))

module _ (s : SceneRecord) (tables : SceneTables) (are : AreTables tables (table_parts s)) where
  by_index : (numbers : List (Option ℤ)) (path : Path) (action : Option ℕ)
      → option_and_then (λ action. number_among action numbers path) (option_and_then (slice_get s.actions) action)
      ≡ curve_number numbers (option_and_then (λ a. curve_at tables a path) action)
  by_index numbers path None = refl
  by_index numbers path (Some a) =
      among_curves numbers path (slice_get s.actions a)
      ∙ ap (λ found. curve_number numbers (option_and_then (position (λ p. same_path p path)) found)) (sym (slice_get-map (λ (a : Action). map (λ c. c.path) a.curves) s.actions a))
      ∙ ap (curve_number numbers) (sym (are.curves a path))

  -- what the curve of a path gives, by its index in the table
  pub animated_is : (id : AnimId) (path : Path) (numbers : List (Option ℤ)) (action : Option ℕ) → action_index s id ≡ action
      → curve_number numbers (option_and_then (λ a. curve_at tables a path) action) ≡ animated_number s (λ other. numbers) id path
  unfolding animated_number
  animated_is id path numbers action is =
      sym (by_index numbers path action)
      ∙ ap (λ a. option_and_then (λ action. number_among action numbers path) (option_and_then (slice_get s.actions) a)) (sym is)
      ∙ ap (option_and_then (λ action. number_among action numbers path)) (sym (action_is s id))
