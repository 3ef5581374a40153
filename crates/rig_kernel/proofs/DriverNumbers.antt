-- The variables of a driver in their order, each by its own inputs.
use Rattle.std.proofs.Common.{◌≡◌, ℕ, zero, suc, ◌+◌, ◌<◌, ◌≤◌, List, [], ◌∷◌, ◌++◌, length, map, take, drop, set, cond, Bool, true, false, Option, Some, None, ℤ, refl, sym, ap, subst, ◌∙◌, arith, true≢false, append_assoc}
use Rattle.std.specs.Prelude.{◌&&◌, All, is_some, slice_get, option_map, option_and_then}
use Rattle.std.specs.Option.{option_map_or}
use Rattle.std.specs.List.{flat_map, drop-map}
use Rattle.std.proofs.Math.Seq.{drop-append_seam, drop-length, take-suc-set}
use Rattle.std.proofs.lemmas.Bool.{and_parts}
use Rattle.std.proofs.lemmas.List.{append-nil, length-map}
use Rattle.std.proofs.lemmas.List.Elements.{All-nil, All-cons, All-head, All-map}
use Rattle.std.proofs.lemmas.Option.{same_Some}
use Rattle.rig_scene.specs.declared.driver.Driver.{Driver as DriverRecord}
use Rattle.rig_scene.specs.declared.driver.Space.TheVariants as space
use Rattle.rig_scene.specs.declared.driver.Variable.{Variable}
use Rattle.rig_scene.specs.declared.driver.Variable.TheVariants as variable
use Rattle.rig_scene.specs.declared.id.AnimId.{AnimId}
use Rattle.rig_scene.specs.declared.operation.OpId.TheVariants.{Animation, Driver}
use Rattle.rig_scene.specs.declared.path.Path.{Path}
use Rattle.rig_scene.specs.declared.quantity.Quantity.{Quantity}
use Rattle.rig_scene.specs.declared.quantity.Quantity.TheVariants as quantity
use Rattle.rig_scene.specs.Drivers.{action_index, driver_of, has_action, is_driven}
use Rattle.rig_scene.specs.Id.{same_id}
use Rattle.rig_scene.specs.Operations.{InLink, animation_of, kept_link, variable_links}
use Rattle.rig_scene.specs.Operations as links
use Rattle.rig_scene.specs.Pairs.{All-flat_map}
use Rattle.rig_scene.specs.Path.{same_path}
use Rattle.rig_scene.specs.Quantities.{reference_read}
use Rattle.rig_scene.specs.Same.{same_id-equal, same_id-itself, same_path-equal, same_path-itself}
use Rattle.rig_scene.specs.Scene.{SceneRecord}
use Rattle.rig_scene.specs.Value.{number_in}
use Rattle.rig_laws.specs.Lists.{All-of_any}
use Rattle.rig_laws.specs.Kernel.{variable_number, variable_numbers}
use Rattle.rig_laws.specs.Output.{Output, link_of, number_at}
use Rattle.rig_kernel.specs.VariableBy.{is_driver_of, taken_by, TakesItsDriver}
use Rattle.rig_kernel.proofs.Behind.{drop_twice, number_behind, slice_get-drop}
use Rattle.rig_kernel.proofs.LinkOps as ops

-- what is left from an element on
drop_at : {A : Type 0} (xs : List A) (k : ℕ) (x : A) → slice_get xs k ≡ Some x → drop k xs ≡ x ∷ drop (k + 1) xs
drop_at [] k x at = absurd cc
drop_at (y ∷ ys) zero x at = ap (λ y. y ∷ ys) (same_Some y x at)
drop_at (y ∷ ys) (suc k) x at = drop_at ys k x at ∙ ap (λ n. x ∷ drop n (y ∷ ys)) {x = suc (k + 1)} {y = suc k + 1} (omega arith)

module _ (s : SceneRecord) (q : Quantity) where
  -- ---- how many inputs a variable takes

  taken_is : (v : Variable) → length (variable_links s q v) ≡ taken_by s v
  taken_is (variable.Property id path) = by (is_driven s id path)
    where
      by : (b : Bool) → length (cond b (links.link_of s q (reference_read (quantity.Chan id path)) ∷ []) (map kept_link (animation_of s id)))
          ≡ cond b 1 (option_map_or (λ a. 1) (action_index s id) 0)
      by true = refl
      by false = length-map (animation_of s id) kept_link ∙ ops.animation_count s id (action_index s id) refl
  taken_is (variable.Transform o space channel) = refl

  module _ (vs : List Variable) (outs : List Output) (next k : ℕ) (v : Variable) (at : slice_get vs k ≡ Some v) where
    pub step_links : map link_of (drop next outs) ≡ flat_map (variable_links s q) (drop k vs)
        → map link_of (drop (next + taken_by s v) outs) ≡ flat_map (variable_links s q) (drop (k + 1) vs)
    step_links is =
        ap (map link_of) (drop_twice next (taken_by s v) outs) ∙ sym (drop-map link_of (taken_by s v) (drop next outs))
        ∙ ap (drop (taken_by s v)) (is ∙ ap (flat_map (variable_links s q)) (drop_at vs k v at))
        ∙ ap (λ n. drop n (variable_links s q v ++ flat_map (variable_links s q) (drop (k + 1) vs))) (sym (taken_is v))
        ∙ drop-append_seam (variable_links s q v) (flat_map (variable_links s q) (drop (k + 1) vs))

    step_numbers : variable_numbers s q (drop k vs) (drop next outs)
        ≡ variable_number s v (drop next outs) ∷ variable_numbers s q (drop (k + 1) vs) (drop (next + taken_by s v) outs)
    step_numbers =
        ap (λ vs. variable_numbers s q vs (drop next outs)) (drop_at vs k v at)
        ∙ ap (λ outs'. variable_number s v (drop next outs) ∷ variable_numbers s q (drop (k + 1) vs) outs')
        (ap (λ n. drop n (drop next outs)) (taken_is v) ∙ sym (drop_twice next (taken_by s v) outs))

    -- one number more
    pub more_numbers : (numbers : List ℤ) (number : ℤ) → number ≡ variable_number s v (drop next outs) → k < length numbers
        → take (k + 1) (set numbers k number) ++ variable_numbers s q (drop (k + 1) vs) (drop (next + taken_by s v) outs)
        ≡ take k numbers ++ variable_numbers s q (drop k vs) (drop next outs)
    more_numbers numbers number is within =
        let rest = variable_numbers s q (drop (k + 1) vs) (drop (next + taken_by s v) outs) in
        let more : k + 1 ≡ suc k = omega arith in
        ap (λ n. take n (set numbers k number) ++ rest) more
        ∙ ap (λ first. first ++ rest) (take-suc-set numbers k number within)
        ∙ append_assoc (take k numbers) (number ∷ []) rest
        ∙ ap (λ number. take k numbers ++ number ∷ rest) is
        ∙ ap (λ ns. take k numbers ++ ns) (sym step_numbers)

  -- behind the last variable there is none
  pub all_numbers : (vs : List Variable) (outs : List Output) (next k : ℕ) (numbers all : List ℤ) → length vs ≤ k → k ≤ length vs
      → take k numbers ++ variable_numbers s q (drop k vs) (drop next outs) ≡ all → take (length vs) numbers ≡ all
  all_numbers vs outs next k numbers all most least is =
      let same : length vs ≡ k = omega arith in
      ap (λ n. take n numbers) same ∙ sym (append-nil (take k numbers))
      ∙ ap (λ vs. take k numbers ++ variable_numbers s q vs (drop next outs)) (sym (ap (λ n. drop n vs) (sym same) ∙ drop-length vs)) ∙ is

  -- ---- which input is the driver of a variable's channel

  -- a link to the driver of a channel is there only where the channel has one
  abbrev IsDrivenLink : AnimId → Path → InLink → Type 0
  IsDrivenLink id path link = is_driver_of id path link.op ≡ true → is_driven s id path ≡ true

  driven_link : (id : AnimId) (path : Path) (v : Variable) → All (IsDrivenLink id path) (variable_links s q v)
  driven_link id path (variable.Property i p) = by (is_driven s i p) refl
    where
      by : (b : Bool) → is_driven s i p ≡ b → All (IsDrivenLink id path) (cond b (links.link_of s q (reference_read (quantity.Chan i p)) ∷ []) (map kept_link (animation_of s i)))
      by true e =
          All-cons (IsDrivenLink id path) (links.link_of s q (reference_read (quantity.Chan i p))) []
          (λ same. let parts = and_parts (same_id i id) (same_path p path) same in
          sym (λ j. is_driven s (same_id-equal i id parts.0 j) (same_path-equal p path parts.1 j)) ∙ e) (All-nil (IsDrivenLink id path))
      by false e =
          All-map (IsDrivenLink id path) kept_link (animation_of s i) (animation (has_action s i))
        where
          animation : (b : Bool) → All (λ op. IsDrivenLink id path (kept_link op)) (cond b (Animation i ∷ []) [])
          animation true = All-cons (λ op. IsDrivenLink id path (kept_link op)) (Animation i) [] (λ e. absurd (true≢false (sym e))) (All-nil (λ op. IsDrivenLink id path (kept_link op)))
          animation false = All-nil (λ op. IsDrivenLink id path (kept_link op))
  driven_link id path (variable.Transform o space.World channel) = All-cons (IsDrivenLink id path) _ [] (λ e. absurd (true≢false (sym e))) (All-nil (IsDrivenLink id path))
  driven_link id path (variable.Transform o space.Local channel) = All-cons (IsDrivenLink id path) _ [] (λ e. absurd (true≢false (sym e))) (All-nil (IsDrivenLink id path))
  driven_link id path (variable.Transform o (space.Pose b) channel) = All-cons (IsDrivenLink id path) _ [] (λ e. absurd (true≢false (sym e))) (All-nil (IsDrivenLink id path))

  driven_links : (id : AnimId) (path : Path) (vs : List Variable) → All (IsDrivenLink id path) (flat_map (variable_links s q) vs)
  driven_links id path vs = All-flat_map (IsDrivenLink id path) (variable_links s q) vs (All-of_any (λ v. All (IsDrivenLink id path) (variable_links s q v)) vs (driven_link id path))

  -- whether the first input is the driver of a channel
  first_driven : AnimId → Path → List Output → Option ℤ
  first_driven id path outs = option_and_then (λ (i : Output). cond (is_driver_of id path i.op) (Some (number_in i.value)) None) (slice_get outs 0)

  -- it is none where the channel has no driver
  undriven_first : (id : AnimId) (path : Path) → is_driven s id path ≡ false → (outs : List Output) → All (IsDrivenLink id path) (map link_of outs) → first_driven id path outs ≡ None
  unfolding first_driven
  undriven_first id path no_driver [] h = refl
  undriven_first id path no_driver (o ∷ os) h = by (is_driver_of id path o.op) refl
    where
      by : (b : Bool) → is_driver_of id path o.op ≡ b → cond b (Some (number_in o.value)) None ≡ None
      by true e = absurd (true≢false (sym (All-head (IsDrivenLink id path) (link_of o) (map link_of os) h e) ∙ no_driver))
      by false e = refl

  driven_first : (id : AnimId) (path : Path) (outs : List Output) (cut : Bool) (more : List InLink) → map link_of outs ≡ record { op = Driver id path; cut = cut } ∷ more → first_driven id path outs ≡ Some (number_at outs 0)
  unfolding first_driven
  driven_first id path [] cut more is = absurd cc
  driven_first id path (o ∷ os) cut more is =
      let same : link_of o ≡ record { op = Driver id path; cut = cut } = cc in
      let op : o.op ≡ Driver id path = ap (λ (l : InLink). l.op) same in
      ap (λ op. cond (is_driver_of id path op) (Some (number_in o.value)) None) op
      ∙ ap (λ b. cond b (Some (number_in o.value)) None) (ap (λ b. b && same_path path path) (same_id-itself id) ∙ same_path-itself path)

  first_is : (id : AnimId) (path : Path) (outs : List Output) (vs : List Variable) → map link_of outs ≡ flat_map (variable_links s q) (variable.Property id path ∷ vs)
      → first_driven id path outs ≡ option_map (λ d. number_at outs 0) (driver_of s id path)
  first_is id path outs vs is = by (driver_of s id path) refl
    where
      by : (d : Option DriverRecord) → driver_of s id path ≡ d → first_driven id path outs ≡ option_map (λ d. number_at outs 0) d
      by None e =
          undriven_first id path (ap is_some e) outs (subst (All (IsDrivenLink id path)) (sym is) (driven_links id path (variable.Property id path ∷ vs)))
      by (Some d) e =
          driven_first id path outs _ (flat_map (variable_links s q) vs)
          (is ∙ ap (λ b. cond b (links.link_of s q (reference_read (quantity.Chan id path)) ∷ []) (map kept_link (animation_of s id)) ++ flat_map (variable_links s q) vs) (ap is_some e))

  pub takes_driver : (vs : List Variable) (outs : List Output) (next k : ℕ) (v : Variable) → slice_get vs k ≡ Some v → map link_of (drop next outs) ≡ flat_map (variable_links s q) (drop k vs)
      → TakesItsDriver s v outs next
  unfolding first_driven
  takes_driver vs outs next k (variable.Property id path) at is =
      let here : slice_get (drop next outs) 0 ≡ slice_get outs next = slice_get-drop next outs 0 ∙ ap (slice_get outs) {x = next + 0} {y = next} (omega arith) in
      ap (option_and_then (λ (i : Output). cond (is_driver_of id path i.op) (Some (number_in i.value)) None)) (sym here)
      ∙ first_is id path (drop next outs) (drop (k + 1) vs) (is ∙ ap (flat_map (variable_links s q)) (drop_at vs k (variable.Property id path) at))
      ∙ ap (λ n. option_map (λ d. n) (driver_of s id path)) (number_behind next outs)
  takes_driver vs outs next k (variable.Transform o space channel) at is = tt
