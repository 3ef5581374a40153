-- What an operation takes at the links of a quantity's reads, where each operation has its value: what each read gives.
use Rattle.std.specs.Prelude.{◌≡◌, ◌&&◌, List, [], ◌∷◌, ◌++◌, map, Bool, true, false, IsTrue, if◌then◌else◌, Option, Some, None, is_some, option_map, option_and_then, unwrap_or, ℤ, pos, Contains}
use Rattle.std.specs.Option.{option_map_or}
use Rattle.std.specs.List.{flat_map}
use Rattle.std.proofs.Common.{refl, sym, ap, subst, ◌∙◌, true≢false}
use Rattle.std.proofs.lemmas.List.{map-append}
use Rattle.std.proofs.lemmas.Simd.{map-map}
use Rattle.rig_scene.specs.declared.driver.Driver.{Driver as DriverRecord}
use Rattle.rig_scene.specs.declared.driver.Variable.{Variable}
use Rattle.rig_scene.specs.declared.driver.Variable.TheVariants as variable
use Rattle.rig_scene.specs.declared.id.AnimId.{AnimId}
use Rattle.rig_scene.specs.declared.modifier.Mode.{Mode}
use Rattle.rig_scene.specs.declared.operation.OpId.{OpId}
use Rattle.rig_scene.specs.declared.operation.OpId.TheVariants as operation
use Rattle.rig_scene.specs.declared.path.Path.{Path}
use Rattle.rig_scene.specs.declared.quantity.Quantity.{Quantity}
use Rattle.rig_scene.specs.declared.quantity.Quantity.TheVariants.{Chan}
use Rattle.rig_scene.specs.Channel.{transform_number}
use Rattle.rig_scene.specs.ChannelNumber.{action_of, number_among, id_numbers, animated_number, number_by, number_of, original_number}
use Rattle.rig_scene.specs.Combine.{driver_value}
use Rattle.rig_scene.specs.Cut.{is_cut}
use Rattle.rig_scene.specs.Drivers.{driver_of, has_action}
use Rattle.rig_scene.specs.Operations.{kept_link, animation_of, operation_of, link_of, links_of, variable_links}
use Rattle.rig_scene.specs.Order.{quantity_of-operation_of}
use Rattle.rig_scene.specs.Quantities.{quantities, reads, space_quantity, reference_read}
use Rattle.rig_scene.specs.Scene.{SceneRecord}
use Rattle.rig_scene.specs.StandsFor.{quantity_of}
use Rattle.rig_scene.specs.Value.{Value, Numbers, rest_of, number_in, transform_in, read_value, inputs_at, val}
use Rattle.rig_scene.specs.Value as over
use Rattle.rig_scene.specs.WellFormed.{is_scene}
use Rattle.rig_laws.specs.KeptReads.{inner_not_cut}
use Rattle.rig_laws.specs.Lists.{All-elements, map_same}
use Rattle.rig_laws.specs.Kernel.{variable_number, variable_numbers, driver_number}
use Rattle.rig_laws.specs.OperationValue.{other_value, operation_value}
use Rattle.rig_laws.specs.Output.{Output, output_at, number_at, numbers_at}
use Rattle.rig_laws.specs.Taken.{taken, all_taken, opening, no_action, drop-behind}

-- ---- reads

-- whether a quantity's read of a source is cut, and what it gives
abbrev pub cut_at : SceneRecord → Quantity → Quantity → Bool
cut_at s q = λ source. is_cut s source q

abbrev pub read_at : SceneRecord → Mode → ℤ → Quantity → Quantity → Value
read_at s mode frame q = λ source. read_value (is_cut s source q) (val s mode frame) source

module _ (s : SceneRecord) (mode : Mode) (frame : ℤ) where
  -- an operation that stands for a quantity has its value
  pub value_of_quantity : (op : OpId) (q : Quantity) → quantity_of op ≡ Some q → operation_value s mode frame op ≡ val s mode frame q
  unfolding operation_value
  value_of_quantity op q is = ap (λ o. option_map_or (val s mode frame) o (other_value s mode frame op)) is

  kept_taken : (source : Quantity) → output_at (operation_value s mode frame) (kept_link (operation_of source)) ≡ record { op = operation_of source; value = val s mode frame source; is_rest = false }
  kept_taken source = ap (λ v. record { op = operation_of source; value = v; is_rest = false }) (value_of_quantity (operation_of source) source (quantity_of-operation_of source))

  -- what stands at a link of a source: its rest value where the read is cut, else its value
  link_taken : (source : Quantity) (reference cut : Bool) → (reference ≡ false → cut ≡ false) → output_at (operation_value s mode frame) (record { op = operation_of source; cut = reference && cut }) ≡ record { op = operation_of source; value = read_value cut (val s mode frame) source; is_rest = cut }
  link_taken source true true inner = ap (λ q. record { op = operation_of source; value = option_map_or rest_of q (Numbers []); is_rest = true }) (quantity_of-operation_of source)
  link_taken source true false inner = kept_taken source
  link_taken source false true inner = absurd (true≢false (inner refl))
  link_taken source false false inner = kept_taken source

  reference_taken : (q source : Quantity) → output_at (operation_value s mode frame) (link_of s q (reference_read source)) ≡ taken (cut_at s q) (read_at s mode frame q) source
  reference_taken q source = link_taken source true (is_cut s source q) (λ e. absurd (true≢false e))

  -- at the links of a quantity's reads stands what each read gives
  pub links_taken : IsTrue (is_scene s) → (q : Quantity) → Contains (quantities s) q → map (output_at (operation_value s mode frame)) (links_of s q) ≡ all_taken (cut_at s q) (read_at s mode frame q) (reads s q)
  links_taken met q within =
      map-map (output_at (operation_value s mode frame)) (link_of s q) (reads s q)
      ∙ map_same (λ r. output_at (operation_value s mode frame) (link_of s q r)) (λ r. taken (cut_at s q) (read_at s mode frame q) r.source) (reads s q)
      (All-elements (λ r. output_at (operation_value s mode frame) (link_of s q r) ≡ taken (cut_at s q) (read_at s mode frame q) r.source) (reads s q)
      (λ r e. link_taken r.source r.reference (is_cut s r.source q) (λ i. inner_not_cut s met q r (within, e) i)))

  -- ---- drivers

  -- what the curve of a path gives, by the input of the animation of its id where it has one
  animated_taken : (id : AnimId) (path : Path) (rest : List Output) → animated_number s (λ other. numbers_at (opening (operation_value s mode frame) s id ++ rest) 0) id path ≡ animated_number s (id_numbers s frame) id path
  unfolding animated_number operation_value
  animated_taken id path rest = by (has_action s id) refl
    where
      by : (b : Bool) → has_action s id ≡ b → option_and_then (λ action. number_among action (numbers_at (map (output_at (operation_value s mode frame)) (map kept_link (if b then operation.Animation id ∷ [] else [])) ++ rest) 0) path) (action_of s id) ≡ option_and_then (λ action. number_among action (id_numbers s frame id) path) (action_of s id)
      by true e = refl
      by false e =
          ap (option_and_then (λ action. number_among action (numbers_at rest 0) path)) (no_action s id e)
          ∙ sym (ap (option_and_then (λ action. number_among action (id_numbers s frame id) path)) (no_action s id e))

  variable_taken : (q : Quantity) (v : Variable) (rest : List Output) → variable_number s v (map (output_at (operation_value s mode frame)) (variable_links s q v) ++ rest) ≡ over.variable_number s (inputs_at s frame) (read_at s mode frame q) v
  variable_taken q (variable.Property id path) rest = by (driver_of s id path)
    where
      taken_of : Option DriverRecord → List Output
      taken_of o = map (output_at (operation_value s mode frame)) (if is_some o then link_of s q (reference_read (Chan id path)) ∷ [] else map kept_link (animation_of s id)) ++ rest

      by : (o : Option DriverRecord) → number_of s (λ other. numbers_at (taken_of o) 0) id path (option_map (λ d. number_at (taken_of o) 0) o) ≡ number_of s (id_numbers s frame) id path (option_map (λ d. number_in (read_at s mode frame q (Chan id path))) o)
      by None = ap (λ a. number_by None a (unwrap_or (original_number s id path) (pos 0))) (animated_taken id path rest)
      by (Some d) = ap (λ i. number_in i.value) (reference_taken q (Chan id path))
  variable_taken q (variable.Transform o space channel) rest = ap (λ i. transform_number (transform_in i.value) channel) (reference_taken q (space_quantity o space))

  variables_taken : (q : Quantity) (vs : List Variable) → variable_numbers s q vs (map (output_at (operation_value s mode frame)) (flat_map (variable_links s q) vs)) ≡ map (over.variable_number s (inputs_at s frame) (read_at s mode frame q)) vs
  variables_taken q [] = refl
  variables_taken q (v ∷ vs) =
      let own = map (output_at (operation_value s mode frame)) (variable_links s q v) in
      let rest = map (output_at (operation_value s mode frame)) (flat_map (variable_links s q) vs) in
      ap (variable_numbers s q (v ∷ vs)) (map-append (output_at (operation_value s mode frame)) (variable_links s q v) (flat_map (variable_links s q) vs))
      ∙ (λ i. variable_taken q v rest i ∷ variable_numbers s q vs (drop-behind (output_at (operation_value s mode frame)) (variable_links s q v) rest i))
      ∙ ap (λ ns. over.variable_number s (inputs_at s frame) (read_at s mode frame q) v ∷ ns) (variables_taken q vs)

  -- the number that a driver makes of what it takes
  pub driver_taken : (d : DriverRecord) (q : Quantity) → Chan d.id d.path ≡ q → driver_number s d (map (output_at (operation_value s mode frame)) (flat_map (variable_links s q) d.variables)) ≡ over.driver_number s (inputs_at s frame) (read_at s mode frame q) d
  unfolding driver_number over.driver_number
  driver_taken d q is =
      subst (λ q. driver_value d (variable_numbers s (Chan d.id d.path) d.variables (map (output_at (operation_value s mode frame)) (flat_map (variable_links s q) d.variables))) ≡ driver_value d (map (over.variable_number s (inputs_at s frame) (read_at s mode frame q)) d.variables))
      is (ap (driver_value d) (variables_taken (Chan d.id d.path) d.variables))
