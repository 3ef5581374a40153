-- What the names of a driver mean, once they are found.
use Rattle.std.proofs.Common.{◌≡◌, ℕ, ◌<◌, List, [], ◌∷◌, ◌++◌, ◌+◌, drop, slice_index_or, append_assoc, length, Option, Some, None, Result, Ok, Err, sym, ap, ◌∙◌, arith, Fits, w32}
use Rattle.std.specs.Prelude.{IsTrue, is_none, option_map}
use Rattle.std.specs.Option.{option_map_or}
use Rattle.std.specs.Result.{IsErrAnd, result_err, MatchResult}
use Rattle.std.proofs.lemmas.List.{drop_more}
use Rattle.std.proofs.lemmas.Option.{none-some}
use Rattle.rig_scene.specs.declared.driver.Variable.{Variable}
use Rattle.rig_scene.specs.declared.id.AnimId.TheVariants as anim
use Rattle.rig_scene.specs.declared.pencil.PencilData.{PencilData}
use Rattle.rig_scene.specs.FactsHold.{scene_facts}
use Rattle.rig_scene.specs.Scene.{SceneRecord}
use Rattle.rig_scene.specs.Text.{same_text}
use Rattle.rig_scene.specs.WellFormed.{is_scene}
use Rattle.rig_edits.specs.declared.cause.EditCause.{EditCause}
use Rattle.rig_edits.specs.declared.cause.EditCause.TheVariants.{UnknownId}
use Rattle.rig_edits.specs.declared.cause.EditStop.{EditStop}
use Rattle.rig_edits.specs.declared.cause.EditStop.TheVariants.{NoMemory, Refused}
use Rattle.rig_edits.specs.declared.edit.IdName.TheVariants as named
use Rattle.rig_edits.specs.declared.edit.NewVariable.{NewVariable}
use Rattle.rig_edits.specs.Conditions.{when, lacks_id}
use Rattle.rig_edits.specs.Named.{id_of}
use Rattle.rig_edits.specs.DriverCauses.{earlier, variable_causes, variables_causes, Builds}
use Rattle.rig_edits.proofs.CauseOrder.{earlier-assoc, variables_causes-cons, none_of_earlier}
use Rattle.rig_edits.specs.Edited.{variable_of, variables_of}
use Rattle.rig_edits.specs.Steps.{Finds, FoundAt, FoundNowhere}

-- ---- ids

module _ (s : SceneRecord) (name : List ℕ) where
  pub pencil_id : (index : ℕ) → FoundAt (λ (p : PencilData). same_text p.name name) s.pencils index
      → (when UnknownId (lacks_id s (named.Pencil name)) ≡ None) × (id_of s (named.Pencil name) ≡ Some (anim.Pencil index))
  pencil_id index at = (
    ap (λ (r : Option ℕ). when UnknownId (is_none (option_map (λ p. anim.Pencil p) r))) at.is_position,
    ap (option_map (λ p. anim.Pencil p)) at.is_position,
  )

  pub no_pencil_id : FoundNowhere (λ (p : PencilData). same_text p.name name) s.pencils → when UnknownId (lacks_id s (named.Pencil name)) ≡ Some UnknownId
  no_pencil_id at = ap (λ (r : Option ℕ). when UnknownId (is_none (option_map (λ p. anim.Pencil p) r))) at.is_position

-- the index of a pencil fits its type
pub pencil_fits : (s : SceneRecord) → IsTrue (is_scene s) → (index : ℕ) → index < length s.pencils → Fits w32 index
pencil_fits s is index within = omega (arith, within, (scene_facts s is).pencils.count)

-- ---- the causes against a variable

-- the error of a step is the first of its causes
pub err_is : {T : Type 0} (r : Result T EditCause) (cause : Option EditCause) (P : T → Type 0) → Finds r cause P → result_err r ≡ cause
err_is (Ok x) cause P h = sym h.0
err_is (Err e) cause P h = sym h

-- a step's cause, given back by `?`, is the cause against what is built
pub not_built : {T : Type 0} (r : Result T EditStop) (cause : Option EditCause) (value : Option T) (stop : EditCause) → IsErrAnd r (λ e. e ≡ Refused stop)
    → cause ≡ Some stop → Builds r cause value
not_built (Ok x) cause value stop e is = absurd e
not_built (Err (Refused c)) cause value stop e is = is ∙ ap Some (same_Refused stop c (sym e))
  where
    same_Refused : (a b : EditCause) → Refused a ≡ Refused b → a ≡ b
    same_Refused a b e = cc
not_built (Err NoMemory) cause value stop e is = tt

-- ---- one more variable of a list

module _ (s : SceneRecord) (vs : List NewVariable) (i : ℕ) (v : NewVariable) (within : i < length vs) (is : v ≡ slice_index_or vs i v) where
  here : v ∷ drop (i + 1) vs ≡ drop i vs
  here = ap (λ x. x ∷ drop (i + 1) vs) is ∙ sym (drop_more vs i v within)

  -- its causes, and those of the ones behind it
  pub causes_more : (found : Option EditCause) → earlier (earlier found (variable_causes s v)) (variables_causes s (drop (i + 1) vs))
      ≡ earlier found (variables_causes s (drop i vs))
  causes_more found =
      earlier-assoc found (variable_causes s v) (variables_causes s (drop (i + 1) vs))
      ∙ ap (earlier found) (sym (variables_causes-cons s v (drop (i + 1) vs)) ∙ ap (variables_causes s) here)

  -- where none is against those from it on, none is against it, and none against the rest
  pub none_more : variables_causes s (drop i vs) ≡ None → (variable_causes s v ≡ None) × (variables_causes s (drop (i + 1) vs) ≡ None)
  none_more none =
      none_of_earlier (variable_causes s v) (variables_causes s (drop (i + 1) vs))
      (sym (variables_causes-cons s v (drop (i + 1) vs)) ∙ ap (variables_causes s) here ∙ none)

  -- it is built before the rest
  pub built_more : (found : List Variable) (x : Variable) → variable_of s v ≡ Some x
      → (found ++ x ∷ []) ++ variables_of s (drop (i + 1) vs) ≡ found ++ variables_of s (drop i vs)
  built_more found x e =
      append_assoc found (x ∷ []) (variables_of s (drop (i + 1) vs))
      ∙ ap (λ xs. found ++ xs)
      (ap (λ r. option_map_or (λ y. y ∷ variables_of s (drop (i + 1) vs)) r (variables_of s (drop (i + 1) vs))) (sym e) ∙ ap (variables_of s) here)

-- where none is against it, a variable stops for want of memory alone
pub stopped : {T U : Type 0} (r : Result T EditStop) (stop : EditStop) (cause : Option EditCause) (value : Option U) (P : T → Type 0)
    → IsErrAnd r (λ e. e ≡ stop) → Builds (Err stop) cause value → cause ≡ None → MatchResult r P (λ e. e ≡ NoMemory)
stopped (Ok x) stop cause value P e built none = absurd e
stopped (Err e) (Refused c) cause value P same built none = absurd (none-some c (sym none ∙ built))
stopped (Err e) NoMemory cause value P same built none = same
