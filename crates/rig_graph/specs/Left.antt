-- A graph that found no memory for an evaluation: it is as it was, but for its tags.
use Rattle.std.specs.Prelude.{Contains, if◌then◌else◌, ℤ}
use Rattle.std.specs.List.{All}
use Rattle.std.proofs.Common.{◌≡◌, ◌⊎◌, inl, inr, ℕ, Bool, true, false, List, [], ◌∷◌, ◌++◌, Option, Result, Ok, Err, OnErr, refl, sym, ap, ◌∙◌, subst, ⊎_elim}
use Rattle.std.proofs.lemmas.List.Elements.{All-contains}
use Rattle.rig_cycles.specs.Elements.{element_first, element_of_kept}
use Rattle.rig_flush.specs.Graph.{GraphState, Fresh, tagged_at}
use Rattle.rig_flush.specs.Retag.{is_one_of}
use Rattle.rig_flush.specs.TagsOfScene.{of_scene, tag_of_scene}
use Rattle.rig_graph.specs.declared.scene_copy.SceneCopy.{SceneCopy}
use Rattle.rig_graph.specs.Parts.{AreParts, record_of}
use Rattle.rig_graph.specs.Ready.{with_time, is_frame_of, tagged_for}
use Rattle.rig_graph.specs.Report.{IsLeft}
use Rattle.rig_graph.specs.RunsFromFresh.{time_added, tag_stays, tagged_is, fresh_with_more}
use Rattle.rig_graph.specs.State.{tags_of, state_of}
use Rattle.rig_kernel.specs.declared.done.Done.{Done}
use Rattle.rig_laws.specs.Lists.{All-elements}
use Rattle.rig_laws.specs.Output.{Output}
use Rattle.rig_scene.specs.declared.modifier.Mode.{Mode}
use Rattle.rig_scene.specs.declared.operation.OpId.{OpId}
use Rattle.rig_scene.specs.declared.operation.OpId.TheVariants.{Time}
use Rattle.rig_scene.specs.Operations.{operations}

module _ (mode : Mode) (version : ℕ) (c : SceneCopy) (tags : List OpId) (kept : List (Option Output)) (count : ℕ)
    (published : Option Done) (fits : Bool) (parts : AreParts mode c tags kept count published fits) (frame : ℤ) where
  abbrev g : GraphState
  g = state_of (record_of mode version c tags kept published)

  abbrev tags_now : List OpId
  tags_now = tagged_for published frame tags

  now_added : (op : OpId) → Contains tags_now op → Contains tags op ⊎ (Time ≡ op)
  now_added op = by (is_frame_of published frame)
    where
      by : (b : Bool) → Contains (if b then tags else with_time tags) op → Contains tags op ⊎ (Time ≡ op)
      by true listed = inl listed
      by false listed = time_added tags op listed

  now_stays : (op : OpId) → Contains tags op → Contains tags_now op
  now_stays op listed = by (is_frame_of published frame)
    where
      by : (b : Bool) → Contains (if b then tags else with_time tags) op
      by true = listed
      by false = tag_stays tags op listed

  now_there : (op : OpId) → Contains tags_now op → Contains c.nodes op
  now_there op listed =
      ⊎_elim (All-contains (Contains c.nodes) tags op parts.there)
      (λ time. subst (λ o. Contains c.nodes o) time (subst (λ l. Contains l Time) (sym parts.copy.tables.same) (element_first Time _)))
      (now_added op listed)

  more_parts : AreParts mode c tags_now kept count published fits
  more_parts = record {
    copy = parts.copy;
    there = All-elements (Contains c.nodes) tags_now now_there;
    outputs = parts.outputs;
    one_each = parts.one_each;
    counted = parts.counted;
    of_mode = parts.of_mode;
    fitting = parts.fitting;
  }

  more_fresh : Fresh g → Fresh (state_of (record_of mode version c tags_now kept published))
  more_fresh fresh =
      fresh_with_more g (tags_of c.scene tags_now)
      (λ op listed. of_scene c.scene tags_now op (element_of_kept (is_one_of tags) (operations c.scene) op listed) (now_stays op (tag_of_scene c.scene tags op listed)))
      fresh

  -- with the tags of the evaluation, or with its own
  module _ (fresh : Fresh g) (tags_after : List OpId) (are : (tags_after ≡ tags) ⊎ (tags_after ≡ tags_now)) where
    pub left_parts : AreParts mode c tags_after kept count published fits
    left_parts =
        ⊎_elim (λ same. subst (λ t. AreParts mode c t kept count published fits) (sym same) parts)
        (λ more. subst (λ t. AreParts mode c t kept count published fits) (sym more) more_parts) are

    pub left_fresh : Fresh (state_of (record_of mode version c tags_after kept published))
    left_fresh =
        ⊎_elim (λ same. subst (λ t. Fresh (state_of (record_of mode version c t kept published))) (sym same) fresh)
        (λ more. subst (λ t. Fresh (state_of (record_of mode version c t kept published))) (sym more) (more_fresh fresh)) are

    pub is_left : IsLeft (record_of mode version c tags kept published) (record_of mode version c tags_after kept published) frame
    is_left = record {
      same = refl;
      tags = ⊎_elim (λ same. inl (ap (tags_of c.scene) same))
          (λ more. inr (ap (tags_of c.scene) more ∙ tagged_is mode version c tags kept count published fits parts frame)) are;
    }

    module _ (kept_after : List (Option Output)) (kept_is : kept_after ≡ kept) (count_after : ℕ) (count_is : count_after ≡ count) where
      pub left_parts_with : AreParts mode c tags_after kept_after count_after published fits
      left_parts_with =
          subst (λ k. AreParts mode c tags_after k count_after published fits) (sym kept_is)
          (subst (λ n. AreParts mode c tags_after kept n published fits) (sym count_is) left_parts)

      pub left_fresh_with : Fresh (state_of (record_of mode version c tags_after kept_after published))
      left_fresh_with = subst (λ k. Fresh (state_of (record_of mode version c tags_after k published))) (sym kept_is) left_fresh

      pub is_left_with : IsLeft (record_of mode version c tags kept published) (record_of mode version c tags_after kept_after published) frame
      is_left_with = subst (λ k. IsLeft (record_of mode version c tags kept published) (record_of mode version c tags_after k published) frame) (sym kept_is) is_left

-- what holds holds after an error
pub on_err : {T E : Type 0} (P : Type 0) (result : Result T E) → P → OnErr result P
on_err P (Ok x) p = tt
on_err P (Err e) p = p
