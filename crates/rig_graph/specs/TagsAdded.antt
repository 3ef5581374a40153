-- Tags that an edit adds stand behind those that were there.
use Rattle.std.specs.Prelude.{if◌then◌else◌}
use Rattle.std.proofs.Common.{◌≡◌, ◌≤◌, Bool, true, false, List, [], ◌∷◌, ◌++◌, length, take, ap, ◌∙◌, arith}
use Rattle.std.proofs.lemmas.List.{take-append-le, take_all, length-take}
use Rattle.rig_flush.specs.Retag.{is_one_of}
use Rattle.rig_graph.specs.Taking.{with_tag, with_tags}
use Rattle.rig_scene.specs.declared.operation.OpId.{OpId}

module _ (ops old : List OpId) where
  tag_behind : (tags : List OpId) (op : OpId) → take (length old) tags ≡ old → take (length old) (with_tag ops tags op) ≡ old
  tag_behind tags op e = by (is_one_of ops op) (is_one_of tags op)
    where
      within : length old ≤ length tags
      within = omega (arith, ap length e, length-take (length old) tags)

      by : (there tagged : Bool) → take (length old) (if there then if tagged then tags else tags ++ op ∷ [] else tags) ≡ old
      by true true = e
      by true false = take-append-le (length old) tags (op ∷ []) within ∙ e
      by false tagged = e

  tags_behind_from : (tags more : List OpId) → take (length old) tags ≡ old → take (length old) (with_tags ops tags more) ≡ old
  tags_behind_from tags [] e = e
  tags_behind_from tags (op ∷ more) e = tags_behind_from (with_tag ops tags op) more (tag_behind tags op e)

  pub tags_behind : (more : List OpId) → take (length old) (with_tags ops old more) ≡ old
  tags_behind more = tags_behind_from old more (take_all (length old) old (omega arith))
