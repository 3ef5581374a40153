use Rattle.std.proofs.Common.{◌≡◌, length, ℤ, int_eq, slice_get, w32, to_z, of_z, sym, ap, ◌∙◌, subst, arith}
use Rattle.std.proofs.lemmas.Bool.{false_from_ne_true}
use Rattle.std.proofs.lemmas.Int.{ints, to_z-of_z}
use Rattle.std.proofs.lemmas.Option.{same_Some, slice_get_within}
use Rattle.std.specs.Prelude.{IsTrue}
use Rattle.rig_scene.specs.Keys.{are_frames_rising}
use Rattle.rig_edits.specs.KeyPlaces.{KeyFits}
use Rattle.rig_edits.proofs.KeyPlaceFacts.{key_at, key_fits, same_frame}
use Rattle.rig_edits.proofs.keys.key_index.Goals as goal
use Rattle.rig_edits.proofs.keys.key_index.Goals.{else-index-len-via-then-index-len+else-frame, else-index-len-via-else-index-len}

pub returns-then-frame : goal.returns-then-frame
returns-then-frame g c =
    let frames : c.frame.result ≡ c.args.frame = grind (arith, ints, c.if-frame.true, c.ranges.frame) in
    key_at g.K.Keyframe.frame c.args.keys.now c.args.frame c.index_from-index.result c.get.result.now c.requires (omega arith) c.get.ensures
    (sym c.frame.ensures ∙ frames)

pub returns-else-index-len : goal.returns-else-index-len
returns-else-index-len g c =
    let same = c.as_slice.ensures in
    let index = c.index_from-index.ensures in
    let frame : ℤ = to_z w32 (of_z w32 c.args.frame) in
    let is : frame ≡ c.args.frame = to_z-of_z w32 c.args.frame c.ranges.frame in
    subst (λ keys. KeyFits g.K.Keyframe.frame c.args.frame keys c.index_from-index.result) same
    (subst (λ f. KeyFits g.K.Keyframe.frame f c.as_slice.result.now c.index_from-index.result) is
    (key_fits g.K.Keyframe.frame c.as_slice.result.now frame c.index_from-index.result
    (subst (λ keys. IsTrue (are_frames_rising g.K.Keyframe.frame keys)) (sym same) c.requires) index.within index.before index.rest index.next
    (λ k at. elim c.else-index-len.branch [
      | else-index-len-via-then-index-len+else-frame w ↦
          let here : w.get.result.now ≡ k =
          same_Some w.get.result.now k (sym w.get.ensures ∙ ap (λ keys. slice_get keys c.index_from-index.result) (sym same) ∙ at) in
          false_from_ne_true (int_eq (g.K.Keyframe.frame k) frame) (λ e. w.if-frame.false
          (ap (of_z w32) (w.frame.ensures ∙ ap g.K.Keyframe.frame here ∙ same_frame (g.K.Keyframe.frame k) frame e ∙ is)))
      | else-index-len-via-else-index-len w ↦
          absurd (omega (arith, w.if-index-len.false, slice_get_within c.as_slice.result.now c.index_from-index.result k at, ap length same))
    ])))
