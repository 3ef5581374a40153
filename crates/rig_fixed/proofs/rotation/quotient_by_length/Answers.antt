use Rattle.std.proofs.Common.{rules, ◌≡◌, ◌∙◌, ap, sym, ℤ, FitsSigned, w64, of_z}
use Rattle.std.specs.Int.{w128}
use Rattle.std.proofs.lemmas.Int.{to_z-of_z}
use Rattle.rig_fixed.specs.Rotation.{Rotation, length_of}
use Rattle.rig_fixed.proofs.Length.{four_same, part_is, told_by, unit_rotation_zero, unit_rotation_plain}
use Rattle.rig_fixed.proofs.rotation.quotient_by_length.Goals as goal

pub returns-then-length-eq0 : goal.returns-then-length-eq0
returns-then-length-eq0 c =
    let length = c.length_of-length.result in
    let fits : FitsSigned w128 length = search rules in
    sym (unit_rotation_zero c.args.q (sym c.length_of-length.ensures.value ∙ told_by w128 length 0 fits c.if-length-eq0.true))

pub returns : goal.returns
returns c =
    let length = c.length_of-length.result in
    let q = c.args.q in
    let inner = c.q.inside in
    let fits : FitsSigned w128 length = search rules in
    let l = to_z-of_z w128 length fits ∙ c.length_of-length.ensures.value in
    let component = λ (r given : ℤ) (f : FitsSigned w64 given) (e : given ≡ r). to_z-of_z w64 given f ∙ e in
    let w = part_is q.w _ c.over_length.result _ (length_of q) w64 (search rules) (component q.w inner.w (search rules) (ap (λ (r : Rotation). r.w) c.q.view_is)) l c.over_length.ensures.value in
    let x = part_is q.x _ c.over_length-2.result _ (length_of q) w64 (search rules) (component q.x inner.x (search rules) (ap (λ (r : Rotation). r.x) c.q.view_is)) l c.over_length-2.ensures.value in
    let y = part_is q.y _ c.over_length-3.result _ (length_of q) w64 (search rules) (component q.y inner.y (search rules) (ap (λ (r : Rotation). r.y) c.q.view_is)) l c.over_length-3.ensures.value in
    let z = part_is q.z _ c.over_length-4.result _ (length_of q) w64 (search rules) (component q.z inner.z (search rules) (ap (λ (r : Rotation). r.z) c.q.view_is)) l c.over_length-4.ensures.value in
    four_same _ _ _ _ _ _ _ _ w x y z
    ∙ sym (unit_rotation_plain q (λ k. c.if-length-eq0.false (ap (of_z w128) (c.length_of-length.ensures.value ∙ k))))
