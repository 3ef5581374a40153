use Rattle.std.proofs.Common.{◌≡◌, ◌∙◌, subst, rules, ℤ, ◌-ℤ◌, ◌*ℤ◌, w64, FitsSigned, to_z, of_z}
use Rattle.std.proofs.lemmas.Int.{to_z-of_z}
use Rattle.rig_fixed.specs.Rotation.{Rotation, rotate}
use Rattle.rig_fixed.specs.declared.vector.V3.{V3}
use Rattle.rig_fixed.proofs.Turning.{coordinate_is, difference_of, v3_is}
use Rattle.rig_fixed.proofs.rotation.rotate_about_axis.Goals as goal

settled : (z : ℤ) → FitsSigned w64 z → to_z w64 (of_z w64 z) ≡ z
settled z f = to_z-of_z w64 z f

pub returns : goal.returns
unfolding rotate
returns c =
    let w = c.q.inside.w in
    let x = c.q.inside.x in
    let y = c.q.inside.y in
    let z = c.q.inside.z in
    let v = c.args.v in
    let fw : FitsSigned w64 w = search rules in
    let y_is = settled y (search rules) in
    let z_is = settled z (search rules) in
    let x_is = settled x (search rules) in
    let px : to_z w64 (of_z w64 c.get-x.result) ≡ v.x = settled c.get-x.result (search rules) ∙ c.get-x.ensures.value in
    let py : to_z w64 (of_z w64 c.get-y.result) ≡ v.y = settled c.get-y.result (search rules) ∙ c.get-y.ensures.value in
    let pz : to_z w64 (of_z w64 c.get-z.result) ≡ v.z = settled c.get-z.result (search rules) ∙ c.get-z.ensures.value in
    let ox : c.determinant-once_x.result ≡ y *ℤ v.z -ℤ z *ℤ v.y = c.determinant-once_x.ensures.value ∙ difference_of y v.z z v.y _ _ _ _ y_is pz z_is py in
    let oy : c.determinant-once_y.result ≡ z *ℤ v.x -ℤ x *ℤ v.z = c.determinant-once_y.ensures.value ∙ difference_of z v.x x v.z _ _ _ _ z_is px x_is pz in
    let oz : c.determinant-once_z.result ≡ x *ℤ v.y -ℤ y *ℤ v.x = c.determinant-once_z.ensures.value ∙ difference_of x v.y y v.x _ _ _ _ x_is py y_is px in
    let fox : FitsSigned w64 c.determinant-once_x.result = search rules in
    let foy : FitsSigned w64 c.determinant-once_y.result = search rules in
    let foz : FitsSigned w64 c.determinant-once_z.result = search rules in
    let sx = settled c.determinant-once_x.result fox ∙ ox in
    let sy = settled c.determinant-once_y.result foy ∙ oy in
    let sz = settled c.determinant-once_z.result foz ∙ oz in
    let tx = c.wide_determinant-twice_x.ensures.value ∙ difference_of y (x *ℤ v.y -ℤ y *ℤ v.x) z (z *ℤ v.x -ℤ x *ℤ v.z) _ _ _ _ y_is sz z_is sy in
    let ty = c.wide_determinant-twice_y.ensures.value ∙ difference_of z (y *ℤ v.z -ℤ z *ℤ v.y) x (x *ℤ v.y -ℤ y *ℤ v.x) _ _ _ _ z_is sx x_is sz in
    let tz = c.wide_determinant-twice_z.ensures.value ∙ difference_of x (z *ℤ v.x -ℤ x *ℤ v.z) y (y *ℤ v.z -ℤ z *ℤ v.y) _ _ _ _ x_is sy y_is sx in
    let after_x = coordinate_is v.x w c.determinant-once_x.result c.wide_determinant-twice_x.result c.turn.result c.coordinate_after.result _ _
    fw fox (search rules) (search rules) ox tx c.turn.ensures.value c.coordinate_after.ensures in
    let after_y = coordinate_is v.y w c.determinant-once_y.result c.wide_determinant-twice_y.result c.turn-2.result c.coordinate_after-2.result _ _
    fw foy (search rules) (search rules) oy ty c.turn-2.ensures.value c.coordinate_after-2.ensures in
    let after_z = coordinate_is v.z w c.determinant-once_z.result c.wide_determinant-twice_z.result c.turn-3.result c.coordinate_after-3.result _ _
    fw foz (search rules) (search rules) oz tz c.turn-3.ensures.value c.coordinate_after-3.ensures in
    let after : V3 = record { x = c.coordinate_after.result; y = c.coordinate_after-2.result; z = c.coordinate_after-3.result } in
    subst (λ (q : Rotation). after ≡ rotate q v) c.q.view_is (v3_is _ _ _ _ _ _ after_x after_y after_z)
