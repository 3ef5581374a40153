use Rattle.std.proofs.Common.{◌<◌, ◌^◌, ◌∙◌, ap, sym, subst, length, map, IsTrue}
use Rattle.std.specs.List.{All, AllZip}
use Rattle.rig_scene.specs.Facts.{have_earlier_parents}
use Rattle.rig_scene.specs.Scene.{SceneRecord}
use Rattle.rig_scene.specs.WellFormed.{is_scene}
use Rattle.rig_kernel.specs.Tables.{AreCurvesOf, AreBonesOf, AreNamesOf}
use Rattle.rig_kernel.proofs.SceneRows.{few_curves, few_bones, parents_are_earlier, are_tables}
use Rattle.rig_kernel.proofs.tables.SceneTables.new.Goals as goal

pub curve_tables-requires : goal.curve_tables-requires
curve_tables-requires c =
    subst (All (λ a. length a.curves < 2 ^ 32)) (sym (c.as_slice.ensures ∙ ap (λ (s : SceneRecord). s.actions) c.scene.view_is))
    (few_curves c.args.scene.now (subst (λ s. IsTrue (is_scene s)) c.scene.view_is c.scene.invariant.is_scene))

pub rest_tables-requires : goal.rest_tables-requires
rest_tables-requires c =
    subst (All (λ a. IsTrue (have_earlier_parents a.bones))) (sym (c.as_slice-2.ensures ∙ ap (λ (s : SceneRecord). s.armatures) c.scene.view_is))
    (parents_are_earlier c.args.scene.now (subst (λ s. IsTrue (is_scene s)) c.scene.view_is c.scene.invariant.is_scene))

pub name_tables-requires : goal.name_tables-requires
name_tables-requires c =
    subst (All (λ a. length a.bones < 2 ^ 32)) (sym (c.as_slice-3.ensures ∙ ap (λ (s : SceneRecord). s.armatures) c.scene.view_is))
    (few_bones c.args.scene.now (subst (λ s. IsTrue (is_scene s)) c.scene.view_is c.scene.invariant.is_scene))

pub returns : goal.returns
returns c =
    are_tables c.args.scene.now (record { actions = c.in_ok-curve_tables.field-0; armatures = c.in_ok-rest_tables.field-0; bone_names = c.in_ok-name_tables.field-0; drivers = c.in_ok-new.field-0 })
    (subst (AllZip (λ t a. AreCurvesOf t (map (λ c. c.path) a.curves)) c.in_ok-curve_tables.field-0) (c.as_slice.ensures ∙ ap (λ (s : SceneRecord). s.actions) c.scene.view_is) c.in_ok-curve_tables.ensures)
    (subst (AllZip (λ t a. AreBonesOf t a.bones) c.in_ok-rest_tables.field-0) (c.as_slice-2.ensures ∙ ap (λ (s : SceneRecord). s.armatures) c.scene.view_is) c.in_ok-rest_tables.ensures)
    (subst (AllZip (λ t a. AreNamesOf t a.bones) c.in_ok-name_tables.field-0) (c.as_slice-3.ensures ∙ ap (λ (s : SceneRecord). s.armatures) c.scene.view_is) c.in_ok-name_tables.ensures)
    c.in_ok-new.ensures
