-- An edit that keeps all links keeps the tables of its scene, what evaluation looks up, and what frames show.
use Rattle.std.specs.Prelude.{◌≡◌, List, ◌∷◌, map, Some, IsTrue}
use Rattle.std.specs.List.{range_with_len}
use Rattle.std.proofs.Common.{refl, sym, ap, ◌∙◌, subst}
use Rattle.std.proofs.lemmas.List.{length-map}
use Rattle.std.proofs.lemmas.Simd.{map-map}
use Rattle.rig_edits.specs.declared.edit.Edit.{Edit}
use Rattle.rig_edits.specs.Edited.{edited, at_rest}
use Rattle.rig_kernel.specs.declared.tables.SceneTables.{SceneTables}
use Rattle.rig_kernel.specs.Tables.{table_parts}
use Rattle.rig_kernel.specs.Tables.{AreTables as AreSceneTables}
use Rattle.rig_links.specs.declared.table.In.{In}
use Rattle.rig_links.specs.Links.{Links, AreInsOf, link_named}
use Rattle.rig_scene.specs.declared.action.Action.{Action}
use Rattle.rig_scene.specs.declared.action.Curve.{Curve}
use Rattle.rig_scene.specs.declared.id.ObjectId.{ObjectId}
use Rattle.rig_scene.specs.declared.object.Kind.{Kind}
use Rattle.rig_scene.specs.declared.object.Kind.TheVariants as kind
use Rattle.rig_scene.specs.declared.object.Object.{Object}
use Rattle.rig_scene.specs.declared.operation.OpId.{OpId}
use Rattle.rig_scene.specs.declared.operation.OpId.TheVariants.{World, Bone}
use Rattle.rig_scene.specs.Scene.{SceneRecord}
use Rattle.rig_scene.specs.WellFormed.{is_scene}
use Rattle.rig_touch.specs.KeepsLinks.{keeps_links}
use Rattle.rig_touch.specs.KeepsShape.{kept_by_shape, operations_kept, ins_kept}
use Rattle.rig_touch.specs.Shape.{curve_shape, action_shape, kind_shape, object_shape, shape}
use Rattle.rig_touch.specs.ShapeLinks.{flat_through}
use Rattle.rig_flush.specs.Shown.{shown_of_kind, shown_operations}
use Rattle.rig_flush.specs.Tables.{AreTablesOf}

-- ---- what a scene has of its shape

-- the parts of the tables
table_parts-shape : (s : SceneRecord) → table_parts (shape s) ≡ table_parts s
unfolding shape
table_parts-shape s =
    let paths = map-map (λ (a : Action). map (λ c. c.path) a.curves) action_shape s.actions
    ∙ (λ i. map (λ (a : Action). map-map (λ (c : Curve). c.path) curve_shape a.curves i) s.actions) in
    ap (λ paths. record (table_parts s) { paths = paths }) paths

shown_of_kind-shape : (o : ObjectId) (k : Kind) → shown_of_kind o (kind_shape k) ≡ shown_of_kind o k
shown_of_kind-shape o kind.Empty = refl
shown_of_kind-shape o (kind.Armature armature pose) = ap (λ n. map (Bone o) (range_with_len 0 n)) (length-map pose (λ _. at_rest))
shown_of_kind-shape o (kind.Pencil pencil modifiers) = refl

-- what its frames show
shown_operations-shape : (s : SceneRecord) → shown_operations (shape s) ≡ shown_operations s
unfolding shape
shown_operations-shape s =
    let made : Object → List OpId = λ o. World o.id ∷ shown_of_kind o.id o.kind in
    flat_through object_shape made made (λ o. ap (λ ops. World o.id ∷ ops) (shown_of_kind-shape o.id o.kind)) s.objects

-- ---- what an edit keeps

module _ (s : SceneRecord) (is : IsTrue (is_scene s)) (edit : Edit) (keeps : IsTrue (keeps_links s edit)) where
  -- the in-links by number
  ins_of_kept : (rows : List (List In)) → AreInsOf s rows → AreInsOf (edited s edit) rows
  ins_of_kept rows are =
      let ops = operations_kept s is edit keeps in
      ap (λ ops. map (map (link_named ops)) rows) ops ∙ are
      ∙ sym (λ i. map (λ op. map Some (ins_kept s is edit keeps op i)) (ops i))

  -- the tables
  pub tables_kept : (ops : List OpId) (links : Links) → AreTablesOf s ops links → AreTablesOf (edited s edit) ops links
  tables_kept ops links are = record {
    same = are.same ∙ sym (operations_kept s is edit keeps);
    ins = ins_of_kept links.ins are.ins;
    fit = are.fit;
  }

  pub parts_kept : table_parts (edited s edit) ≡ table_parts s
  parts_kept = kept_by_shape s is edit keeps table_parts table_parts-shape

  -- what evaluation looks up
  pub scene_tables_kept : (tables : SceneTables) → AreSceneTables tables (table_parts s)
      → AreSceneTables tables (table_parts (edited s edit))
  scene_tables_kept tables are = subst (AreSceneTables tables) (sym parts_kept) are

  pub shown_kept : shown_operations (edited s edit) ≡ shown_operations s
  shown_kept = kept_by_shape s is edit keeps shown_operations shown_operations-shape
