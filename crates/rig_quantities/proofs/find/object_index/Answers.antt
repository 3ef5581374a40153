use Rattle.std.proofs.Common.{◌≡◌, ◌<◌, ◌∙◌, sym, ap, subst, Option, Some, None, refl, rules}
use Rattle.std.proofs.lemmas.List.Sorted.{IsPartitionPoint-from_clause}
use Rattle.std.specs.Prelude.{is_some, nat_lt}
use Rattle.std.specs.Borrow.{Bor}
use Rattle.std.specs.List.{AllPairs, prefix_len}
use Rattle.std.specs.Option.{option_copied}
use Rattle.rig_scene.specs.Facts.{SceneFacts}
use Rattle.rig_scene.specs.FactsHold.{scene_facts}
use Rattle.rig_scene.specs.Scene.{SceneRecord}
use Rattle.rig_quantities.specs.Find.{object_at}
use Rattle.rig_quantities.proofs.Rising.{partitioned, point_is}
use Rattle.rig_quantities.proofs.SlotFacts.{index_is}
use Rattle.rig_quantities.proofs.find.object_index.Goals as goal

some_copied : {A : Type 0} (r : Option (Bor A)) → is_some (option_copied r) ≡ is_some r
some_copied None = refl
some_copied (Some x) = refl

pub returns-then-is_some : goal.returns-then-is_some
returns-then-is_some c =
    let facts = subst SceneFacts c.scene.view_is (scene_facts _ c.scene.invariant.is_scene) in
    let objects = c.as_slice-objects.ensures ∙ ap (λ (s : SceneRecord). s.objects) c.scene.view_is in
    index_is c.args.scene.now facts c.args.id.0 c.args.id
    (ap (λ objects. is_some (object_at objects c.args.id.0 c.args.id)) (sym objects)
    ∙ ap is_some (sym c.object_at.ensures) ∙ some_copied c.object_at.result ∙ sym c.is_some.ensures ∙ c.if-is_some.true)

pub returns-else-is_some : goal.returns-else-is_some
returns-else-is_some c =
    let facts = subst SceneFacts c.scene.view_is (scene_facts _ c.scene.invariant.is_scene) in
    let objects = c.as_slice-objects.ensures ∙ ap (λ (s : SceneRecord). s.objects) c.scene.view_is in
    let rises = subst (λ objects. AllPairs (λ x y. x.id.0 < y.id.0) objects) (sym objects) facts.objects.ids_rise in
    point_is (λ o. o.id.0) c.args.id.0 c.as_slice-objects.result.now c.partition_point.result c.partition_point.ensures.bound
    (IsPartitionPoint-from_clause (λ o. nat_lt o.id.0 c.args.id.0) c.as_slice-objects.result.now c.partition_point.result
    c.partition_point.ensures.partitioned (partitioned (λ o. o.id.0) c.args.id.0 c.as_slice-objects.result.now rises) (λ a r q k. search rules))
    ∙ ap (prefix_len (λ o. nat_lt o.id.0 c.args.id.0)) objects
