use Rattle.std.proofs.Common.{◌≡◌, [], ◌∷◌, None, ap, ◌∙◌}
use Rattle.rig_scene.specs.declared.object.Kind.TheVariants.{Empty}
use Rattle.rig_scene.specs.declared.object.Object.{Object}
use Rattle.rig_nodes.specs.Example.{object_of_kind}
use Rattle.rig_copies.proofs.SmallScenes.{root, child, both_counted, counted_as}
use Rattle.rig_copies.proofs.tests.root_and_child.Goals as goal

pub invariant_of-result : goal.invariant_of-result
invariant_of-result c =
    let first : c.empty-root.result ≡ root = c.empty-root.ensures ∙ ap (λ name. object_of_kind 0 name None Empty) c.in_ok-of.ensures.name.0 in
    let second : c.empty-child.result ≡ child = c.empty-child.ensures ∙ ap (λ name. object_of_kind 1 name None Empty) c.in_ok-of-2.ensures.name.0 in
    let objects : c.from.result ≡ root ∷ child ∷ [] =
    c.from.ensures ∙ c.in_ok-vec.ensures.items ∙ ap (λ (o : Object). o ∷ c.empty-child.result ∷ []) first ∙ ap (λ (o : Object). root ∷ o ∷ []) second in
    counted_as (root ∷ child ∷ []) both_counted c.new.result c.new-2.result c.new-3.result c.from.result c.new-4.result c.new.ensures c.new-2.ensures c.new-3.ensures objects c.new-4.ensures
