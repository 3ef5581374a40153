use Rattle.std.proofs.Common.{◌≡◌, ℕ, List, [], ◌∷◌, Some, None, ap, ◌∙◌}
use Rattle.std.specs.Prelude.{codes}
use Rattle.rig_scene.specs.declared.action.Action.{Action}
use Rattle.rig_scene.specs.declared.action.Curve.{Curve}
use Rattle.rig_scene.specs.declared.object.Kind.TheVariants.{Empty}
use Rattle.rig_scene.specs.declared.object.Object.{Object}
use Rattle.rig_nodes.specs.Example.{two_empties, object_of_kind}
use Rattle.rig_nodes.proofs.SmallScenes.{two_empties_counted, counted_as}
use Rattle.rig_nodes.proofs.tests.two_empties.Goals as goal

abbrev action : List ℕ → List Curve → Action
action name curves = record { name = name; curves = curves }

pub invariant_of-result : goal.invariant_of-result
invariant_of-result c =
    let actions : c.from.result ≡ two_empties.actions =
    c.from.ensures ∙ c.in_ok-vec.ensures.items
    ∙ ap (λ name. action name c.new.result ∷ []) c.in_ok-of.ensures.name.0
    ∙ ap (λ curves. action (codes "Move") curves ∷ []) c.new.ensures in
    let root : c.object-root.result ≡ object_of_kind 0 (codes "Root") (Some 0) Empty =
    c.object-root.ensures ∙ ap (λ name. object_of_kind 0 name (Some 0) Empty) c.in_ok-of-2.ensures.name.0 in
    let child : c.object-child.result ≡ object_of_kind 1 (codes "Child") None Empty =
    c.object-child.ensures ∙ ap (λ name. object_of_kind 1 name None Empty) c.in_ok-of-3.ensures.name.0 in
    let objects : c.from-2.result ≡ two_empties.objects =
    c.from-2.ensures ∙ c.in_ok-vec-2.ensures.items
    ∙ ap (λ (o : Object). o ∷ c.object-child.result ∷ []) root
    ∙ ap (λ (o : Object). object_of_kind 0 (codes "Root") (Some 0) Empty ∷ o ∷ []) child in
    counted_as two_empties two_empties_counted c.from.result c.new-2.result c.new-3.result c.from-2.result c.new-4.result actions c.new-2.ensures c.new-3.ensures objects c.new-4.ensures
