use Rattle.std.proofs.Common.{ℕ, ◌<◌, List, ◌++◌, length, sym, ap, ◌∙◌, subst}
use Rattle.std.specs.List.{All}
use Rattle.rig_cut.specs.NodeSets.{Nodes}
use Rattle.rig_flush.specs.Shown.{shown_operations}
use Rattle.rig_scene.specs.Pairs.{NoneTwice}
use Rattle.rig_graph.specs.ShownOnce.{shown_once, numbers_once, numbers_within}
use Rattle.rig_graph.proofs.scene_copy.shown_set.Goals as goal

pub add_each-requires-clause-within : goal.add_each-requires-clause-within
add_each-requires-clause-within c =
    subst (λ (count : ℕ). All (λ n. n < count) c.as_slice.result.now)
    (sym (ap (λ (s : Nodes). s.count) c.in_ok-set.ensures ∙ c.len.ensures))
    (subst (λ (numbers : List ℕ). All (λ n. n < length c.args.nodes.now) numbers) (sym c.as_slice.ensures.value)
    (numbers_within c.args.nodes.now (shown_operations c.args.scene.now) c.in_ok-numbers.numbers.items c.in_ok-numbers.ensures))

pub add_each-requires-clause-once : goal.add_each-requires-clause-once
add_each-requires-clause-once c =
    subst (λ (members : List ℕ). NoneTwice (members ++ c.as_slice.result.now)) (sym (ap (λ (s : Nodes). s.members) c.in_ok-set.ensures))
    (subst (λ (numbers : List ℕ). NoneTwice numbers) (sym c.as_slice.ensures.value)
    (numbers_once c.args.nodes.now (shown_operations c.args.scene.now) c.in_ok-numbers.numbers.items c.in_ok-numbers.ensures
    (shown_once c.args.scene.now c.requires.scene)))
