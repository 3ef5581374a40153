use Rattle.std.proofs.Common.{sym, ◌∙◌, subst}
use Rattle.std.specs.List.{All, Contains}
use Rattle.rig_scene.specs.Operations.{operations}
use Rattle.rig_flush.specs.ShownThere.{all_shown}
use Rattle.rig_flush.proofs.shown.shown_numbers.Goals as goal

pub numbers_of-requires : goal.numbers_of-requires
numbers_of-requires c =
    subst (λ ops. All (Contains ops) c.as_slice.result.now) (sym c.requires)
    (subst (λ shown. All (Contains (operations c.args.scene.now)) shown) (sym (c.as_slice.ensures.value ∙ c.in_ok-ops.ensures)) (all_shown c.args.scene.now))
