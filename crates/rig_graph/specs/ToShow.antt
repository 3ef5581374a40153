-- Once what is planned has run, there is an output of each operation that a frame shows.
use Rattle.std.specs.Prelude.{slice_get, IsPermutation, option_map, IsSome, ℤ}
use Rattle.std.specs.List.{All, range_with_len}
use Rattle.std.proofs.Common.{◌≡◌, ℕ, List, [], ◌∷◌, length, map, Option, Some, refl, sym, ap, ◌∙◌, subst}
use Rattle.std.proofs.lemmas.List.Elements.{All-nil, All-cons, All-contains}
use Rattle.std.proofs.lemmas.Option.{slice_get_within}
use Rattle.rig_flush.specs.Shown.{output_of, shown_operations}
use Rattle.rig_graph.specs.declared.scene_copy.SceneCopy.{SceneCopy}
use Rattle.rig_graph.specs.Given.{given_from_scratch}
use Rattle.rig_graph.specs.Parts.{IsCopy, IsPlanned, given_at, output_at_number}
use Rattle.rig_laws.specs.Lists.{All-elements}
use Rattle.rig_laws.specs.Output.{Output}
use Rattle.rig_scene.specs.declared.modifier.Mode.{Mode}
use Rattle.rig_scene.specs.declared.operation.OpId.{OpId}
use Rattle.rig_scene.specs.Operations.{operations}

-- what gives a list of things is there
all_are_there : {X : Type 0} (f : ℕ → Option X) (numbers : List ℕ) (xs : List X) → map f numbers ≡ map Some xs
    → All (λ n. (x : X) × (f n ≡ Some x)) numbers
all_are_there {X} f [] xs e = All-nil (λ n. (x : X) × (f n ≡ Some x))
all_are_there {X} f (n ∷ numbers) [] e = absurd (cc)
all_are_there {X} f (n ∷ numbers) (y ∷ xs) e =
    All-cons (λ n. (x : X) × (f n ≡ Some x)) n numbers (y, cc) (all_are_there f numbers xs (cc))

module _ (c : SceneCopy) (mode : Mode) (frame : ℤ) (numbers : List ℕ) (kept : List (Option Output)) (results : List Output) (copy : IsCopy c)
    (planned : IsPlanned c.scene mode frame c.links.order numbers kept) (ran : map Some results ≡ map (output_at_number c.scene mode frame) numbers) where
  permutes : IsPermutation (range_with_len 0 (length (operations c.scene))) c.links.order
  permutes = subst (λ (ops : List OpId). IsPermutation (range_with_len 0 (length ops)) c.links.order) copy.tables.same copy.tables.fit.order.same_nodes

  pub all_to_show : All (λ n. IsSome (given_at numbers results kept n)) c.shown.members
  all_to_show =
      All-elements (λ n. IsSome (given_at numbers results kept n)) c.shown.members (λ n listed.
      let op = All-contains (λ n. (x : OpId) × (slice_get c.nodes n ≡ Some x)) c.shown.members n
      (all_are_there (slice_get c.nodes) c.shown.members (shown_operations c.scene) copy.shown) listed in
      let at : slice_get (operations c.scene) n ≡ Some op.0 = ap (λ l. slice_get l n) (sym copy.tables.same) ∙ op.1 in
      let is : given_at numbers results kept n ≡ Some (output_of c.scene mode frame op.0) =
      given_from_scratch c.scene mode frame c.links.order numbers kept planned permutes results ran n (slice_get_within (operations c.scene) n op.0 at)
      ∙ ap (option_map (output_of c.scene mode frame)) at in
      subst IsSome (sym is) refl)
