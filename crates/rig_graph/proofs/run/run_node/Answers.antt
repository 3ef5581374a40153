use Rattle.std.specs.Prelude.{slice_get, Contains, option_map, is_some, IsSome, ℤ, if◌then◌else◌}
use Rattle.std.specs.List.{All, filter_map, cons_option}
use Rattle.std.proofs.Common.{◌≡◌, ℕ, ◌<◌, Bool, true, false, List, [], ◌∷◌, length, map, Option, Some, None, refl, sym, ap, ◌∙◌, subst, arith, w32, to_z, of_z}
use Rattle.std.proofs.lemmas.Int.{to_z-of_z}
use Rattle.std.proofs.lemmas.List.Elements.{All-head, All-tail, All-contains}
use Rattle.std.proofs.lemmas.Option.{none-some}
use Rattle.rig_copies.specs.Copies.{kept_at}
use Rattle.rig_flush.specs.ByNumber.{input_from, CanTake, IsNext}
use Rattle.rig_flush.specs.Inputs.{next_within, all_can_take, linked, output_is}
use Rattle.rig_flush.specs.Options.{ok_of_three}
use Rattle.rig_laws.specs.Kernel.{kernel}
use Rattle.rig_laws.specs.Lists.{All-elements, is_some-Some, map_same}
use Rattle.rig_laws.specs.Output.{Output, rest_output}
use Rattle.rig_links.specs.declared.table.In.{In}
use Rattle.rig_scene.specs.Found.{some_slice_get, Contains-slice_get}
use Rattle.rig_scene.specs.declared.modifier.Mode.{Mode}
use Rattle.rig_scene.specs.Operations.{operations}
use Rattle.rig_graph.specs.declared.scene_copy.SceneCopy.{SceneCopy}
use Rattle.rig_graph.specs.Given.{kept_at-given}
use Rattle.rig_graph.specs.Parts.{IsCopy, given_at, input_at, given, output_at_number}
use Rattle.rig_graph.proofs.run.run_node.Goals as goal

-- what is there of each element
values_there : {X Y : Type 0} (f : X → Option Y) (xs : List X) → All (λ x. IsSome (f x)) xs → map Some (filter_map f xs) ≡ map f xs
values_there f [] there = refl
values_there {X} {Y} f (x ∷ xs) there =
    by (f x) (All-head (λ x. IsSome (f x)) x xs there) (values_there f xs (All-tail (λ x. IsSome (f x)) x xs there))
  where
    by : (o : Option Y) → IsSome o → map Some (filter_map f xs) ≡ map f xs → map Some (cons_option o (filter_map f xs)) ≡ o ∷ map f xs
    by None none later = let some = is_some-Some {X = Y} None none in absurd (none-some some.0 some.1)
    by (Some y) found later = ap (λ l. Some y ∷ l) later

-- what is taken at the in-links of a number that is next
module _ (copy : SceneCopy) (is_copy : IsCopy copy) (mode : Mode) (frame : ℤ) (numbers : List ℕ) (results : List Output)
    (kept : List (Option Output)) (n : ℕ)
    (next : IsNext copy.scene mode frame copy.links.order (given (length copy.nodes) numbers results kept) n) where
  abbrev all : List (Option Output)
  all = given (length copy.nodes) numbers results kept

  in_scene : n < length (operations copy.scene)
  in_scene = next_within copy.scene is_copy.met copy.nodes copy.links is_copy.tables mode frame all n next

  within : n < length copy.nodes
  within = omega (arith, in_scene, ap length is_copy.tables.same)

  within_rows : n < length copy.links.ins
  within_rows = omega (arith, within, is_copy.tables.fit.rows)

  module _ (row : List In) (is_row : slice_get copy.links.ins n ≡ Some row) where
    abbrev taken : In → Option Output
    taken = input_at copy.rests.items numbers results kept

    can_take : (l : In) → Contains row l → CanTake copy.nodes all l
    can_take l listed =
        let op = some_slice_get (operations copy.scene) n in_scene in
        All-contains (CanTake copy.nodes all) row l
        (all_can_take copy.scene is_copy.met copy.nodes copy.links is_copy.tables n op.0 row op.1 is_row mode frame all next) listed

    same : (l : In) → Contains row l → taken l ≡ input_from copy.nodes all l
    same l listed = by l.cut refl
      where
        by : (b : Bool) → l.cut ≡ b → taken l ≡ input_from copy.nodes all l
        by true cut =
            ap (λ b. if b then kept_at copy.rests.items l.source else given_at numbers results kept l.source) cut
            ∙ is_copy.rests n row is_row l listed cut
            ∙ sym (ap (λ b. if b then option_map rest_output (slice_get copy.nodes l.source) else kept_at all l.source) cut)
        by false uncut =
            ap (λ b. if b then kept_at copy.rests.items l.source else given_at numbers results kept l.source) uncut
            ∙ sym (kept_at-given (length copy.nodes) numbers results kept l.source (can_take l listed).within)
            ∙ sym (ap (λ b. if b then option_map rest_output (slice_get copy.nodes l.source) else kept_at all l.source) uncut)

    there : (l : In) → Contains row l → IsSome (input_from copy.nodes all l)
    there l listed = by l.cut refl
      where
        by : (b : Bool) → l.cut ≡ b → IsSome (input_from copy.nodes all l)
        by true cut =
            let op = some_slice_get copy.nodes l.source (can_take l listed).within in
            ap (λ b. is_some (if b then option_map rest_output (slice_get copy.nodes l.source) else kept_at all l.source)) cut
            ∙ ap (λ o. is_some (option_map rest_output o)) op.1
        by false uncut =
            ap (λ b. is_some (if b then option_map rest_output (slice_get copy.nodes l.source) else kept_at all l.source)) uncut
            ∙ (can_take l listed).there uncut

    all_there : All (λ l. IsSome (taken l)) row
    all_there = All-elements (λ l. IsSome (taken l)) row (λ l listed. subst (λ o. IsSome o) (sym (same l listed)) (there l listed))

    inputs_same : map Some (filter_map taken row) ≡ map (input_from copy.nodes all) row
    inputs_same =
        values_there taken row all_there
        ∙ map_same taken (input_from copy.nodes all) row (All-elements (λ l. taken l ≡ input_from copy.nodes all l) row same)

    -- over rest values and outputs that are the same
    module _ (rests now : List (Option Output)) (rests_are : rests ≡ copy.rests.items) (kept_is : now ≡ kept) where
      abbrev taken_now : In → Option Output
      taken_now = input_at rests numbers results now

      taken_is : taken ≡ taken_now
      taken_is = λ i. input_at (sym rests_are i) numbers results (sym kept_is i)

      there_now : All (λ l. IsSome (taken_now l)) row
      there_now = subst (λ (f : In → Option Output). All (λ l. IsSome (f l)) row) taken_is all_there

      inputs_now : map Some (filter_map taken_now row) ≡ map (input_from copy.nodes all) row
      inputs_now =
          subst (λ (f : In → Option Output). map Some (filter_map f row) ≡ map (input_from copy.nodes all) row) taken_is inputs_same

pub ins-requires : goal.ins-requires
ins-requires g c =
    within_rows c.args.copy.now c.requires.copy c.args.mode c.args.frame c.args.reached.now.members c.args.results.now
    c.args.copies.now.kept c.args.n c.requires.next

pub op-requires : goal.op-requires
op-requires g c =
    within c.args.copy.now c.requires.copy c.args.mode c.args.frame c.args.reached.now.members c.args.results.now
    c.args.copies.now.kept c.args.n c.requires.next

pub invariant_of-inputs : goal.invariant_of-inputs
invariant_of-inputs g c =
    let copy = c.args.copy.now in
    let row = c.ins.result.now in (
      subst (λ count. All (λ (l : In). l.source < count) row) (c.requires.copy.tables.fit.rows ∙ sym c.requires.count)
          c.ins.ensures.within,
      there_now copy c.requires.copy c.args.mode c.args.frame c.args.reached.now.members c.args.results.now
          c.args.copies.now.kept c.args.n c.requires.next row c.ins.ensures.row
          c.as_slice.result.now c.take_spare-spare.new.self.kept c.as_slice.ensures.value
          (ap (λ copies. copies.kept) c.take_spare-spare.ensures),
    )

pub run_op_into-requires-clause-op : goal.run_op_into-requires-clause-op
run_op_into-requires-clause-op g c =
    let copy = c.args.copy.now in
    Contains-slice_get (operations copy.scene) c.args.n c.op.result.now
    (ap (λ l. slice_get l c.args.n) (sym c.requires.copy.tables.same) ∙ c.op.ensures)

pub run_op_into-requires-clause-inputs : goal.run_op_into-requires-clause-inputs
run_op_into-requires-clause-inputs g c =
    let copy = c.args.copy.now in
    let members = c.args.reached.now.members in
    let row = c.ins.result.now in
    let rests = c.as_slice.result.now in
    let now = c.take_spare-spare.new.self.kept in
    linked copy.scene c.requires.copy.met copy.nodes copy.links c.requires.copy.tables c.args.n c.op.result.now row
    (ap (λ l. slice_get l c.args.n) (sym c.requires.copy.tables.same) ∙ c.op.ensures) c.ins.ensures.row c.args.mode c.args.frame
    (given (length copy.nodes) members c.args.results.now c.args.copies.now.kept) c.requires.next
    (filter_map (input_at rests members c.args.results.now now) row)
    (inputs_now copy c.requires.copy c.args.mode c.args.frame members c.args.results.now c.args.copies.now.kept c.args.n
    c.requires.next row c.ins.ensures.row rests now c.as_slice.ensures.value (ap (λ copies. copies.kept) c.take_spare-spare.ensures))

pub returns-clause-value : goal.returns-clause-value
returns-clause-value g c =
    let copy = c.args.copy.now in
    let s = copy.scene in
    let members = c.args.reached.now.members in
    let op = c.op.result.now in
    let row = c.ins.result.now in
    let rests = c.as_slice.result.now in
    let now = c.take_spare-spare.new.self.kept in
    let inputs = filter_map (input_at rests members c.args.results.now now) row in
    let passed : to_z w32 (of_z w32 c.args.frame) ≡ c.args.frame = to_z-of_z w32 c.args.frame c.ranges.frame in
    let taken =
    inputs_now copy c.requires.copy c.args.mode c.args.frame members c.args.results.now c.args.copies.now.kept c.args.n
    c.requires.next row c.ins.ensures.row rests now c.as_slice.ensures.value (ap (λ copies. copies.kept) c.take_spare-spare.ensures) in
    ok_of_three c.run_op_into.result
    (λ out. kernel s c.args.mode (to_z w32 (of_z w32 c.args.frame)) op inputs ≡ Some out.value) (λ out. out.op ≡ op)
    (λ out. out.is_rest ≡ false) (λ out. output_at_number s c.args.mode c.args.frame c.args.n ≡ Some out)
    (λ out value of_op no_rest. output_is s c.requires.copy.met copy.nodes copy.links c.requires.copy.tables c.args.n op row
    (ap (λ l. slice_get l c.args.n) (sym c.requires.copy.tables.same) ∙ c.op.ensures) c.ins.ensures.row c.args.mode c.args.frame
    (given (length copy.nodes) members c.args.results.now c.args.copies.now.kept) c.requires.next inputs out taken
    (ap (λ f. kernel s c.args.mode f op inputs) (sym passed) ∙ value) of_op no_rest)
    c.run_op_into.ensures.value c.run_op_into.ensures.op c.run_op_into.ensures.kept
