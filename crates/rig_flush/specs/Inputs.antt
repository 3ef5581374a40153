-- What an operation takes by number is what it takes from its in-links, where the outputs before it are kept.
use Rattle.std.proofs.Common.{◌≡◌, ℕ, ◌<◌, Bool, true, false, List, [], ◌∷◌, length, map, filter, Option, Some, None, refl, sym, ap, ◌∙◌, subst}
use Rattle.std.specs.Prelude.{IsPermutation, slice_get, option_map, option_and_then, is_some, not, IsTrue, IsSome, ℤ, if◌then◌else◌}
use Rattle.std.specs.List.{All, Contains, enumerate_from, range_with_len}
use Rattle.std.proofs.lemmas.List.Elements.{All-contains, Contains-append_right}
use Rattle.std.proofs.lemmas.List.Sorted.{All-permutation}
use Rattle.std.proofs.lemmas.Option.{slice_get-map, slice_get_within, same_Some}
use Rattle.std.proofs.lemmas.Simd.{map-map}
use Rattle.rig_cycles.specs.Cut.{Arrow}
use Rattle.rig_cycles.specs.Elements.{element_first, element_kept, element_map}
use Rattle.rig_laws.specs.Kernel.{kernel}
use Rattle.rig_laws.specs.Follows.{value_from_inputs}
use Rattle.rig_laws.specs.OperationValue.{operation_value}
use Rattle.rig_laws.specs.Output.{Output, link_of, rest_output, output_at}
use Rattle.rig_laws.specs.CutLinks.{cut_links_are_cuts}
use Rattle.rig_laws.specs.Kept.{cut_links}
use Rattle.rig_laws.specs.LinkArrows.{reference_link}
use Rattle.rig_laws.specs.Lists.{All-elements, All-below, Contains-flat_map, Contains-numbered, element_of_map, map_same}
use Rattle.rig_links.specs.declared.table.In.{In}
use Rattle.rig_links.specs.Links.{Links, link_named, kept_reads}
use Rattle.rig_scene.specs.Cut.{cuts}
use Rattle.rig_scene.specs.Found.{Contains-slice_get}
use Rattle.rig_scene.specs.Operations.{InLink, operations, operation_of, ins}
use Rattle.rig_scene.specs.Order.{quantity_of-operation_of}
use Rattle.rig_scene.specs.Scene.{SceneRecord}
use Rattle.rig_scene.specs.StandsFor.{quantity_of}
use Rattle.rig_scene.specs.Value.{Value}
use Rattle.rig_scene.specs.WellFormed.{is_scene}
use Rattle.rig_scene.specs.declared.modifier.Mode.{Mode}
use Rattle.rig_scene.specs.declared.operation.OpId.{OpId}
use Rattle.rig_scene.specs.declared.quantity.CutRead.{CutRead}
use Rattle.rig_flush.specs.ByNumber.{kept_at, input_from, CanTake, IsNext}
use Rattle.rig_flush.specs.Shown.{output_of}
use Rattle.rig_flush.specs.Tables.{AreTablesOf}
use Rattle.rig_flush.specs.Options.{same_values}

-- ---- links

-- the operation and the mark of an in-link that is named
some_named : (ops : List OpId) (l : In) (link : InLink) → link_named ops l ≡ Some link → (source : Option OpId) → slice_get ops l.source ≡ source → (slice_get ops l.source ≡ Some link.op) × (l.cut ≡ link.cut)
some_named ops l link is None e = absurd (let no : Some link ≡ None = sym is ∙ ap (option_map (λ op. record { op = op; cut = l.cut })) e in cc)
some_named ops l link is (Some op) e =
    let same : Some (record { op = op; cut = l.cut }) ≡ Some link = sym (ap (option_map (λ op. record { op = op; cut = l.cut })) e) ∙ is in
    let link_is : record { op = op; cut = l.cut } ≡ link = same_Some (record { op = op; cut = l.cut }) link same in
    (e ∙ ap (λ (k : InLink). Some k.op) link_is, ap (λ (k : InLink). k.cut) link_is)

-- the link that an output at a link stands at is that link
link_of-output_at : (values : OpId → Value) (link : InLink) → link_of (output_at values link) ≡ link
link_of-output_at values link = by link.cut refl
  where
    by : (b : Bool) → link.cut ≡ b → link_of (if b then rest_output link.op else record { op = link.op; value = values link.op; is_rest = false }) ≡ link
    by true e = ap (λ b. record { op = link.op; cut = b }) (sym e)
    by false e = ap (λ b. record { op = link.op; cut = b }) (sym e)

pub links_of_outputs : (values : OpId → Value) (links : List InLink) → map link_of (map (output_at values) links) ≡ links
links_of_outputs values [] = refl
links_of_outputs values (link ∷ links) =
    let first = link_of-output_at values link in
    let rest = links_of_outputs values links in
    λ i. first i ∷ rest i

-- a cut in-link of an operation is of one that stands for a quantity
cut_quantity : (s : SceneRecord) → IsTrue (is_scene s) → (op : OpId) (link : InLink) → Contains (operations s) op → Contains (ins s op) link → link.cut ≡ true → IsSome (quantity_of link.op)
cut_quantity s met op link here within cut =
    let listed : Contains (cut_links s) (reference_link op link.op) =
    Contains-flat_map (λ op. map (λ link. reference_link op link.op) (filter (λ link. link.cut) (ins s op))) (operations s) op (reference_link op link.op) here
    (element_map (λ (link : InLink). reference_link op link.op) (filter (λ link. link.cut) (ins s op)) link (element_kept (λ (link : InLink). link.cut) (ins s op) link within cut)) in
    let found = element_of_map (λ (c : CutRead). reference_link (operation_of c.reader) (operation_of c.source)) (cuts s) (reference_link op link.op)
    (subst (λ l. Contains l (reference_link op link.op)) (cut_links_are_cuts s met) listed) in
    let same : operation_of found.0.source ≡ link.op = ap (λ (a : Arrow OpId). a.source) found.2 in
    subst (λ o. IsSome (quantity_of o)) same (ap is_some (quantity_of-operation_of found.0.source))

module _ (s : SceneRecord) (met : IsTrue (is_scene s)) (ops : List OpId) (links : Links) (tables : AreTablesOf s ops links) where
  -- the numbers of an order are those of the operations
  order_within : All (λ n. n < length (operations s)) links.order
  order_within =
      All-permutation (λ n. n < length (operations s)) (range_with_len 0 (length (operations s))) links.order
      (subst (λ (ops : List OpId). IsPermutation (range_with_len 0 (length ops)) links.order) tables.same tables.fit.order.same_nodes)
      (All-below (λ n. n < length (operations s)) (length (operations s)) (λ k l. l))

  pub next_within : (mode : Mode) (frame : ℤ) (kept : List (Option Output)) (n : ℕ) → IsNext s mode frame links.order kept n → n < length (operations s)
  next_within mode frame kept n next =
      All-contains (λ n. n < length (operations s)) links.order n order_within
      (subst (λ l. Contains l n) (sym next.order_is) (Contains-append_right next.before (n ∷ next.after) n (element_first n next.after)))

  module _ (n : ℕ) (op : OpId) (row : List In) (is_op : slice_get (operations s) n ≡ Some op) (is_row : slice_get links.ins n ≡ Some row) where
    -- a row of in-links has those of its operation
    row_named : map (link_named (operations s)) row ≡ map Some (ins s op)
    row_named =
        same_Some (map (link_named (operations s)) row) (map Some (ins s op))
        (sym (slice_get-map (map (link_named (operations s))) links.ins n ∙ ap (option_map (map (link_named (operations s)))) is_row)
        ∙ ap (λ l. slice_get l n) tables.ins
        ∙ slice_get-map (λ op. map Some (ins s op)) (operations s) n
        ∙ ap (option_map (λ op. map Some (ins s op))) is_op)

    -- one of them
    named : (l : In) → Contains row l → (link : InLink) × Contains (ins s op) link × (slice_get (operations s) l.source ≡ Some link.op) × (l.cut ≡ link.cut)
    named l within =
        let there = subst (λ ls. Contains ls (link_named (operations s) l)) row_named (element_map (link_named (operations s)) row l within) in
        let found = element_of_map Some (ins s op) (link_named (operations s) l) there in
        let parts = some_named (operations s) l found.0 (sym found.2) (slice_get (operations s) l.source) refl in
        (found.0, found.1, parts.0, parts.1)

    -- one that isn't cut is a read
    is_read : (l : In) → Contains row l → l.cut ≡ false → Contains (kept_reads links.ins) (record { reader = n; source = l.source; is_reference = false })
    is_read l within uncut =
        Contains-flat_map (λ e. map (λ l. record { reader = e.0; source = l.source; is_reference = false }) (filter (λ l. not l.cut) e.1)) (enumerate_from 0 links.ins) (n, row) _
        (Contains-numbered links.ins n row is_row)
        (element_map (λ (l : In). record { reader = n; source = l.source; is_reference = false }) (filter (λ l. not l.cut) row) l
        (element_kept (λ (l : In). not l.cut) row l within (ap not uncut)))

    module _ (mode : Mode) (frame : ℤ) (kept : List (Option Output)) (next : IsNext s mode frame links.order kept n) where
      abbrev values : OpId → Value
      values = operation_value s mode frame

      -- what is kept of the source of an uncut one
      kept_source : (l : In) → Contains row l → l.cut ≡ false → (source : OpId) → slice_get (operations s) l.source ≡ Some source → kept_at kept l.source ≡ Some (output_of s mode frame source)
      kept_source l within uncut source is =
          let before : Contains next.before l.source = tables.fit.order.sources_first next.before next.after n next.order_is _ (is_read l within uncut) refl in
          ap (option_and_then (λ out. out))
          (All-contains (λ n. slice_get kept n ≡ Some (option_map (output_of s mode frame) (slice_get (operations s) n))) next.before l.source next.are_kept before
          ∙ ap (λ o. Some (option_map (output_of s mode frame) o)) is)

      can_take : (l : In) → Contains row l → CanTake (operations s) kept l
      can_take l within =
          let is = named l within in
          record {
            within = slice_get_within (operations s) l.source is.0.op is.2;
            rest = λ cut. ap (λ o. is_some (option_and_then quantity_of o)) is.2 ∙ cut_quantity s met op is.0 (Contains-slice_get (operations s) n op is_op) is.1 (sym is.3 ∙ cut);
            there = λ uncut. ap is_some (kept_source l within uncut is.0.op is.2);
          }

      pub all_can_take : All (CanTake ops kept) row
      all_can_take = subst (λ os. All (CanTake os kept) row) (sym tables.same) (All-elements (CanTake (operations s) kept) row can_take)

      input_is : (l : In) → Contains row l → input_from (operations s) kept l ≡ option_map (output_at values) (link_named (operations s) l)
      input_is l within = let is = named l within in by is l.cut refl
        where
          by : ((link : InLink) × Contains (ins s op) link × (slice_get (operations s) l.source ≡ Some link.op) × (l.cut ≡ link.cut)) → (b : Bool) → l.cut ≡ b
              → input_from (operations s) kept l ≡ option_map (output_at values) (link_named (operations s) l)
          by is true e =
              ap (λ b. if b then option_map rest_output (slice_get (operations s) l.source) else kept_at kept l.source) e
              ∙ ap (option_map rest_output) is.2
              ∙ sym (ap (λ b. option_map (output_at values) (option_map (λ op. record { op = op; cut = b }) (slice_get (operations s) l.source))) e
              ∙ ap (λ o. option_map (output_at values) (option_map (λ op. record { op = op; cut = true }) o)) is.2)
          by is false e =
              ap (λ b. if b then option_map rest_output (slice_get (operations s) l.source) else kept_at kept l.source) e
              ∙ kept_source l within e is.0.op is.2
              ∙ sym (ap (λ b. option_map (output_at values) (option_map (λ op. record { op = op; cut = b }) (slice_get (operations s) l.source))) e
              ∙ ap (λ o. option_map (output_at values) (option_map (λ op. record { op = op; cut = false }) o)) is.2)

      -- what is taken
      pub inputs_are : (inputs : List Output) → map Some inputs ≡ map (input_from ops kept) row → inputs ≡ map (output_at (operation_value s mode frame)) (ins s op)
      inputs_are inputs taken =
          same_values inputs (map (output_at values) (ins s op))
          (taken
          ∙ ap (λ os. map (input_from os kept) row) tables.same
          ∙ map_same (input_from (operations s) kept) (λ l. option_map (output_at values) (link_named (operations s) l)) row (All-elements _ row input_is)
          ∙ sym (map-map (option_map (output_at values)) (link_named (operations s)) row)
          ∙ ap (map (option_map (output_at values))) row_named
          ∙ map-map (option_map (output_at values)) Some (ins s op)
          ∙ sym (map-map Some (output_at values) (ins s op)))

      pub linked : (inputs : List Output) → map Some inputs ≡ map (input_from ops kept) row → map link_of inputs ≡ ins s op
      linked inputs taken = ap (map link_of) (inputs_are inputs taken) ∙ links_of_outputs values (ins s op)

      -- what the kernel gives over it
      pub output_is : (inputs : List Output) (out : Output) → map Some inputs ≡ map (input_from ops kept) row → kernel s mode frame op inputs ≡ Some out.value → out.op ≡ op → out.is_rest ≡ false
          → option_map (output_of s mode frame) (slice_get (operations s) n) ≡ Some out
      output_is inputs out taken given of_op no_rest =
          let value = value_from_inputs s met mode frame op inputs out.value (Contains-slice_get (operations s) n op is_op) (inputs_are inputs taken) given in
          ap (option_map (output_of s mode frame)) is_op
          ∙ ap Some (λ i. record { op = sym of_op i; value = sym value i; is_rest = sym no_rest i })
