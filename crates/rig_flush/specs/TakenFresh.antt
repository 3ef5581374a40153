-- An edit that is taken keeps a graph fresh. What isn't reached from the tags after it wasn't reached before either, and has the value
-- that it had.
use Rattle.std.specs.Prelude.{IsTrue, Contains, ℤ, if◌then◌else◌}
use Rattle.std.specs.List.{All}
use Rattle.std.proofs.Common.{◌≡◌, ◌||◌, ℕ, zero, suc, ◌<◌, Bool, true, false, not, List, [], ◌∷◌, map, filter, Option, Some, None, refl, sym, ap, ◌∙◌, subst, arith, true≢false}
use Rattle.std.proofs.lemmas.Bool.{and_parts, or_parts, not-false, not-true, false_from_ne_true, true_from_ne_false}
use Rattle.std.proofs.lemmas.List.Elements.{All-contains}
use Rattle.std.proofs.lemmas.Option.{same_Some}
use Rattle.rig_cycles.specs.Cut.{Arrow, leads}
use Rattle.rig_cycles.specs.Walk.{Walk, IsRank}
use Rattle.rig_cycles.specs.Walk.Walk.{none, first}
use Rattle.rig_cycles.specs.Elements.{element_kept, element_of_kept, kept_passes, element_map, any_from_element, element_from_any}
use Rattle.rig_cycles.specs.Leads.{leads_decides, walk_keeps}
use Rattle.rig_cycles.specs.RankOrder.{rank_exists}
use Rattle.rig_edits.specs.declared.edit.Edit.{Edit}
use Rattle.rig_edits.specs.Conditions.{first_cause, IsEdit}
use Rattle.rig_edits.specs.Edited.{edited}
use Rattle.rig_edits.specs.Keeps.{keeps}
use Rattle.rig_laws.specs.Follows.{values_follow}
use Rattle.rig_laws.specs.Kept.{kept_links}
use Rattle.rig_laws.specs.Kernel.{kernel}
use Rattle.rig_laws.specs.LinksAcyclic.{links_acyclic}
use Rattle.rig_laws.specs.LinksClosed.{ins_closed}
use Rattle.rig_laws.specs.Lists.{All-elements, Contains-flat_map, element_of_flat_map, element_of_map, map_same}
use Rattle.rig_laws.specs.OperationValue.{operation_value}
use Rattle.rig_laws.specs.Output.{Output, output_at, rest_output}
use Rattle.rig_links.specs.Numbers.{same_operation}
use Rattle.rig_links.specs.SameOperation.{same_operation-Decides}
use Rattle.rig_scene.specs.declared.modifier.Mode.{Mode}
use Rattle.rig_scene.specs.declared.operation.OpId.{OpId}
use Rattle.rig_scene.specs.Operations.{InLink, operations, ins}
use Rattle.rig_scene.specs.Scene.{SceneRecord}
use Rattle.rig_scene.specs.Value.{Value}
use Rattle.rig_scene.specs.WellFormed.{is_scene}
use Rattle.rig_touch.specs.Touch.{touch}
use Rattle.rig_touch.specs.TouchedAlone.{left_kernel}
use Rattle.rig_flush.specs.Graph.{GraphState, Published, Fresh, taken, kept_of}
use Rattle.rig_flush.specs.Reach.{is_reached, reach}
use Rattle.rig_flush.specs.Retag.{is_one_of, same_link, same_links, is_tagged_after, retagged}

-- ---- tests

one_of : (ops : List OpId) (op : OpId) → Contains ops op → is_one_of ops op ≡ true
one_of ops op e = any_from_element (same_operation op) ops op e ((same_operation-Decides op op).1 refl)

one_is : (ops : List OpId) (op : OpId) → is_one_of ops op ≡ true → Contains ops op
one_is ops op t =
    let found = element_from_any (same_operation op) ops t in
    subst (λ o. Contains ops o) (sym ((same_operation-Decides op found.0).0 found.2)) found.1

none_is : (ops : List OpId) (op : OpId) → is_one_of ops op ≡ false → Contains ops op → ⊥
none_is ops op f e = true≢false (sym (one_of ops op e) ∙ f)

-- ---- links that are found the same are the same

abbrev link_at : OpId → Bool → InLink
link_at op cut = record { op = op; cut = cut }

same_at : (a b : OpId) (c d : Bool) → same_link (link_at a c) (link_at b d) ≡ true → link_at a c ≡ link_at b d
same_at a b true true h = ap (λ o. link_at o true) ((same_operation-Decides a b).0 (and_parts (same_operation a b) true h).0)
same_at a b true false h = absurd (true≢false (sym (and_parts (same_operation a b) false h).1))
same_at a b false true h = absurd (true≢false (sym (and_parts (same_operation a b) false h).1))
same_at a b false false h = ap (λ o. link_at o false) ((same_operation-Decides a b).0 (and_parts (same_operation a b) true h).0)

links_same : (xs ys : List InLink) → same_links xs ys ≡ true → xs ≡ ys
links_same [] [] h = refl
links_same [] (y ∷ ys) h = absurd (true≢false (sym h))
links_same (x ∷ xs) [] h = absurd (true≢false (sym h))
links_same (x ∷ xs) (y ∷ ys) h =
    let parts = and_parts (same_link x y) (same_links xs ys) h in
    let here : x ≡ y = same_at x.op y.op x.cut y.cut parts.0 in
    let later = links_same xs ys parts.1 in
    λ i. here i ∷ later i

-- ---- what is reached, by walks

-- a walk along in-links that aren't cut leads from an operation to a tagged one
abbrev ToTag : SceneRecord → List OpId → OpId → Type 0
ToTag s tags op = (tag : OpId) × Contains tags tag × Walk (kept_links s) op tag

reached_by_walk : (s : SceneRecord) (tags : List OpId) (op : OpId) → Contains (operations s) op → ToTag s tags op
    → Contains (reach s tags) op
unfolding reach
reached_by_walk s tags op there w =
    element_kept (is_reached same_operation (kept_links s) tags) (operations s) op there
    (any_from_element (leads same_operation (kept_links s) op) tags w.0 w.1
    ((leads_decides same_operation same_operation-Decides (kept_links s) op w.0).1 w.2))

walk_of_reached : (s : SceneRecord) (tags : List OpId) (op : OpId) → Contains (reach s tags) op → ToTag s tags op
unfolding reach
walk_of_reached s tags op e =
    let passes = kept_passes (is_reached same_operation (kept_links s) tags) (operations s) op e in
    let found = element_from_any (leads same_operation (kept_links s) op) tags passes in
    (found.0, found.1, (leads_decides same_operation same_operation-Decides (kept_links s) op found.0).0 found.2)

-- ---- in-links that aren't cut, as reads

abbrev read_of : OpId → OpId → Arrow OpId
read_of reader source = record { reader = reader; source = source; is_reference = false }

abbrev reads_of : SceneRecord → OpId → List (Arrow OpId)
reads_of s op = map (λ (link : InLink). read_of op link.op) (filter (λ link. not link.cut) (ins s op))

read_is : (s : SceneRecord) (op : OpId) (link : InLink) → Contains (operations s) op → Contains (ins s op) link → link.cut ≡ false
    → Contains (kept_links s) (read_of op link.op)
read_is s op link there e uncut =
    Contains-flat_map (reads_of s) (operations s) op (read_of op link.op) there
    (element_map (λ (link : InLink). read_of op link.op) (filter (λ link. not link.cut) (ins s op)) link
    (element_kept (λ link. not link.cut) (ins s op) link e (ap not uncut)))

-- the in-link that a read stands for
record IsLinkOf (s : SceneRecord) (read : Arrow OpId) : Type 0 where
  pub there : Contains (operations s) read.reader
  pub link : InLink
  pub is_link : Contains (ins s read.reader) link
  pub uncut : link.cut ≡ false
  pub source_is : link.op ≡ read.source

link_is : (s : SceneRecord) (read : Arrow OpId) → Contains (kept_links s) read → IsLinkOf s read
link_is s read c =
    let e = element_of_flat_map (reads_of s) (operations s) read c in
    let l = element_of_map (λ (link : InLink). read_of e.0 link.op) (filter (λ link. not link.cut) (ins s e.0)) read e.2 in
    let reader : e.0 ≡ read.reader = ap (λ (a : Arrow OpId). a.reader) l.2 in record {
      there = subst (λ o. Contains (operations s) o) reader e.1;
      link = l.0;
      is_link = subst (λ o. Contains (ins s o) l.0) reader (element_of_kept (λ (link : InLink). not link.cut) (ins s e.0) l.0 l.1);
      uncut = not-true l.0.cut (kept_passes (λ (link : InLink). not link.cut) (ins s e.0) l.0 l.1);
      source_is = ap (λ (a : Arrow OpId). a.source) l.2;
    }

-- ---- from one scene to another

-- an operation that is left as it was: not tagged, not touched, and with the same in-links in the scene before
record IsLeft (before after : SceneRecord) (tags touched : List OpId) (op : OpId) : Type 0 where
  pub untagged : Contains tags op → ⊥
  pub untouched : Contains touched op → ⊥
  pub had : Contains (operations before) op
  pub links : ins before op ≡ ins after op

-- over the same inputs, an operation that is left as it was has the same value in both scenes
abbrev AreLeft : SceneRecord → SceneRecord → List OpId → Type 0
AreLeft before after touched =
    (op : OpId) → Contains (operations before) op → Contains (operations after) op → (Contains touched op → ⊥)
    → ins before op ≡ ins after op → (mode : Mode) (frame : ℤ) (inputs : List Output)
    → kernel before mode frame op inputs ≡ kernel after mode frame op inputs

-- what is taken of an operation at an in-link that isn't cut
abbrev kept_output : OpId → Value → Output
kept_output op value = record { op = op; value = value; is_rest = false }

module _ (before after : SceneRecord) (tags touched : List OpId) where
  tagged_or_left : (op : OpId) → is_tagged_after before after tags touched op ≡ false → IsLeft before after tags touched op
  tagged_or_left op f =
      let same = same_links (ins before op) (ins after op) in
      let c = or_parts (is_one_of tags op || is_one_of touched op || not (is_one_of (operations before) op)) (not same) f in
      let b = or_parts (is_one_of tags op || is_one_of touched op) (not (is_one_of (operations before) op)) c.0 in
      let a = or_parts (is_one_of tags op) (is_one_of touched op) b.0 in record {
        untagged = none_is tags op a.0;
        untouched = none_is touched op a.1;
        had = one_is (operations before) op (not-false (is_one_of (operations before) op) b.1);
        links = links_same (ins before op) (ins after op) (not-false same c.1);
      }

  tag_after : (op : OpId) → Contains (operations after) op → is_tagged_after before after tags touched op ≡ true
      → Contains (retagged before after tags touched) op
  unfolding retagged
  tag_after op there t = element_kept (is_tagged_after before after tags touched) (operations after) op there t

  -- an operation of the new scene that isn't reached from the new tags
  record IsQuiet (op : OpId) : Type 0 where
    pub there : Contains (operations after) op
    pub unreached : ToTag after (retagged before after tags touched) op → ⊥

  quiet_is_left : (op : OpId) → IsQuiet op → IsLeft before after tags touched op
  quiet_is_left op quiet =
      tagged_or_left op
      (false_from_ne_true (is_tagged_after before after tags touched op) (λ t. quiet.unreached (op, tag_after op quiet.there t, none)))

  module _ (new_met : IsTrue (is_scene after)) where
    -- what it needs isn't reached either
    needs_quiet : (op : OpId) → IsQuiet op → (link : InLink) → Contains (ins after op) link → link.cut ≡ false → IsQuiet link.op
    needs_quiet op quiet link e uncut = record {
      there = ins_closed after new_met op link (quiet.there, e);
      unreached = λ w. quiet.unreached (w.0, w.1, first (read_of op link.op) (read_is after op link quiet.there e uncut) w.2);
    }

    -- along the old in-links too
    source_quiet : (read : Arrow OpId) → Contains (kept_links before) read → IsQuiet read.reader → IsQuiet read.source
    source_quiet read c quiet =
        let l = link_is before read c in
        subst IsQuiet l.source_is
        (needs_quiet read.reader quiet l.link
        (subst (λ ls. Contains ls l.link) (quiet_is_left read.reader quiet).links l.is_link) l.uncut)

    -- it wasn't reached before
    quiet_before : (op : OpId) → IsQuiet op → Contains (reach before tags) op → ⊥
    quiet_before op quiet e =
        let w = walk_of_reached before tags op e in
        (quiet_is_left w.0 (walk_keeps (kept_links before) IsQuiet source_quiet w.2 quiet)).untagged w.1

    module _ (met : IsTrue (is_scene before)) (left : AreLeft before after touched) (mode : Mode) (frame : ℤ) where
      abbrev old_value : OpId → Value
      old_value = operation_value before mode frame

      abbrev new_value : OpId → Value
      new_value = operation_value after mode frame

      -- where all that it needs has the same value
      same_over : (op : OpId) → IsQuiet op
          → ((link : InLink) → Contains (ins after op) link → link.cut ≡ false → old_value link.op ≡ new_value link.op)
          → old_value op ≡ new_value op
      same_over op quiet same =
          let is = quiet_is_left op quiet in
          let inputs : map (output_at old_value) (ins after op) ≡ map (output_at new_value) (ins after op) =
          map_same (output_at old_value) (output_at new_value) (ins after op)
          (All-elements (λ link. output_at old_value link ≡ output_at new_value link) (ins after op) (λ link e. at link (same link e))) in
          same_Some (old_value op) (new_value op)
          (sym (values_follow before met mode frame op is.had)
          ∙ ap (λ ls. kernel before mode frame op (map (output_at old_value) ls)) is.links
          ∙ ap (kernel before mode frame op) inputs
          ∙ left op is.had quiet.there is.untouched is.links mode frame (map (output_at new_value) (ins after op))
          ∙ values_follow after new_met mode frame op quiet.there)
        where
          at : (link : InLink) → (link.cut ≡ false → old_value link.op ≡ new_value link.op)
              → output_at old_value link ≡ output_at new_value link
          at link h = by link.cut h
            where
              by : (b : Bool) → (b ≡ false → old_value link.op ≡ new_value link.op)
                  → (if b then rest_output link.op else kept_output link.op (old_value link.op))
                  ≡ (if b then rest_output link.op else kept_output link.op (new_value link.op))
              by true h = refl
              by false h = ap (kept_output link.op) (h refl)

      same_below : (rank : OpId → ℕ) → IsRank rank (kept_links after) → (n : ℕ) (op : OpId) → rank op < n → IsQuiet op
          → old_value op ≡ new_value op
      same_below rank falls zero op h quiet = absurd (omega arith)
      same_below rank falls (suc n) op h quiet = same_over op quiet (λ link e uncut.
          let lower = falls (read_of op link.op) (read_is after op link quiet.there e uncut) in
          same_below rank falls n link.op (omega arith) (needs_quiet op quiet link e uncut))

      -- its value is what it was
      quiet_value : (op : OpId) → IsQuiet op → old_value op ≡ new_value op
      quiet_value op quiet =
          let ranked = rank_exists same_operation same_operation-Decides (kept_links after) (links_acyclic after new_met) in
          same_below ranked.0 ranked.1 (suc (ranked.0 op)) op (omega arith) quiet

  -- ---- the tags after a first edit

  still_all : ((op : OpId) → Contains (operations before) op → Contains tags op) → (op : OpId) → Contains (operations after) op
      → Contains (retagged before after tags touched) op
  still_all all op there = tag_after op there (true_from_ne_false (is_tagged_after before after tags touched op) (λ f.
      let is = tagged_or_left op f in
      is.untagged (all op is.had)))

-- ---- an edit that is taken

-- what is kept of an operation of the scene
kept_there : (ops : List OpId) (kept : OpId → Option Value) (op : OpId) → Contains ops op → kept_of ops kept op ≡ kept op
kept_there ops kept op e = ap (λ b. if b then kept op else None) (one_of ops op e)

-- The graph before, and a copy of which an untouched operation with the same in-links is left as it was.
module _ (g : GraphState) (fresh : Fresh g) (met : IsTrue (is_scene g.copy)) (after : SceneRecord) (new_met : IsTrue (is_scene after))
    (touched : List OpId) (left : AreLeft g.copy after touched) where
  abbrev new_tags : List OpId
  new_tags = retagged g.copy after g.tags touched

  tagged_after : g.published ≡ None → All (Contains new_tags) (operations after)
  tagged_after e =
      All-elements (Contains new_tags) (operations after)
      (still_all g.copy after g.tags touched (λ op. All-contains (Contains g.tags) (operations g.copy) op (fresh.all_tagged e)))

  right_after : (p : Published) → g.published ≡ Some p → (op : OpId) → Contains (operations after) op
      → (Contains (reach after new_tags) op → ⊥) → kept_of (operations after) g.kept op ≡ Some (operation_value after g.mode p.frame op)
  right_after p e op there unreached =
      let quiet : IsQuiet g.copy after g.tags touched op =
      record { there = there; unreached = λ w. unreached (reached_by_walk after new_tags op there w) } in
      kept_there (operations after) g.kept op there
      ∙ fresh.is_kept p e op (quiet_is_left g.copy after g.tags touched op quiet).had
      (quiet_before g.copy after g.tags touched new_met op quiet)
      ∙ ap Some (quiet_value g.copy after g.tags touched new_met met left g.mode p.frame op quiet)

-- An accepted edit is taken, and the copy after it is a scene.
pub taken_scene_is_fresh : (g : GraphState) → IsTrue (is_scene g.copy) → Fresh g → (edit : Edit) → first_cause g.copy edit ≡ None
    → IsTrue (is_scene (edited g.copy edit)) → (turn : ℕ) → Fresh (taken g edit turn)
taken_scene_is_fresh g met fresh edit accepted new_met turn = record {
  all_tagged = tagged_after g fresh met (edited g.copy edit) new_met (touch g.copy edit) left;
  is_kept = right_after g fresh met (edited g.copy edit) new_met (touch g.copy edit) left;
}
  where
    left : AreLeft g.copy (edited g.copy edit) (touch g.copy edit)
    left op before after untouched links =
        left_kernel g.copy met edit op
        (record { accepted = accepted; before = before; after = after; untouched = untouched; links = links })

-- An accepted edit is taken.
pub taken_is_fresh : (g : GraphState) → IsTrue (is_scene g.copy) → Fresh g → (edit : Edit) → IsEdit edit → first_cause g.copy edit ≡ None
    → (turn : ℕ) → Fresh (taken g edit turn)
taken_is_fresh g met fresh edit is accepted = taken_scene_is_fresh g met fresh edit accepted (keeps g.copy edit is met accepted)
