-- What an evaluation doesn't run has its value from scratch where it begins.
use Rattle.std.specs.Prelude.{ℕ, zero, suc, ◌<◌, List, [], ◌∷◌, map, filter, Bool, true, false, not, Option, Some, None, IsTrue, Contains, ℤ, if◌then◌else◌}
use Rattle.std.specs.Option.{option_map_or}
use Rattle.std.specs.Ordering.{int_eq}
use Rattle.std.proofs.Common.{◌≡◌, refl, sym, ap, ◌∙◌, subst, arith, ⊎_elim}
use Rattle.std.proofs.lemmas.Bool.{cases_Bool}
use Rattle.std.proofs.lemmas.Bool.Decides.{Decides-int_eq}
use Rattle.std.proofs.lemmas.List.Elements.{All-contains}
use Rattle.std.proofs.lemmas.Option.{same_Some}
use Rattle.rig_cycles.specs.Cut.{Arrow, leads}
use Rattle.rig_cycles.specs.Elements.{element_first, element_later, element_none, element_map, element_kept, element_of_kept, kept_passes, any_from_element, element_from_any}
use Rattle.rig_cycles.specs.Leads.{leads_decides, walk_keeps}
use Rattle.rig_cycles.specs.RankOrder.{rank_exists}
use Rattle.rig_cycles.specs.Walk.{Walk, IsRank}
use Rattle.rig_cycles.specs.Walk.Walk.{none, first}
use Rattle.rig_laws.specs.Follows.{values_follow, looks_at_no_frame}
use Rattle.rig_laws.specs.Kept.{kept_links}
use Rattle.rig_laws.specs.Kernel.{kernel}
use Rattle.rig_laws.specs.LinksAcyclic.{links_acyclic}
use Rattle.rig_laws.specs.LinksClosed.{ins_closed}
use Rattle.rig_laws.specs.Lists.{All-elements, Contains-flat_map, element_of_flat_map, element_of_map, map_same}
use Rattle.rig_laws.specs.OperationValue.{operation_value}
use Rattle.rig_laws.specs.Output.{Output, output_at, rest_output}
use Rattle.rig_links.specs.Numbers.{same_operation}
use Rattle.rig_links.specs.SameOperation.{same_operation-Decides}
use Rattle.rig_scene.specs.declared.modifier.Mode.{Mode}
use Rattle.rig_scene.specs.declared.operation.OpId.{OpId}
use Rattle.rig_scene.specs.declared.operation.OpId.TheVariants.{Time}
use Rattle.rig_scene.specs.Operations.{InLink, operations, ins}
use Rattle.rig_scene.specs.Scene.{SceneRecord}
use Rattle.rig_scene.specs.Value.{Value}
use Rattle.rig_scene.specs.WellFormed.{is_scene}
use Rattle.rig_flush.specs.Graph.{GraphState, Published, Fresh, IsRight, begun, is_published, tagged_at, flushed_at}
use Rattle.rig_flush.specs.Reach.{is_reached, reach}
use Rattle.rig_flush.specs.Retag.{is_one_of}

-- ---- what is taken at in-links

-- what an operation gives at a link that isn't cut
abbrev given : OpId → Value → Output
given op value = record { op = op; value = value; is_rest = false }

same_output : (f g : OpId → Value) (link : InLink) → (link.cut ≡ false → f link.op ≡ g link.op) → output_at f link ≡ output_at g link
same_output f g link same = by link.cut same
  where
    by : (b : Bool) → (b ≡ false → f link.op ≡ g link.op)
        → (if b then rest_output link.op else given link.op (f link.op)) ≡ (if b then rest_output link.op else given link.op (g link.op))
    by true same = refl
    by false same = ap (given link.op) (same refl)

-- values that agree at the links that aren't cut are taken alike
pub same_inputs : (f g : OpId → Value) (links : List InLink)
    → ((link : InLink) → Contains links link → link.cut ≡ false → f link.op ≡ g link.op)
    → map (output_at f) links ≡ map (output_at g) links
same_inputs f g links same =
    map_same (output_at f) (output_at g) links
    (All-elements (λ link. output_at f link ≡ output_at g link) links (λ link has. same_output f g link (same link has)))

-- an operation is one of others that list it
pub one_of_listed : (ops : List OpId) (op : OpId) → Contains ops op → is_one_of ops op ≡ true
one_of_listed ops op listed = any_from_element (same_operation op) ops op listed ((same_operation-Decides op op).1 refl)

-- ---- in-links that aren't cut, as reads

-- what holds of each operation that an operation needs by a link that isn't cut
abbrev pub OfEachNeed : SceneRecord → (OpId → Type 0) → OpId → Type 0
OfEachNeed s P op = (link : InLink) → Contains (ins s op) link → link.cut ≡ false → P link.op

-- the read of one operation by another
abbrev pub link_read : OpId → OpId → Arrow OpId
link_read reader source = record { reader = reader; source = source; is_reference = false }

module _ (s : SceneRecord) where
  abbrev by_operation : OpId → List (Arrow OpId)
  by_operation op = map (λ link. record { reader = op; source = link.op; is_reference = false }) (filter (λ link. not link.cut) (ins s op))

  -- an in-link that isn't cut is a read that is kept
  pub link_kept : (op : OpId) → Contains (operations s) op → (link : InLink) → Contains (ins s op) link → link.cut ≡ false
      → Contains (kept_links s) (link_read op link.op)
  link_kept op within link has uncut =
      Contains-flat_map by_operation (operations s) op (link_read op link.op) within
      (element_map (λ (link : InLink). link_read op link.op) (filter (λ link. not link.cut) (ins s op)) link
      (element_kept (λ (link : InLink). not link.cut) (ins s op) link has (ap not uncut)))

  -- ---- what is reached

  module _ (tags : List OpId) where
    pub reached_by : (op tag : OpId) → Contains (operations s) op → Contains tags tag → Walk (kept_links s) op tag
        → Contains (reach s tags) op
    unfolding reach
    reached_by op tag within tagged walk =
        element_kept (is_reached same_operation (kept_links s) tags) (operations s) op within
        (any_from_element (leads same_operation (kept_links s) op) tags tag tagged
        ((leads_decides same_operation same_operation-Decides (kept_links s) op tag).1 walk))

    pub reached_is : (op : OpId) → Contains (reach s tags) op
        → Contains (operations s) op × ((tag : OpId) × Contains tags tag × Walk (kept_links s) op tag)
    unfolding reach
    reached_is op reached =
        let test = is_reached same_operation (kept_links s) tags in
        let found = element_from_any (leads same_operation (kept_links s) op) tags (kept_passes test (operations s) op reached) in
        let walk = (leads_decides same_operation same_operation-Decides (kept_links s) op found.0).0 found.2 in
        (element_of_kept test (operations s) op reached, (found.0, found.1, walk))

    -- what needs a reached operation is reached
    pub reached_on : (op : OpId) → Contains (operations s) op → (link : InLink) → Contains (ins s op) link → link.cut ≡ false
        → Contains (reach s tags) link.op → Contains (reach s tags) op
    reached_on op within link has uncut reached =
        let there = reached_is link.op reached in
        reached_by op there.1.0 within there.1.1 (first (link_read op link.op) (link_kept op within link has uncut) there.1.2)

  module _ (met : IsTrue (is_scene s)) where
    source_there : (read : Arrow OpId) → Contains (kept_links s) read → Contains (operations s) read.source
    source_there read kept =
        let reader = element_of_flat_map by_operation (operations s) read kept in
        let uncut = filter (λ (link : InLink). not link.cut) (ins s reader.0) in
        let link = element_of_map (λ (link : InLink). link_read reader.0 link.op) uncut read reader.2 in
        let has = element_of_kept (λ (link : InLink). not link.cut) (ins s reader.0) link.0 link.1 in
        subst (λ op. Contains (operations s) op) (ap (λ (read : Arrow OpId). read.source) link.2)
        (ins_closed s met reader.0 link.0 (reader.1, has))

    -- a walk from an operation of the scene leads to one
    pub walk_stays : {start end : OpId} → Walk (kept_links s) start end → Contains (operations s) start → Contains (operations s) end
    walk_stays walk within =
        walk_keeps (kept_links s) (λ op. Contains (operations s) op) (λ read kept reader. source_there read kept) walk within

    -- what holds of an operation where it holds of all that it needs holds of all operations
    module _ (P : OpId → Type 0) (step : (op : OpId) → Contains (operations s) op → OfEachNeed s P op → P op) where
      below : (rank : OpId → ℕ) → IsRank rank (kept_links s) → (n : ℕ) (op : OpId) → Contains (operations s) op → rank op < n → P op
      below rank falls zero op within l = absurd (omega arith)
      below rank falls (suc n) op within l =
          step op within
          (λ link has uncut.
          let lower : rank link.op < rank op = falls (link_read op link.op) (link_kept op within link has uncut) in
          below rank falls n link.op (ins_closed s met op link (within, has)) (omega arith))

      pub along_in_links : (op : OpId) → Contains (operations s) op → P op
      along_in_links op within =
          let ranked = rank_exists same_operation same_operation-Decides (kept_links s) (links_acyclic s met) in
          below ranked.0 ranked.1 (suc (ranked.0 op)) op within (omega arith)

    -- ---- an operation that isn't reached from the time has one value at all frames

    module _ (mode : Mode) (f g : ℤ) (tags : List OpId) (timed : Contains tags Time) where
      abbrev IsSame : OpId → Type 0
      IsSame op = (Contains (reach s tags) op → ⊥) → operation_value s mode f op ≡ operation_value s mode g op

      not_time : (op : OpId) → Contains (operations s) op → (Contains (reach s tags) op → ⊥) → op ≡ Time → ⊥
      not_time op within free is = free (reached_by tags op Time within timed (subst (λ tag. Walk (kept_links s) op tag) is none))

      same_where_needs_are : (op : OpId) → Contains (operations s) op → OfEachNeed s IsSame op → IsSame op
      same_where_needs_are op within sources free =
          let taken = same_inputs (operation_value s mode f) (operation_value s mode g) (ins s op)
          (λ link has uncut. sources link has uncut (λ reached. free (reached_on tags op within link has uncut reached))) in
          same_Some (operation_value s mode f op) (operation_value s mode g op)
          (sym (values_follow s met mode f op within)
          ∙ ap (kernel s mode f op) taken
          ∙ looks_at_no_frame s mode op (map (output_at (operation_value s mode g)) (ins s op)) f g (not_time op within free)
          ∙ values_follow s met mode g op within)

      pub same_at_frames : (op : OpId) → Contains (operations s) op → IsSame op
      same_at_frames = along_in_links IsSame same_where_needs_are

-- ---- an evaluation begins

module _ (g : GraphState) (met : IsTrue (is_scene g.copy)) (fresh : Fresh g) (frame : ℤ) where
  -- the tags of an evaluation of another frame than the published one
  abbrev with_time : List OpId
  with_time = filter (is_one_of (Time ∷ g.tags)) (operations g.copy)

  abbrev IsFree : List OpId → OpId → Type 0
  IsFree tags op = Contains (reach g.copy tags) op → ⊥

  abbrev IsKept : OpId → Type 0
  IsKept op = g.kept op ≡ Some (operation_value g.copy g.mode frame op)

  tags_are : (b : Bool) → is_published g frame ≡ b → tagged_at g frame ≡ (if b then g.tags else with_time)
  tags_are b is = ap (λ b. if b then g.tags else with_time) is

  listed_with_time : (op : OpId) → Contains (operations g.copy) op → Contains (Time ∷ g.tags) op → Contains with_time op
  listed_with_time op within listed =
      element_kept (is_one_of (Time ∷ g.tags)) (operations g.copy) op within (one_of_listed (Time ∷ g.tags) op listed)

  time_tagged : Contains with_time Time
  time_tagged = listed_with_time Time (element_first Time _) (element_first Time g.tags)

  still_tagged : (op : OpId) → Contains (operations g.copy) op → Contains g.tags op → Contains with_time op
  still_tagged op within tagged = listed_with_time op within (element_later Time g.tags op tagged)

  -- what isn't reached with the time isn't reached without it
  free_without : (op : OpId) → Contains (operations g.copy) op → IsFree with_time op → IsFree g.tags op
  free_without op within free reached =
      let there = reached_is g.copy g.tags op reached in
      let tag_there = walk_stays g.copy met there.1.2 within in
      free (reached_by g.copy with_time op there.1.0 within (still_tagged there.1.0 tag_there there.1.1) there.1.2)

  kept_unpublished : g.published ≡ None → (op : OpId) → Contains (operations g.copy) op → IsFree with_time op → IsKept op
  kept_unpublished is op within free =
      let tagged = All-contains (Contains g.tags) (operations g.copy) op (fresh.all_tagged is) within in
      absurd (free (reached_by g.copy with_time op op within (still_tagged op within tagged) none))

  kept_same : (p : Published) → g.published ≡ Some p → p.frame ≡ frame
      → (op : OpId) → Contains (operations g.copy) op → IsFree g.tags op → IsKept op
  kept_same p is same op within free = fresh.is_kept p is op within free ∙ ap (λ frame. Some (operation_value g.copy g.mode frame op)) same

  kept_other : (p : Published) → g.published ≡ Some p → (op : OpId) → Contains (operations g.copy) op → IsFree with_time op → IsKept op
  kept_other p is op within free =
      fresh.is_kept p is op within (free_without op within free)
      ∙ ap Some (same_at_frames g.copy met g.mode p.frame frame with_time time_tagged op within free)

  -- what isn't run is kept
  pub unrun_is_kept : (op : OpId) → Contains (operations g.copy) op → IsFree (tagged_at g frame) op → IsKept op
  unrun_is_kept op within free = by g.published refl
    where
      free_at : (b : Bool) → is_published g frame ≡ b → IsFree (if b then g.tags else with_time) op
      free_at b is = subst (λ tags. IsFree tags op) (tags_are b is) free

      at : (p : Option Published) → g.published ≡ p → is_published g frame ≡ option_map_or (λ p. int_eq p.frame frame) p false
      at p is = ap (λ p. option_map_or (λ (p : Published). int_eq p.frame frame) p false) is

      by : (p : Option Published) → g.published ≡ p → IsKept op
      by None is = kept_unpublished is op within (free_at false (at None is))
      by (Some p) is = ⊎_elim
          (λ same. kept_same p is ((Decides-int_eq p.frame frame).0 same) op within (free_at true (at (Some p) is ∙ same)))
          (λ other. kept_other p is op within (free_at false (at (Some p) is ∙ other)))
          (cases_Bool (int_eq p.frame frame))

-- where an evaluation begins, what it doesn't run has its value from scratch
pub begun_is_right : (g : GraphState) → IsTrue (is_scene g.copy) → Fresh g → (frame : ℤ) → IsRight (begun g frame)
begun_is_right g met fresh frame = record {
  run = record { frame = frame; flushed = flushed_at g frame; started = []; finished = [] };
  runs = refl;
  flushed = refl;
  kept = λ op within done. unrun_is_kept g met fresh frame op within (λ reached. element_none op (done reached));
  sources = λ op began link has uncut flushed. absurd (element_none op began);
}
