use Rattle.std.proofs.Common.{◌≡◌, ◌<◌, ℕ, Bool, List, [], filter, length, sym, subst, ap, ◌∙◌}
use Rattle.std.specs.Prelude.{nat_eq, IfOk, OnOk, Result, Ok, Err}
use Rattle.std.specs.List.{All, list_any}
use Rattle.rig_cycles.specs.Cut.{Arrow}
use Rattle.rig_links.specs.Links.{kept_reads}
use Rattle.rig_scene.specs.Pairs.{NoneTwice}
use Rattle.rig_flush.specs.Reach.{is_reached}
use Rattle.rig_flush.specs.Search.{with_nodes, IsPlannable}
use Rattle.rig_flush.specs.Tables.{numbers_of, reached_numbers, plan_of}
use Rattle.rig_flush.proofs.Plannable.{plan_below, plan_once, plannable, with_nodes_once, reached_from}
use Rattle.rig_flush.proofs.reached.flush_into.Goals as goal

pub add_all-requires : goal.add_all-requires
add_all-requires c =
    let count : c.clear.new.self.count ≡ length c.args.links.now.ins = c.clear.ensures.count ∙ c.add_readers.ensures.count ∙ c.add_tagged.ensures.count ∙ c.requires.room ∙ sym c.requires.tables.rows in
    subst (λ l. All (λ n. n < c.clear.new.self.count) l) (sym (c.deref.ensures.value ∙ c.in_ok-order.ensures))
    (subst (λ k. All (λ n. n < k) (filter (λ n. list_any (nat_eq n) c.add_readers.new.set.members) c.args.links.now.order)) (sym count)
    (plan_below c.args.nodes.now c.args.links.now c.requires.tables (λ n. list_any (nat_eq n) c.add_readers.new.set.members)))

pub planned-requires-clause-order : goal.planned-requires-clause-order
planned-requires-clause-order c =
    c.add_all.ensures.members
    ∙ ap (λ m. with_nodes m c.deref.result.now) c.clear.ensures.members
    ∙ with_nodes_once c.deref.result.now []
    (subst (λ l. NoneTwice l) (sym (c.deref.ensures.value ∙ c.in_ok-order.ensures)) (plan_once c.args.nodes.now c.args.links.now c.requires.tables (λ n. list_any (nat_eq n) c.add_readers.new.set.members)))
    ∙ c.deref.ensures.value ∙ sym c.deref-2.ensures.value

pub planned-requires-clause-plannable : goal.planned-requires-clause-plannable
planned-requires-clause-plannable c =
    subst (λ l. IsPlannable c.args.links.now.ins l) (sym (c.deref-2.ensures.value ∙ c.in_ok-order.ensures))
    (plannable c.args.nodes.now c.args.links.now c.requires.tables (λ n. list_any (nat_eq n) c.add_readers.new.set.members))

-- the numbers of the plan, in the order of evaluation
order_is : (order : List ℕ) (reads : List (Arrow ℕ)) (numbers found tagged whole : List ℕ) → order ≡ filter (λ n. list_any (nat_eq n) found) whole
    → ((n : ℕ) → list_any (nat_eq n) found ≡ is_reached nat_eq reads tagged n) → tagged ≡ with_nodes [] numbers
    → order ≡ filter (is_reached nat_eq reads numbers) whole
order_is order reads numbers found tagged whole listed reached same =
    listed ∙ reached_from reads numbers whole found (λ n. reached n ∙ ap (λ m. is_reached nat_eq reads m n) same)

holds_on_ok : {X E : Type 0} (result : Result X E) (P : Type 0) → P → OnOk result P
holds_on_ok (Ok x) P p = p
holds_on_ok (Err e) P p = tt

pub returns-clause-plan : goal.returns-clause-plan
returns-clause-plan c =
    subst (λ l. IfOk c.planned.result (λ plan. plan ≡ plan_of c.args.links.now.ins l))
    (c.deref-2.ensures.value
    ∙ order_is c.in_ok-order.order.items (kept_reads c.args.links.now.ins) (numbers_of c.args.nodes.now c.args.tags.now) c.add_readers.new.set.members
    c.add_tagged.new.set.members c.args.links.now.order c.in_ok-order.ensures c.add_readers.ensures.members c.add_tagged.ensures.members)
    c.planned.ensures

pub returns-clause-count : goal.returns-clause-count
returns-clause-count c = c.add_all.ensures.count ∙ c.clear.ensures.count ∙ c.add_readers.ensures.count ∙ c.add_tagged.ensures.count

pub returns-clause-members : goal.returns-clause-members
returns-clause-members c =
    holds_on_ok c.planned.result (c.add_all.new.set.members ≡ reached_numbers c.args.nodes.now c.args.links.now c.args.tags.now)
    (c.add_all.ensures.members
    ∙ ap (λ m. with_nodes m c.deref.result.now) c.clear.ensures.members
    ∙ with_nodes_once c.deref.result.now []
    (subst (λ l. NoneTwice l) (sym (c.deref.ensures.value ∙ c.in_ok-order.ensures))
    (plan_once c.args.nodes.now c.args.links.now c.requires.tables (λ n. list_any (nat_eq n) c.add_readers.new.set.members)))
    ∙ c.deref.ensures.value
    ∙ order_is c.in_ok-order.order.items (kept_reads c.args.links.now.ins) (numbers_of c.args.nodes.now c.args.tags.now) c.add_readers.new.set.members
    c.add_tagged.new.set.members c.args.links.now.order c.in_ok-order.ensures c.add_readers.ensures.members c.add_tagged.ensures.members)
