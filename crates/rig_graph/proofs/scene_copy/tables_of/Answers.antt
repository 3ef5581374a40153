use Rattle.std.proofs.Common.{List, length, sym, ap, subst, ◌∙◌, arith}
use Rattle.std.specs.Prelude.{IsTrue}
use Rattle.std.specs.List.{range_with_len}
use Rattle.rig_cycles.specs.Order.{IsTopologicalOrder}
use Rattle.rig_links.specs.Links.{kept_reads}
use Rattle.rig_scene.specs.Counts.{operations_count}
use Rattle.rig_scene.specs.FactsHold.{scene_facts}
use Rattle.rig_scene.specs.WellFormed.{is_scene}
use Rattle.rig_scene.specs.declared.operation.OpId.{OpId}
use Rattle.rig_graph.proofs.scene_copy.tables_of.Goals as goal

pub returns-clause-tables : goal.returns-clause-tables
returns-clause-tables c =
    let is : IsTrue (is_scene c.args.scene.now) = subst (λ s. IsTrue (is_scene s)) c.scene.view_is c.scene.invariant.is_scene in
    let few = operations_count c.args.scene.now (scene_facts c.args.scene.now is) in
    let same = c.in_ok-nodes.ensures in
    record {
      same = same;
      ins = c.in_ok-links.ensures.ins;
      fit = record {
        rows = c.in_ok-links.ensures.rows ∙ sym (ap length same);
        few = omega (arith, few, ap length same);
        order = subst (λ (ops : List OpId). IsTopologicalOrder (range_with_len 0 (length ops)) (kept_reads c.in_ok-links.links.ins) c.in_ok-links.links.order)
            (sym same) c.in_ok-links.ensures.order;
      };
    }
