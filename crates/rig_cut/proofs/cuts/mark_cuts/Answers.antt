use Rattle.std.proofs.Common.{◌<◌, ◌≤◌, length, ap, sym, subst, ◌∙◌, arith}
use Rattle.std.proofs.lemmas.List.{get_or_default}
use Rattle.rig_cut.specs.Graphs.{ends_of_links, IsListing}
use Rattle.rig_cut.proofs.Listings.{no_link, link_at, kept_at, listing_at}
use Rattle.rig_cut.proofs.Cutting.{tested, flags_tested, flags_passed}
use Rattle.rig_cut.proofs.cuts.mark_cuts.Goals as goal
use Rattle.rig_cut.proofs.cuts.mark_cuts.Goals.{then-link, else-link}

pub loop-i-preserved : goal.loop-i-preserved
loop-i-preserved c =
    let links = c.args.links.now in
    let i = c.loop-i.i in
    let h : i < length links = c.loop-i-test.true in
    let within : i ≤ length links = omega arith in
    let l = link_at links i in
    let at = get_or_default links i no_link l h in
    elim c.if-link.branch [
      | then-link w ↦
          let listing = subst (λ g. IsListing g c.loop-i.cuts (kept_at links i)) (sym c.requires.same_links)
          (subst (λ b. IsListing (ends_of_links c.args.graph.now.nodes links) b (kept_at links i)) (sym c.loop-i.invariant.flags) (listing_at links c.requires.inner i within c.args.graph.now.nodes)) in
          record {
            count = ap (λ f. f.count) w.found-is ∙ w.is_led.ensures.count ∙ c.loop-i.invariant.count;
            flags = w.cuts-is ∙ flags_tested links c.requires.inner i h l at c.loop-i.cuts w.is_led.result c.loop-i.invariant.flags
                (w.is_led.ensures.leads (kept_at links i) listing ∙ tested links c.requires.inner i h l at w.if-link.true);
          }
      | else-link w ↦ record {
        count = ap (λ f. f.count) w.found-is ∙ c.loop-i.invariant.count;
        flags = w.cuts-is ∙ flags_passed links c.requires.inner i h l at c.loop-i.cuts c.loop-i.invariant.flags w.if-link.false;
      }
    ]
