-- The graph of links.
use Rattle.std.specs.List.{All}
use Rattle.std.proofs.Common.{◌≡◌, ℕ, ◌<◌, ◌^◌, List, length, map, ap, subst, sym, ◌∙◌, arith}
use Rattle.std.proofs.lemmas.List.{length-map}
use Rattle.std.proofs.lemmas.List.Elements.{All-map}
use Rattle.rig_rows.specs.Rows.{grouped}
use Rattle.rig_cut.specs.declared.links.Link.{Link}
use Rattle.rig_cut.specs.Graphs.{IsGraph, ends_of_links}
use Rattle.rig_cut.proofs.Indices.{length-grouped}

-- the ends of a link are nodes
abbrev pub IsBetween : ℕ → Link → Type 0
IsBetween nodes l = (l.source < nodes) × (l.reader < nodes)

pub readers_below : (nodes : ℕ) (links : List Link) → All (IsBetween nodes) links → All (λ n. n < nodes) (map (λ l. l.reader) links)
readers_below nodes links h = All-map (λ n. n < nodes) (λ l. l.reader) links (λ k d e. (h k d e).1)

pub sources_below : (nodes : ℕ) (links : List Link) → All (IsBetween nodes) links → All (λ n. n < nodes) (map (λ l. l.source) links)
sources_below nodes links h = All-map (λ n. n < nodes) (λ l. l.source) links (λ k d e. (h k d e).0)

pub graph_of_links : (nodes : ℕ) (links : List Link) (sources readers : List ℕ) (rows outs : List (List ℕ)) → nodes < 2 ^ 32 → length links < 2 ^ 32 → All (IsBetween nodes) links → sources ≡ map (λ l. l.source) links → readers ≡ map (λ l. l.reader) links → rows ≡ grouped nodes readers → outs ≡ grouped nodes sources → IsGraph sources readers rows outs
graph_of_links nodes links sources readers rows outs few_nodes few_links in_range s r e o =
    let count = ap length e ∙ length-grouped nodes readers in
    let links_sources = ap length s ∙ length-map links (λ l. l.source) in
    let links_readers = ap length r ∙ length-map links (λ l. l.reader) in
    record {
      rows_are = e ∙ ap (λ n. grouped n readers) (sym count);
      outs_are = o ∙ ap (λ n. grouped n sources) (sym count);
      same_length = links_readers ∙ sym links_sources;
      sources_below = subst (λ l. All (λ n. n < length rows) l) (sym s)
          (subst (λ m. All (λ n. n < m) (map (λ l. l.source) links)) (sym count) (sources_below nodes links in_range));
      readers_below = subst (λ l. All (λ n. n < length rows) l) (sym r)
          (subst (λ m. All (λ n. n < m) (map (λ l. l.reader) links)) (sym count) (readers_below nodes links in_range));
      few_nodes = omega arith;
      few_links = omega arith;
    }

pub ends_are : (nodes : ℕ) (links : List Link) (sources readers : List ℕ) (rows : List (List ℕ)) → sources ≡ map (λ l. l.source) links → readers ≡ map (λ l. l.reader) links → rows ≡ grouped nodes readers → record { nodes = length rows; sources = sources; readers = readers } ≡ ends_of_links nodes links
ends_are nodes links sources readers rows s r e =
    ap (λ n. record { nodes = n; sources = sources; readers = readers }) (ap length e ∙ length-grouped nodes readers)
    ∙ ap (λ l. record { nodes = nodes; sources = l; readers = readers }) s
    ∙ ap (λ l. record { nodes = nodes; sources = map (λ l. l.source) links; readers = l }) r
