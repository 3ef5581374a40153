-- Plans as lists of nodes, and as their operations and the rows of their in-links.
use Rattle.std.specs.Prelude.{slice_get, option_map}
use Rattle.std.specs.List.{All}
use Rattle.std.proofs.Common.{◌≡◌, ◌≢◌, ℕ, ◌+◌, ◌<◌, ◌^◌, List, [], ◌∷◌, ◌++◌, length, map, take, refl, sym, ap, ◌∙◌, subst, arith, ⊎_elim}
use Rattle.std.proofs.lemmas.Bool.{cases_eq}
use Rattle.std.proofs.lemmas.List.{map-append, append-nil, length-map, length-append, length_push, take-map, get_or_append_left, get_or_push}
use Rattle.std.proofs.lemmas.Option.{slice_get-map}
use Rattle.rig_rows.specs.Rows.{joined}
use Rattle.rig_cut.specs.declared.plan.TheConstants.{MAX_NODES}
use Rattle.rig_cut.specs.Plan.{PlanNode, Ends, ends_from, ends_of, link_count}
use Rattle.rig_cut.specs.PlanRows.{nodes_of, ArePlanned}

-- ---- the operations and the rows of nodes

map_ops : (ops : List ℕ) (rows : List (List ℕ)) → length rows ≡ length ops → map (λ n. n.op) (nodes_of ops rows) ≡ ops
map_ops [] rows e = refl
map_ops (op ∷ ops) [] e = absurd (omega arith)
map_ops (op ∷ ops) (row ∷ rows) e = ap (λ l. op ∷ l) (map_ops ops rows (omega arith))

pub map_ins : (ops : List ℕ) (rows : List (List ℕ)) → length rows ≡ length ops → map (λ n. n.ins) (nodes_of ops rows) ≡ rows
map_ins [] [] e = refl
map_ins [] (row ∷ rows) e = absurd (omega arith)
map_ins (op ∷ ops) [] e = absurd (omega arith)
map_ins (op ∷ ops) (row ∷ rows) e = ap (λ l. row ∷ l) (map_ins ops rows (omega arith))

pub nodes_push : (ops : List ℕ) (rows : List (List ℕ)) (op : ℕ) (row : List ℕ) → length rows ≡ length ops → nodes_of (ops ++ op ∷ []) (rows ++ row ∷ []) ≡ nodes_of ops rows ++ record { op = op; ins = row } ∷ []
nodes_push [] [] op row e = refl
nodes_push [] (r ∷ rows) op row e = absurd (omega arith)
nodes_push (o ∷ ops) [] op row e = absurd (omega arith)
nodes_push (o ∷ ops) (r ∷ rows) op row e = ap (λ l. record { op = o; ins = r } ∷ l) (nodes_push ops rows op row (omega arith))

-- ---- the sources of links

sources_back : (position : ℕ) (ins : List ℕ) → map (λ l. l.source) (map (λ source. let e : Ends = record { source = source; reader = position } in e) ins) ≡ ins
sources_back position [] = refl
sources_back position (i ∷ ins) = ap (λ l. i ∷ l) (sources_back position ins)

sources_from : (position : ℕ) (nodes : List PlanNode) → map (λ l. l.source) (ends_from position nodes) ≡ joined (map (λ n. n.ins) nodes)
sources_from position [] = refl
sources_from position (node ∷ nodes) =
    map-append (λ l. l.source) (map (λ source. record { source = source; reader = position }) node.ins) (ends_from (position + 1) nodes)
    ∙ ap (λ l. l ++ map (λ l. l.source) (ends_from (position + 1) nodes)) (sources_back position node.ins)
    ∙ ap (λ l. node.ins ++ l) (sources_from (position + 1) nodes)

count_is : (nodes : List PlanNode) → link_count nodes ≡ length (joined (map (λ n. n.ins) nodes))
count_is nodes = sym (length-map (ends_of nodes) (λ l. l.source)) ∙ ap length (sources_from 0 nodes)

joined_push : (rows : List (List ℕ)) (row : List ℕ) → length (joined (rows ++ row ∷ [])) ≡ length (joined rows) + length row
joined_push [] row = ap length (append-nil row) ∙ (let e : length row ≡ 0 + length row = omega arith in e)
joined_push (r ∷ rows) row =
    let later = joined_push rows row in
    omega (arith, length-append r (joined (rows ++ row ∷ [])), length-append r (joined rows))

-- ---- a plan as its nodes

module _ (ops : List ℕ) (rows : List (List ℕ)) (planned : ArePlanned ops rows) (nodes : List PlanNode) (is : nodes_of ops rows ≡ nodes) where
  ops_are : map (λ n. n.op) nodes ≡ ops
  ops_are = ap (map (λ n. n.op)) (sym is) ∙ map_ops ops rows planned.same_length

  rows_are : map (λ n. n.ins) nodes ≡ rows
  rows_are = ap (map (λ n. n.ins)) (sym is) ∙ map_ins ops rows planned.same_length

  pub length_is : length ops ≡ length nodes
  length_is = ap length (sym ops_are) ∙ length-map nodes (λ n. n.op)

  pub op_at : (i : ℕ) → option_map (λ n. n.op) (slice_get nodes i) ≡ slice_get ops i
  op_at i = sym (slice_get-map (λ n. n.op) nodes i) ∙ ap (λ l. slice_get l i) ops_are

  pub ins_at : (i : ℕ) → option_map (λ n. n.ins) (slice_get nodes i) ≡ slice_get rows i
  ins_at i = sym (slice_get-map (λ n. n.ins) nodes i) ∙ ap (λ l. slice_get l i) rows_are

  pub sources_are : map (λ l. l.source) (ends_of nodes) ≡ joined rows
  sources_are = sources_from 0 nodes ∙ ap joined rows_are

  pub links_before : (i : ℕ) → link_count (take i nodes) ≡ length (joined (take i rows))
  links_before i = count_is (take i nodes) ∙ ap (λ l. length (joined l)) (sym (take-map (λ n. n.ins) i nodes) ∙ ap (take i) rows_are)

  pub links_are : link_count nodes ≡ length (joined rows)
  links_are = count_is nodes ∙ ap (λ l. length (joined l)) rows_are

  pub planned_more : (op : ℕ) (row : List ℕ) → length nodes < MAX_NODES → All (λ j. j < length nodes) row → link_count nodes + length row < 2 ^ 32 → ArePlanned (ops ++ op ∷ []) (rows ++ row ∷ [])
  planned_more op row room earlier few =
      let same = planned.same_length in
      record {
        same_length = omega (arith, length_push rows row, length_push ops op);
        few_nodes = omega (arith, length_is, length_push ops op);
        few_links = omega (arith, joined_push rows row, links_are);
        earlier = λ i h. ⊎_elim
            (λ (s : i ≡ length rows).
            subst (λ r. All (λ j. j < i) r) (sym (get_or_push rows row [] i (sym s)))
            (subst (λ n. All (λ j. j < n) row) (sym length_is ∙ sym same ∙ sym s) earlier))
            (λ (s : i ≢ length rows).
            let lower : i < length rows = omega (arith, length_push rows row) in
            subst (λ r. All (λ j. j < i) r) (sym (get_or_append_left rows (row ∷ []) [] i lower)) (planned.earlier i lower))
            (cases_eq i (length rows));
      }
