-- What a function has by recursion to a depth, along reads that make no cycle: a depth of the number of nodes is enough.
use Rattle.std.specs.Prelude.{◌≡◌, ℕ, suc, List, Bool, Contains, count_by}
use Rattle.rig_cycles.specs.Cut.{Arrow, leads}

-- each read of one of the nodes has one of them as its source
abbrev pub IsClosed : {A : Type 0} → List A → List (Arrow A) → Type 0
IsClosed {A} nodes reads = (read : Arrow A) → Contains reads read → Contains nodes read.reader → Contains nodes read.source

-- how many of the nodes a node leads to, where it is one of them itself among them
abbrev pub reachable_count : {A : Type 0} → (A → A → Bool) → List (Arrow A) → List A → A → ℕ
reachable_count same reads nodes node = count_by (leads same reads node) nodes

-- a function of a depth and a node: at each depth a step above what it is at the depth below
abbrev pub IsByDepth : {A V : Type 0} → (A → (A → V) → V) → (ℕ → A → V) → Type 0
IsByDepth {A} step at = (depth : ℕ) (node : A) → at (suc depth) node ≡ step node (at depth)

-- a step at one of the nodes looks only at the sources of the node's reads
abbrev pub LooksAtSources : {A V : Type 0} → List A → List (Arrow A) → (A → (A → V) → V) → Type 0
LooksAtSources {A} {V} nodes reads step =
    (node : A) (f g : A → V) → Contains nodes node →
    ((read : Arrow A) → Contains reads read → read.reader ≡ node → f read.source ≡ g read.source) → step node f ≡ step node g
