-- In-links between numbered operations, and what follows from them.
use Rattle.std.specs.Prelude.{◌≡◌, ℕ, ◌==◌, ◌&&◌, List, map, filter, slice_get, false, not, Option, Some, option_map}
use Rattle.std.specs.List.{flat_map, enumerate_from}
use Rattle.rig_cycles.specs.Cut.{Arrow}
use Rattle.rig_scene.specs.declared.operation.OpId.{OpId}
use Rattle.rig_scene.specs.Operations.{InLink, operations, ins}
use Rattle.rig_scene.specs.Scene.{SceneRecord}
use Rattle.rig_links.specs.declared.table.In.{In}

-- the in-links of numbered operations, and an order of the numbers
pub record Links : Type 0 where
  pub ins : List (List In)
  pub order : List ℕ

-- an in-link with the operation of its number, where there is one
abbrev pub link_named : List OpId → In → Option InLink
link_named ops link = option_map (λ op. record { op = op; cut = link.cut }) (slice_get ops link.source)

-- a row for each operation of a scene: its in-links in order, each by the number of the operation that is needed
abbrev pub AreInsOf : SceneRecord → List (List In) → Type 0
AreInsOf s rows = map (map (link_named (operations s))) rows ≡ map (λ op. map Some (ins s op)) (operations s)

-- the in-links of all operations that aren't cut, as reads of the number that is needed
abbrev pub kept_reads : List (List In) → List (Arrow ℕ)
kept_reads rows =
    flat_map (λ e. map (λ l. record { reader = e.0; source = l.source; is_reference = false }) (filter (λ l. not l.cut) e.1)) (enumerate_from 0 rows)

-- the operations that need one by links that aren't cut, in order, one for each such link
abbrev pub readers_of : ℕ → List (List In) → List ℕ
readers_of n rows = flat_map (λ e. map (λ l. e.0) (filter (λ l. not l.cut && (l.source == n)) e.1)) (enumerate_from 0 rows)
