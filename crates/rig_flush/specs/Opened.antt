-- A graph that opens is fresh.
use Rattle.std.specs.Prelude.{Some, None}
use Rattle.std.proofs.Common.{◌≡◌, sym}
use Rattle.std.proofs.lemmas.List.Elements.{All-contains_itself}
use Rattle.rig_scene.specs.declared.modifier.Mode.{Mode}
use Rattle.rig_scene.specs.Operations.{operations}
use Rattle.rig_scene.specs.Scene.{SceneRecord}
use Rattle.rig_flush.specs.Graph.{Fresh, opened}

pub opened_is_fresh : (scene : SceneRecord) (mode : Mode) → Fresh (opened scene mode)
opened_is_fresh scene mode = record {
  all_tagged = λ e. All-contains_itself (operations scene);
  is_kept = λ p e. absurd (let no : Some p ≡ None = sym e in cc);
}
