use Rattle.std.proofs.Common.{◌≡◌}
use Rattle.rig_scene.specs.Find.{id_named}
use Rattle.rig_scene.proofs.Named.{some_named, none_named}
use Rattle.rig_scene.proofs.scene.Scene.find.Goals as goal

pub returns-clause-found : goal.returns-clause-found
returns-clause-found c =
    let e : c.first_named.result ≡ id_named c.args.name.now c.args.self.now.objects = cc in
    rw e (some_named c.args.name.now c.args.self.now.objects)

pub returns-clause-none : goal.returns-clause-none
returns-clause-none c =
    let e : c.first_named.result ≡ id_named c.args.name.now c.args.self.now.objects = cc in
    rw e (none_named c.args.name.now c.args.self.now.objects)
