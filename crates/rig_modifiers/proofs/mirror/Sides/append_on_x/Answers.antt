use Rattle.std.proofs.Common.{◌≡◌, List, OnOk, true, subst}
use Rattle.std.proofs.lemmas.Result.{on_err_weaker}
use Rattle.rig_scene.specs.declared.pencil.Stroke.{Stroke}
use Rattle.rig_points.specs.declared.change.Axes.{Axes}
use Rattle.rig_modifiers.specs.Sides.{side, on_x}
use Rattle.rig_modifiers.proofs.Fewer.{fewer-then}
use Rattle.rig_modifiers.proofs.Sides.{across-x, append-then}
use Rattle.rig_modifiers.proofs.mirror.Sides.append_on_x.Goals as goal

pub returns-then-self-clause-ok : goal.returns-then-self-clause-ok
returns-then-self-clause-ok c =
    let ss = c.args.self.now.source in
    let mirror = c.args.self.now.mirror in
    let centre = c.args.self.now.centre in
    let axes = c.args.axes in
    let other : Axes = record { x = true; y = axes.y; z = axes.z } in
    let is : List Stroke → Type 0 = λ ts. OnOk c.append-then-self.result (c.append-then-self.new.new.items ≡ ts) in
    subst is (append-then c.args.new.now.items c.append.new.new.items (side axes centre ss) (side other centre ss) (on_x mirror centre axes ss) c.in_ok-append.ensures.ok (across-x mirror centre axes ss c.requires c.if-self.true))
    c.append-then-self.ensures.ok

pub returns-then-self-clause-err : goal.returns-then-self-clause-err
returns-then-self-clause-err c =
    let ss = c.args.self.now.source in
    let mirror = c.args.self.now.mirror in
    let centre = c.args.self.now.centre in
    let axes = c.args.axes in
    let other : Axes = record { x = true; y = axes.y; z = axes.z } in
    on_err_weaker c.append-then-self.result
    (fewer-then (side axes centre ss) (side other centre ss) (on_x mirror centre axes ss) c.args.new.now.items c.append.new.new.items c.append-then-self.new.new.items (across-x mirror centre axes ss c.requires c.if-self.true) c.in_ok-append.ensures.ok)
    c.append-then-self.ensures.err
