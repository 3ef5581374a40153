use Rattle.std.proofs.Common.{◌≡◌, List, OnOk, false, true, subst}
use Rattle.std.proofs.lemmas.Result.{on_err_weaker}
use Rattle.rig_scene.specs.declared.pencil.Stroke.{Stroke}
use Rattle.rig_modifiers.specs.Sides.{on_x, on_y}
use Rattle.rig_modifiers.proofs.Fewer.{fewer-then}
use Rattle.rig_modifiers.proofs.Sides.{across-y, append-then}
use Rattle.rig_modifiers.proofs.mirror.Sides.append_on_y.Goals as goal

pub returns-then-self-clause-ok : goal.returns-then-self-clause-ok
returns-then-self-clause-ok c =
    let ss = c.args.self.now.source in
    let mirror = c.args.self.now.mirror in
    let centre = c.args.self.now.centre in
    let z = c.args.z in
    let old = c.args.new.now.items in
    let here = on_x mirror centre record { x = false; y = false; z = z } ss in
    let across = on_x mirror centre record { x = false; y = true; z = z } ss in
    let is : List Stroke → Type 0 = λ ts. OnOk c.append_on_x-then-self.result (c.append_on_x-then-self.new.new.items ≡ ts) in
    subst is (append-then old c.append_on_x.new.new.items here across (on_y mirror centre z ss) c.in_ok-append_on_x.ensures.ok (across-y mirror centre z ss c.if-self.true))
    c.append_on_x-then-self.ensures.ok

pub returns-then-self-clause-err : goal.returns-then-self-clause-err
returns-then-self-clause-err c =
    let ss = c.args.self.now.source in
    let mirror = c.args.self.now.mirror in
    let centre = c.args.self.now.centre in
    let z = c.args.z in
    let here = on_x mirror centre record { x = false; y = false; z = z } ss in
    let across = on_x mirror centre record { x = false; y = true; z = z } ss in
    on_err_weaker c.append_on_x-then-self.result
    (fewer-then here across (on_y mirror centre z ss) c.args.new.now.items c.append_on_x.new.new.items c.append_on_x-then-self.new.new.items (across-y mirror centre z ss c.if-self.true) c.in_ok-append_on_x.ensures.ok)
    c.append_on_x-then-self.ensures.err
