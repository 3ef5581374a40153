use Rattle.std.proofs.Common.{false, true, ◌++◌, ◌∙◌, ap}
use Rattle.rig_scene.specs.Modify.{mirror_strokes}
use Rattle.rig_modifiers.specs.Sides.{on_y}
use Rattle.rig_modifiers.proofs.Sides.{across-z, within-z}
use Rattle.rig_modifiers.proofs.mirror.mirror_strokes.Goals as goal

pub returns-then-not-mirror : goal.returns-then-not-mirror
returns-then-not-mirror c =
    let ss = c.new-source.result in
    let mirror = c.args.mirror.now in
    let centre = c.args.centre.now in
    c.from.ensures
    ∙ c.in_ok-append_on_y.ensures.ok
    ∙ ap (λ new. new ++ on_y mirror centre false ss) c.in_ok-new.ensures
    ∙ within-z mirror centre ss c.if-not-mirror.true
    ∙ ap (mirror_strokes mirror centre) c.new-source.ensures

pub returns : goal.returns
returns c =
    let ss = c.new-source.result in
    let mirror = c.args.mirror.now in
    let centre = c.args.centre.now in
    let here = on_y mirror centre false ss in
    let across = on_y mirror centre true ss in
    c.from-2.ensures
    ∙ c.in_ok-append_on_y-2.ensures.ok
    ∙ ap (λ new. new ++ across) (c.in_ok-append_on_y.ensures.ok ∙ ap (λ new. new ++ here) c.in_ok-new.ensures)
    ∙ across-z mirror centre ss c.if-not-mirror.false
    ∙ ap (mirror_strokes mirror centre) c.new-source.ensures
