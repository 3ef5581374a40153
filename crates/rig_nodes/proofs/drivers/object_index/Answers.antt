use Rattle.std.proofs.Common.{◌≡◌, ◌<◌, ℕ, nat_lt, length, Some, slice_get, refl, sym, ap, subst, arith}
use Rattle.std.specs.List.{prefix_len}
use Rattle.std.proofs.lemmas.Option.{slice_get_read}
use Rattle.rig_scene.specs.declared.object.Object.{Object}
use Rattle.rig_nodes.proofs.Ids.{lower_ids}
use Rattle.rig_nodes.proofs.drivers.object_index.Goals as goal

pub returns-then-objects-guess : goal.returns-then-objects-guess
returns-then-objects-guess c =
    let within : c.args.id.0 < length c.args.objects.now = omega arith in
    let at : slice_get c.args.objects.now c.args.id.0 ≡ Some c.index-objects-guess.result =
    slice_get_read c.args.objects.now (length c.args.objects.now) c.args.id.0 c.index-objects-guess.result refl within c.index-objects-guess.is in
    let id : c.index-objects-guess.result.id.0 ≡ c.args.id.0 = omega (arith, ap (λ (o : Object). o.id.0) c.index-objects-guess.is) in
    subst (λ (n : ℕ). c.args.id.0 ≡ prefix_len (λ (o : Object). nat_lt o.id.0 n) c.args.objects.now) id
    (sym (lower_ids c.args.objects.now c.requires c.args.id.0 c.index-objects-guess.result at))
