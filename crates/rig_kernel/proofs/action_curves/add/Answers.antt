use Rattle.std.proofs.Common.{◌≡◌, sym, ap, ◌∙◌}
use Rattle.std.specs.Prelude.{option_and_then}
use Rattle.indexmap.specs.IndexMap.{get}
use Rattle.rig_scene.specs.declared.path.Path.{Path}
use Rattle.rig_scene.specs.declared.path.Path.TheVariants.{Own, Bone, Layer}
use Rattle.rig_scene.specs.Channel.{same_channel}
use Rattle.rig_scene.specs.Path.{same_path}
use Rattle.rig_scene.specs.Text.{same_text}
use Rattle.rig_kernel.specs.ChannelCurves.{channel_curve, found_or}
use Rattle.rig_kernel.specs.Tables.{curve_in}
use Rattle.rig_kernel.proofs.AddedCurves.{found_as_before, curve_or_none, curve_added}
use Rattle.rig_kernel.proofs.action_curves.add.Goals as goal

pub returns-in_ok-set-in-Bone : goal.returns-in_ok-set-in-Bone
returns-in_ok-set-in-Bone c p = by p ∙ ap (λ path. found_or (curve_in c.args.table.now p) (same_path path p) c.args.index) (sym c.in-Bone.is)
  where
    by : (p : Path) → curve_in (record { own = c.args.table.now.own; bones = c.set.new.values; layers = c.args.table.now.layers }) p
        ≡ found_or (curve_in c.args.table.now p) (same_path (Bone c.in-Bone.name c.in-Bone.channel) p) c.args.index
    by (Own channel) = sym (found_as_before (curve_in c.args.table.now (Own channel)) c.args.index)
    by (Layer name axis) = sym (found_as_before (curve_in c.args.table.now (Layer name axis)) c.args.index)
    by (Bone name channel) =
        curve_added channel_curve (get same_text c.args.table.now.bones) (get same_text c.set.new.values) c.in-Bone.name c.with.result
        (same_channel c.in-Bone.channel) c.args.index (c.in_ok-set-in-Bone.ensures).0
        (λ part. c.with.ensures part ∙ ap (λ o. found_or o (same_channel c.in-Bone.channel part) c.args.index)
        (ap (λ curves. channel_curve curves part) c.unwrap_or-curves.ensures
        ∙ curve_or_none channel_curve c.none.result c.none.ensures c.copied.result part
        ∙ ap (λ curves. option_and_then (λ v. channel_curve v part) curves) (c.copied.ensures ∙ c.get.ensures.value))) name channel
