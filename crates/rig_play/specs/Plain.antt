-- The scenes that the plain engine plays: empty objects that nothing carries, turns or scales, whose locations may have curves of
-- constant keys.
use Rattle.std.specs.Prelude.{◌==◌, pos, ◌&&◌, length, Bool, true, false, not, is_some}
use Rattle.std.specs.List.{list_all}
use Rattle.std.specs.Ordering.{int_eq}
use Rattle.rig_fixed.specs.Fixed.{unit}
use Rattle.rig_fixed.specs.declared.rotation.Raw.{Raw}
use Rattle.rig_scene.specs.declared.action.Curve.{Curve}
use Rattle.rig_scene.specs.declared.action.Interp.{Interp}
use Rattle.rig_scene.specs.declared.action.Interp.TheVariants.{Constant, Linear}
use Rattle.rig_scene.specs.declared.channel.Channel.{Channel}
use Rattle.rig_scene.specs.declared.channel.Channel.TheVariants.{LocX, LocY, LocZ}
use Rattle.rig_scene.specs.declared.object.Kind.{Kind}
use Rattle.rig_scene.specs.declared.object.Kind.TheVariants.{Empty}
use Rattle.rig_scene.specs.declared.object.Object.{Object}
use Rattle.rig_scene.specs.declared.path.Path.{Path}
use Rattle.rig_scene.specs.declared.path.Path.TheVariants.{Own}
use Rattle.rig_scene.specs.Scene.{SceneRecord}

abbrev pub is_location : Channel → Bool
is_location LocX = true
is_location LocY = true
is_location LocZ = true
is_location channel = false

-- an object's own location
abbrev pub is_own_location : Path → Bool
is_own_location (Own channel) = is_location channel
is_own_location path = false

abbrev pub is_constant : Interp → Bool
is_constant Constant = true
is_constant Linear = false

abbrev pub is_plain_curve : Curve → Bool
is_plain_curve c = is_own_location c.path && list_all (λ k. is_constant k.interp) c.keys

abbrev pub is_empty_kind : Kind → Bool
is_empty_kind Empty = true
is_empty_kind kind = false

abbrev pub has_no_axis : Raw → Bool
has_no_axis rot = int_eq rot.x (pos 0) && int_eq rot.y (pos 0) && int_eq rot.z (pos 0)

-- no rotation
abbrev pub is_unturned : Raw → Bool
is_unturned rot = int_eq rot.w unit && has_no_axis rot

abbrev pub is_plain_object : Object → Bool
is_plain_object o = is_empty_kind o.kind && not (is_some o.parent) && is_unturned o.own.rot && int_eq o.own.scale unit

abbrev pub is_plain_scene : SceneRecord → Bool
is_plain_scene s =
    (length s.armatures == 0) && (length s.pencils == 0) && (length s.drivers == 0)
    && list_all is_plain_object s.objects && list_all (λ a. list_all is_plain_curve a.curves) s.actions
