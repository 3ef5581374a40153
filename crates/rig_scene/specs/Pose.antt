-- Transforms of objects and bones, by what carries them, and how a bone deforms what is bound to it.
use Rattle.std.specs.Prelude.{ℕ, zero, suc, List, length, slice_get, Option, Some, None, option_map, pos}
use Rattle.std.specs.Option.{option_map_or}
use Rattle.std.specs.Int.{int_max}
use Rattle.rig_fixed.specs.Rotation.{normal}
use Rattle.rig_fixed.specs.Transform.{Transform, identity, compose, inverse}
use Rattle.rig_scene.specs.declared.channel.Channels.{Channels}
use Rattle.rig_scene.specs.declared.armature.RestBone.{RestBone}

-- the transform of eight numbers: the rotation brought to one unit, the scale at least 1
abbrev pub transform_of : Channels → Transform
transform_of c = record { loc = c.loc; rot = normal c.rot; scale = int_max (pos 1) c.scale }

-- a transform within the space of what carries it, if anything does
abbrev pub carried_by : Option Transform → Transform → Transform
carried_by None own = own
carried_by (Some carrier) own = compose carrier own

-- what a parent carries its children by: its world transform, or that of one of its bones in the world
abbrev pub parent_space : Transform → Option Transform → Transform
parent_space world None = world
parent_space world (Some bone) = compose world bone

-- a bone in the armature's space, by the parent bone's transform, the rest and the pose
abbrev pub bone_transform : Option Transform → Channels → Channels → Transform
bone_transform parent rest pose = carried_by parent (compose (transform_of rest) (transform_of pose))

-- a bone at rest in the armature's space, through at most so many bones
abbrev pub rest_through : ℕ → List RestBone → ℕ → Transform
rest_through zero bones index = identity
rest_through (suc depth) bones index =
    option_map_or (λ bone. carried_by (option_map (rest_through depth bones) bone.parent) (transform_of bone.rest))
    (slice_get bones index) identity

-- a bone at rest in the armature's space: its rest, carried by that of its parent. Each parent is an earlier bone
abbrev pub rest_chain : List RestBone → ℕ → Transform
rest_chain bones index = rest_through (length bones) bones index

-- where a bone takes what is bound to it: from its rest to where it stands
abbrev pub deform_of : Transform → Transform → Transform
deform_of bone rest = compose bone (inverse rest)
