-- The operations that stand at the inputs, by the in-links of the operation that takes them.
use Rattle.std.proofs.Common.{◌≡◌, ℕ, List, [], ◌∷◌, ◌++◌, length, map, drop, Option, Some, None, cond, refl, sym, ap, ◌∙◌}
use Rattle.std.specs.Prelude.{is_some, slice_get, option_and_then}
use Rattle.std.specs.Option.{option_map_or}
use Rattle.std.specs.List.{drop-map}
use Rattle.std.proofs.Math.Seq.{drop-append_seam}
use Rattle.std.proofs.lemmas.List.{map-append, append-nil}
use Rattle.rig_scene.specs.declared.id.AnimId.{AnimId}
use Rattle.rig_scene.specs.declared.id.AnimId.TheVariants as anim
use Rattle.rig_scene.specs.declared.id.ObjectId.{ObjectId}
use Rattle.rig_scene.specs.declared.operation.OpId.{OpId}
use Rattle.rig_scene.specs.declared.operation.OpId.TheVariants.{Animation, Driver, Local, Bone, PoseInit}
use Rattle.rig_scene.specs.declared.path.Path.{Path}
use Rattle.rig_scene.specs.declared.path.Path.TheVariants as paths
use Rattle.rig_scene.specs.declared.quantity.Quantity.{Quantity}
use Rattle.rig_scene.specs.declared.quantity.Quantity.TheVariants as quantity
use Rattle.rig_scene.specs.Channel.{channels}
use Rattle.rig_scene.specs.Drivers.{driven_paths, action_index}
use Rattle.rig_scene.specs.Operations.{InLink, kept_link, animation_of, ins}
use Rattle.rig_scene.specs.Operations as links
use Rattle.rig_scene.specs.declared.armature.RestBone.{RestBone}
use Rattle.rig_scene.specs.declared.quantity.Read.{Read}
use Rattle.rig_scene.specs.Quantities.{inner_read, bone_reads}
use Rattle.rig_scene.specs.WellFormed.{bones_of}
use Rattle.rig_scene.specs.Scene.{SceneRecord}
use Rattle.rig_laws.specs.Kernel.{bone_paths}
use Rattle.rig_laws.specs.Output.{Output, link_of}

abbrev pub ops_of : List Output → List OpId
ops_of outs = map (λ o. o.op) outs

abbrev pub linked : List InLink → List OpId
linked ls = map (λ l. l.op) ls

pub taken : (outs : List Output) → linked (map link_of outs) ≡ ops_of outs
taken [] = refl
taken (o ∷ os) = ap (λ ops. o.op ∷ ops) (taken os)

pub kept_ops : (ops : List OpId) → linked (map kept_link ops) ≡ ops
kept_ops [] = refl
kept_ops (op ∷ ops) = ap (λ ops. op ∷ ops) (kept_ops ops)

pub driver_ops : (s : SceneRecord) (q : Quantity) (id : AnimId) (ps : List Path)
    → linked (map (links.link_of s q) (map (λ p. inner_read (quantity.Chan id p)) ps)) ≡ map (Driver id) ps
driver_ops s q id [] = refl
driver_ops s q id (p ∷ ps) = ap (λ ops. Driver id p ∷ ops) (driver_ops s q id ps)

-- the operations behind the first ones
pub behind : (first rest : List OpId) (outs : List Output) → ops_of outs ≡ first ++ rest → ops_of (drop (length first) outs) ≡ rest
behind first rest outs is =
    sym (drop-map (λ (o : Output). o.op) (length first) outs) ∙ ap (drop (length first)) is ∙ drop-append_seam first rest

-- an id has one animation, where it has an action
pub animation_count : (s : SceneRecord) (id : AnimId) (action : Option ℕ) → action_index s id ≡ action → length (animation_of s id) ≡ option_map_or (λ a. 1) action 0
animation_count s id action is =
    ap (λ a. length (cond (is_some a) (Animation id ∷ []) [])) is ∙ by action
  where
    by : (action : Option ℕ) → length (cond (is_some action) (Animation id ∷ []) []) ≡ option_map_or (λ a. 1) action 0
    by None = refl
    by (Some a) = refl

-- what an object's own channels take
pub local_ops : (s : SceneRecord) (o : ObjectId) (outs : List Output) → map link_of outs ≡ ins s (Local o)
    → ops_of outs ≡ animation_of s (anim.Object o) ++ (map (Driver (anim.Object o)) (driven_paths s (anim.Object o) (map paths.Own channels)) ++ [])
unfolding ins
local_ops s o outs is =
    let id = anim.Object o in
    let ps = driven_paths s id (map paths.Own channels) in
    sym (taken outs) ∙ ap linked is
    ∙ map-append (λ (l : InLink). l.op) (map kept_link (animation_of s id)) (links.links_of s (quantity.Local o))
    ∙ (λ i. kept_ops (animation_of s id) i ++ driver_ops s (quantity.Local o) id ps i)
    ∙ ap (λ ops. animation_of s id ++ ops) (sym (append-nil (map (Driver id) ps)))

-- the operations of what a quantity reads: the driven ones of some paths, and then others
pub reads_ops : (s : SceneRecord) (q : Quantity) (id : AnimId) (ps : List Path) (more : List Read)
    → linked (map (links.link_of s q) (map (λ p. inner_read (quantity.Chan id p)) ps ++ more)) ≡ map (Driver id) ps ++ linked (map (links.link_of s q) more)
reads_ops s q id [] more = refl
reads_ops s q id (p ∷ ps) more = ap (λ ops. Driver id p ∷ ops) (reads_ops s q id ps more)

-- the parent bone of a bone
abbrev pub parent_op : ObjectId → RestBone → List OpId
parent_op o bone = option_map_or (λ p. Bone o p ∷ []) bone.parent []

-- what a bone takes
pub bone_ops : (s : SceneRecord) (o : ObjectId) (b : ℕ) (bone : RestBone) → option_and_then (λ bones. slice_get bones b) (bones_of s o) ≡ Some bone
    → (outs : List Output) → map link_of outs ≡ ins s (Bone o b)
    → ops_of outs ≡ PoseInit o ∷ (map (Driver (anim.Object o)) (driven_paths s (anim.Object o) (bone_paths bone)) ++ parent_op o bone)
unfolding ins
bone_ops s o b bone found outs is =
    let q = quantity.Bone o b in
    sym (taken outs) ∙ ap linked is
    ∙ ap (λ found. PoseInit o ∷ linked (map (links.link_of s q) (option_map_or (bone_reads s o) found []))) found
    ∙ ap (λ ops. PoseInit o ∷ ops) (reads_ops s q (anim.Object o) (driven_paths s (anim.Object o) (bone_paths bone)) (option_map_or (λ b. inner_read (quantity.Bone o b) ∷ []) bone.parent []))
    ∙ ap (λ ops. PoseInit o ∷ (map (Driver (anim.Object o)) (driven_paths s (anim.Object o) (bone_paths bone)) ++ ops)) (by bone.parent)
  where
    by : (parent : Option ℕ) → linked (map (links.link_of s (quantity.Bone o b)) (option_map_or (λ b. inner_read (quantity.Bone o b) ∷ []) parent [])) ≡ option_map_or (λ p. Bone o p ∷ []) parent []
    by None = refl
    by (Some p) = refl
