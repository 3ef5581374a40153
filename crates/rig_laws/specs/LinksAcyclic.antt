-- Why in-links that aren't cut make no cycle: a rank of the quantities is one of the operations.
use Rattle.std.specs.Prelude.{◌≡◌, ℕ, zero, suc, ◌+◌, ◌<◌, ◌≤◌, ◌&&◌, [], ◌∷◌, ◌++◌, map, length, filter, sum_by, Bool, true, false, not, IsTrue, Some, nat_le, if◌then◌else◌, Contains, All}
use Rattle.std.specs.Option.{option_map_or}
use Rattle.std.specs.List.{flat_map, range_with_len}
use Rattle.std.proofs.Common.{refl, sym, ap, subst, arith, ◌∙◌, true≢false}
use Rattle.std.proofs.lemmas.Bool.{and_parts, not-true, le-leb}
use Rattle.std.proofs.lemmas.List.Elements.{All-nil, All-cons, All-append, All-map, All-contains, All-weaker}
use Rattle.std.proofs.lemmas.List.Sums.{get_or-le-sum_by}
use Rattle.rig_cycles.specs.Acyclic.{acyclic_from_rank}
use Rattle.rig_cycles.specs.Cut.{Arrow}
use Rattle.rig_cycles.specs.Elements.{element_of_kept, kept_passes, element_first}
use Rattle.rig_cycles.specs.RankOrder.{rank_exists}
use Rattle.rig_cycles.specs.Walk.{IsAcyclic, IsRank}
use Rattle.rig_scene.specs.declared.driver.Driver.{Driver as DriverRecord}
use Rattle.rig_scene.specs.declared.driver.Variable.{Variable}
use Rattle.rig_scene.specs.declared.driver.Variable.TheVariants.{Property, Transform}
use Rattle.rig_scene.specs.declared.id.AnimId.{AnimId}
use Rattle.rig_scene.specs.declared.id.AnimId.TheVariants as anim
use Rattle.rig_scene.specs.declared.id.ObjectId.{ObjectId}
use Rattle.rig_scene.specs.declared.object.Kind.{Kind}
use Rattle.rig_scene.specs.declared.object.Kind.TheVariants as kind
use Rattle.rig_scene.specs.declared.object.Object.{Object}
use Rattle.rig_scene.specs.declared.operation.OpId.{OpId}
use Rattle.rig_scene.specs.declared.operation.OpId.TheVariants.{Time, Animation, Driver, Local, World, PoseInit, Bone, PoseDone, Layer, Geometry, ModifierOp, GeometryDone}
use Rattle.rig_scene.specs.declared.quantity.Quantity.{Quantity}
use Rattle.rig_scene.specs.declared.quantity.Quantity.TheVariants as quantity
use Rattle.rig_scene.specs.declared.quantity.Read.{Read}
use Rattle.rig_scene.specs.Cut.{is_cut}
use Rattle.rig_scene.specs.Drivers.{driver_of, is_driven, has_action}
use Rattle.rig_scene.specs.Operations.{InLink, kept_link, animation_of, operations, operation_of, link_of, links_of, variable_links, layer_time, bone_links, last_geometry, ins}
use Rattle.rig_scene.specs.Pairs.{All-of_map, All-flat_map}
use Rattle.rig_scene.specs.Quantities.{same_quantity, quantities, reads, reference_read, space_quantity, variable_reads, modifiers_of}
use Rattle.rig_scene.specs.Same.{same_quantity-Decides}
use Rattle.rig_scene.specs.Scene.{SceneRecord, object_of}
use Rattle.rig_scene.specs.WellFormed.{is_scene}
use Rattle.rig_laws.specs.FoundObject.{found_id, found_object}
use Rattle.rig_laws.specs.HasOperation.{operation_has}
use Rattle.rig_laws.specs.HasQuantity.{kind_there, quantity_is_there}
use Rattle.rig_laws.specs.Kept.{arrow_of, kept_arrows, kept_links}
use Rattle.rig_laws.specs.KeptReads.{kept_acyclic, inner_kept, uncut_kept}
use Rattle.rig_laws.specs.LayerTime.{All-layer_time}
use Rattle.rig_laws.specs.Lists.{All-one, All-option, All-elements, Contains-flat_map, some_where}
use Rattle.rig_laws.specs.Members.{has_modifiers, has_geometry, has_quantity, has_operation}

-- the rank of an operation: what opens is lowest, what ends is above all quantities, and the others stand as their quantities
abbrev operation_rank : (Quantity → ℕ) → ℕ → OpId → ℕ
operation_rank rank top Time = 0
operation_rank rank top (Animation id) = 1
operation_rank rank top (Driver id p) = 3 + rank (quantity.Chan id p)
operation_rank rank top (Local o) = 3 + rank (quantity.Local o)
operation_rank rank top (World o) = 3 + rank (quantity.World o)
operation_rank rank top (PoseInit o) = 2
operation_rank rank top (Bone o b) = 3 + rank (quantity.Bone o b)
operation_rank rank top (PoseDone o) = 4 + top
operation_rank rank top (Layer p l) = 3 + rank (quantity.Layer p l)
operation_rank rank top (Geometry o) = 3 + rank (quantity.Geom o 0)
operation_rank rank top (ModifierOp o i) = 3 + rank (quantity.Geom o i)
operation_rank rank top (GeometryDone o) = 4 + top

rank_of_quantity : (rank : Quantity → ℕ) (top : ℕ) (q : Quantity) → operation_rank rank top (operation_of q) ≡ 3 + rank q
rank_of_quantity rank top (quantity.Chan id p) = refl
rank_of_quantity rank top (quantity.Local o) = refl
rank_of_quantity rank top (quantity.World o) = refl
rank_of_quantity rank top (quantity.Bone o b) = refl
rank_of_quantity rank top (quantity.Layer p l) = refl
rank_of_quantity rank top (quantity.Geom o zero) = refl
rank_of_quantity rank top (quantity.Geom o (suc i)) = refl

last_is : (o : ObjectId) (n : ℕ) → last_geometry o n ≡ operation_of (quantity.Geom o n)
last_is o zero = refl
last_is o (suc n) = refl

module _ (s : SceneRecord) (met : IsTrue (is_scene s)) (rank : Quantity → ℕ) (falls : IsRank rank (kept_arrows s)) where
  top : ℕ
  top = sum_by rank (quantities s)

  rank_within : (q : Quantity) → Contains (quantities s) q → rank q ≤ top
  unfolding top
  rank_within q e = omega (arith, ap rank e.2, get_or-le-sum_by rank (quantities s) e.0 q e.1)

  -- a link that isn't cut falls below a bound
  abbrev FallsBelow : ℕ → InLink → Type 0
  FallsBelow bound link = link.cut ≡ false → operation_rank rank top link.op < bound

  of_read : (q : Quantity) → Contains (quantities s) q → (r : Read) → Contains (reads s q) r → FallsBelow (3 + rank q) (link_of s q r)
  of_read q within r read uncut = by r.reference refl
    where
      lower : Contains (kept_arrows s) (arrow_of q r) → operation_rank rank top (operation_of r.source) < 3 + rank q
      lower kept = let l = falls (arrow_of q r) kept in omega (arith, rank_of_quantity rank top r.source)

      by : (b : Bool) → r.reference ≡ b → operation_rank rank top (operation_of r.source) < 3 + rank q
      by false e = lower (inner_kept s met q within r read e)
      by true e = lower (uncut_kept s met q within r read (ap (λ b. b && is_cut s r.source q) (sym e) ∙ uncut))

  of_reads : (q : Quantity) → Contains (quantities s) q → All (FallsBelow (3 + rank q)) (links_of s q)
  of_reads q within = All-map (FallsBelow (3 + rank q)) (link_of s q) (reads s q) (All-elements (λ r. FallsBelow (3 + rank q) (link_of s q r)) (reads s q) (of_read q within))

  of_animation : (id : AnimId) (bound : ℕ) → 1 < bound → All (FallsBelow bound) (map kept_link (animation_of s id))
  of_animation id bound l = by (has_action s id)
    where
      by : (b : Bool) → All (FallsBelow bound) (map kept_link (if b then Animation id ∷ [] else []))
      by true = All-one (FallsBelow bound) (kept_link (Animation id)) (λ e. l)
      by false = All-nil (FallsBelow bound)

  of_variable : (q : Quantity) → Contains (quantities s) q → (v : Variable) → ((r : Read) → Contains (variable_reads s v) r → Contains (reads s q) r) → All (FallsBelow (3 + rank q)) (variable_links s q v)
  of_variable q within (Property id p) reading = by (is_driven s id p) reading
    where
      by : (b : Bool) → ((r : Read) → Contains (if b then reference_read (quantity.Chan id p) ∷ [] else []) r → Contains (reads s q) r) → All (FallsBelow (3 + rank q)) (if b then link_of s q (reference_read (quantity.Chan id p)) ∷ [] else map kept_link (animation_of s id))
      by true h = All-one (FallsBelow (3 + rank q)) (link_of s q (reference_read (quantity.Chan id p))) (of_read q within (reference_read (quantity.Chan id p)) (h (reference_read (quantity.Chan id p)) (element_first (reference_read (quantity.Chan id p)) [])))
      by false h = of_animation id (3 + rank q) (omega arith)
  of_variable q within (Transform o space channel) reading =
      All-one (FallsBelow (3 + rank q)) (link_of s q (reference_read (space_quantity o space)))
      (of_read q within (reference_read (space_quantity o space)) (reading (reference_read (space_quantity o space)) (element_first (reference_read (space_quantity o space)) [])))

  of_bones : (o : Object) → Contains s.objects o → (k : Kind) → o.kind ≡ k → All (FallsBelow (4 + top)) (bone_links o.id k)
  of_bones o e kind.Empty f = All-nil (FallsBelow (4 + top))
  of_bones o e (kind.Armature n pose) f =
      All-map (FallsBelow (4 + top)) (λ b. kept_link (Bone o.id b)) (range_with_len 0 (length pose))
      (All-weaker (λ b. IsTrue (has_quantity s (quantity.Bone o.id b))) (λ b. FallsBelow (4 + top) (kept_link (Bone o.id b)))
      (λ b h u. let l = rank_within (quantity.Bone o.id b) (quantity_is_there s met (quantity.Bone o.id b) h) in omega arith) (range_with_len 0 (length pose))
      (All-of_map (λ q. IsTrue (has_quantity s q)) (quantity.Bone o.id) (range_with_len 0 (length pose)) (kind_there s met o e (kind.Armature n pose) f)))
  of_bones o e (kind.Pencil p modifiers) f = All-nil (FallsBelow (4 + top))

  of_last : (o : ObjectId) (object : Object) → object_of s o ≡ Some object → (k : Kind) → object.kind ≡ k → has_modifiers 0 k ≡ true → operation_rank rank top (last_geometry o (length (modifiers_of k))) < 4 + top
  of_last o object e kind.Empty f h = absurd (true≢false (sym h))
  of_last o object e (kind.Armature n pose) f h = absurd (true≢false (sym h))
  of_last o object e (kind.Pencil p modifiers) f h =
      let q = quantity.Geom o (length modifiers) in
      let has = has_modifiers (length modifiers) in
      let there : IsTrue (has_geometry s o (length modifiers)) = ap (λ f. option_map_or (λ object. has object.kind) f false) e ∙ ap has f ∙ le-leb (length modifiers) (length modifiers) (omega arith) in
      let l = rank_within q (quantity_is_there s met q there) in
      omega (arith, ap (operation_rank rank top) (last_is o (length modifiers)), rank_of_quantity rank top q)

  -- the links of an operation that aren't cut
  links_fall : (op : OpId) → IsTrue (has_operation s op) → All (FallsBelow (operation_rank rank top op)) (ins s op)
  unfolding ins
  links_fall Time h = All-nil (FallsBelow 0)
  links_fall (Animation id) h = All-one (FallsBelow 1) (kept_link Time) (λ u. omega arith)
  links_fall (Driver id p) h =
      let q = quantity.Chan id p in
      let within = quantity_is_there s met q h in
      All-option (FallsBelow (3 + rank q)) (λ d. flat_map (variable_links s q) d.variables) (driver_of s id p)
      (λ d e. All-flat_map (FallsBelow (3 + rank q)) (variable_links s q) d.variables
      (All-elements (λ v. All (FallsBelow (3 + rank q)) (variable_links s q v)) d.variables
      (λ v c. of_variable q within v
      (λ r read. subst (λ o. Contains (option_map_or (λ (d : DriverRecord). flat_map (variable_reads s) d.variables) o []) r) (sym e) (Contains-flat_map (variable_reads s) d.variables v r c read)))))
  links_fall (Local o) h =
      let q = quantity.Local o in
      All-append (FallsBelow (3 + rank q)) (map kept_link (animation_of s (anim.Object o))) (links_of s q) (of_animation (anim.Object o) (3 + rank q) (omega arith)) (of_reads q (quantity_is_there s met q h))
  links_fall (World o) h = of_reads (quantity.World o) (quantity_is_there s met (quantity.World o) h)
  links_fall (PoseInit o) h = of_animation (anim.Object o) 2 (omega arith)
  links_fall (Bone o b) h =
      let q = quantity.Bone o b in
      All-cons (FallsBelow (3 + rank q)) (kept_link (PoseInit o)) (links_of s q) (λ u. omega arith) (of_reads q (quantity_is_there s met q h))
  links_fall (PoseDone o) h =
      All-option (FallsBelow (4 + top)) (λ object. bone_links o object.kind) (object_of s o)
      (λ object e. subst (λ id. All (FallsBelow (4 + top)) (bone_links id object.kind)) (found_id s o object e) (of_bones object (found_object s o object e) object.kind refl))
  links_fall (Layer p l) h =
      let q = quantity.Layer p l in
      All-append (FallsBelow (3 + rank q)) (layer_time s p l ++ map kept_link (animation_of s (anim.Pencil p))) (links_of s q)
      (All-append (FallsBelow (3 + rank q)) (layer_time s p l) (map kept_link (animation_of s (anim.Pencil p))) (All-layer_time s p l (FallsBelow (3 + rank q)) (λ u. omega arith)) (of_animation (anim.Pencil p) (3 + rank q) (omega arith)))
      (of_reads q (quantity_is_there s met q h))
  links_fall (Geometry o) h = of_reads (quantity.Geom o 0) (quantity_is_there s met (quantity.Geom o 0) h)
  links_fall (ModifierOp o i) h = of_reads (quantity.Geom o i) (quantity_is_there s met (quantity.Geom o i) (and_parts (nat_le 1 i) (has_geometry s o i) h).1)
  links_fall (GeometryDone o) h =
      let found = some_where (λ object. has_modifiers 0 object.kind) (object_of s o) h in
      All-option (FallsBelow (4 + top)) (λ object. kept_link (last_geometry o (length (modifiers_of object.kind))) ∷ []) (object_of s o)
      (λ object e.
      let same : found.0 ≡ object = cc (found.1, e) in
      All-one (FallsBelow (4 + top)) (kept_link (last_geometry o (length (modifiers_of object.kind))))
      (λ u. of_last o object e object.kind refl (ap (λ o. has_modifiers 0 o.kind) (sym same) ∙ found.2)))

  -- an in-link that isn't cut, as a read, falls
  abbrev ReadFalls : Arrow OpId → Type 0
  ReadFalls a = operation_rank rank top a.source < operation_rank rank top a.reader

  uncut_fall : (op : OpId) → Contains (operations s) op → All ReadFalls (map (λ link. record { reader = op; source = link.op; is_reference = false }) (filter (λ link. not link.cut) (ins s op)))
  uncut_fall op here =
      All-map ReadFalls (λ (link : InLink). record { reader = op; source = link.op; is_reference = false }) (filter (λ link. not link.cut) (ins s op))
      (All-elements (λ (link : InLink). operation_rank rank top link.op < operation_rank rank top op) (filter (λ link. not link.cut) (ins s op))
      (λ link kept.
      All-contains (FallsBelow (operation_rank rank top op)) (ins s op) link (links_fall op (operation_has s met op here)) (element_of_kept (λ link. not link.cut) (ins s op) link kept)
      (not-true link.cut (kept_passes (λ link. not link.cut) (ins s op) link kept))))

  links_rank : IsRank (operation_rank rank top) (kept_links s)
  links_rank a within =
      All-contains ReadFalls (kept_links s) a
      (All-flat_map ReadFalls (λ op. map (λ link. record { reader = op; source = link.op; is_reference = false }) (filter (λ link. not link.cut) (ins s op))) (operations s)
      (All-elements (λ op. All ReadFalls (map (λ link. record { reader = op; source = link.op; is_reference = false }) (filter (λ link. not link.cut) (ins s op)))) (operations s) uncut_fall)) within

-- in-links that aren't cut make no cycle
pub links_acyclic : (s : SceneRecord) → IsTrue (is_scene s) → IsAcyclic (kept_links s)
links_acyclic s met =
    let ranked = rank_exists same_quantity same_quantity-Decides (kept_arrows s) (kept_acyclic s met) in
    acyclic_from_rank (operation_rank ranked.0 (top s met ranked.0 ranked.1)) (kept_links s) (links_rank s met ranked.0 ranked.1)
