-- The numbers of the operations of a pose: they stand one behind another among those of the scene.
use Rattle.std.proofs.Common.{◌≡◌, ℕ, zero, suc, ◌+◌, ◌<◌, List, [], ◌∷◌, ◌++◌, length, map, slice_get, Option, Some, None, refl, sym, ap, subst, ◌∙◌, arith}
use Rattle.std.specs.Prelude.{◌^◌, IsTrue, IfSome, Contains, option_map}
use Rattle.std.specs.Option.{option_map_or, option_and_then}
use Rattle.std.specs.List.{flat_map, range_with_len, enumerate_from}
use Rattle.std.proofs.lemmas.List.{append_assoc}
use Rattle.std.proofs.lemmas.List.FromFn.{length-map-range_with_len}
use Rattle.std.proofs.lemmas.Option.{same_Some, slice_get_within}
use Rattle.rig_scene.specs.declared.armature.RestBone.{RestBone}
use Rattle.rig_scene.specs.declared.channel.Channels.{Channels}
use Rattle.rig_scene.specs.declared.id.AnimId.TheVariants as anim
use Rattle.rig_scene.specs.declared.id.ObjectId.{ObjectId}
use Rattle.rig_scene.specs.declared.object.Kind.{Kind}
use Rattle.rig_scene.specs.declared.object.Kind.TheVariants as kind
use Rattle.rig_scene.specs.declared.object.Object.{Object}
use Rattle.rig_scene.specs.declared.operation.OpId.{OpId}
use Rattle.rig_scene.specs.declared.operation.OpId.TheVariants.{Time, Local, World, PoseInit, Bone, PoseDone}
use Rattle.rig_scene.specs.declared.path.Path.TheVariants as path
use Rattle.rig_scene.specs.Channel.{channels}
use Rattle.rig_scene.specs.Counts.{operations_count}
use Rattle.rig_scene.specs.FactsHold.{scene_facts}
use Rattle.rig_scene.specs.Operations.{animation_of, driver_operations, pencil_operations, kind_operations, object_operations, operations}
use Rattle.rig_scene.specs.Scene.{SceneRecord, object_of, armature_of}
use Rattle.rig_scene.specs.WellFormed.{is_scene, bones_of, pose_count}
use Rattle.rig_laws.specs.EarlierParent.{earlier_parent}
use Rattle.rig_laws.specs.FoundObject.{found_id, found_object}
use Rattle.rig_laws.specs.Lists.{All-below, option_and_then-Some}
use Rattle.rig_links.specs.Numbers.{number_of, numbered_links, between, IsPoseFrom}
use Rattle.rig_links.specs.Parts.{inner, driven, of_bone, of_bones}
use Rattle.rig_links.proofs.ByKey.{map_alike_at}
use Rattle.rig_links.proofs.LinksOf.{bone_links, pose_done_links}
use Rattle.rig_links.proofs.Numbers.{number_at}
use Rattle.rig_links.proofs.Pushed.{in_turn}
use Rattle.rig_links.proofs.Readers.{numbered_row}

-- ---- where things stand in lists that are joined

module _ {X : Type 0} where
  at_front : (xs ys : List X) (k : ℕ) (x : X) → slice_get xs k ≡ Some x → slice_get (xs ++ ys) k ≡ Some x
  at_front [] ys k x e = absurd (cc)
  at_front (y ∷ xs) ys zero x e = e
  at_front (y ∷ xs) ys (suc k) x e = at_front xs ys k x e

  behind : (xs ys : List X) (k : ℕ) → slice_get (xs ++ ys) (length xs + k) ≡ slice_get ys k
  behind [] ys k = ap (slice_get ys) (omega arith)
  behind (x ∷ xs) ys k =
      let next : suc (length xs) + k ≡ suc (length xs + k) = omega arith in
      ap (slice_get (x ∷ (xs ++ ys))) next ∙ behind xs ys k

  -- the part in the middle, with all before it in one list
  regroup : (t : X) (p q a : List X) (l w : X) (k r : List X)
      → t ∷ (p ++ (q ++ ((a ++ (l ∷ w ∷ k)) ++ r))) ≡ (t ∷ (p ++ (q ++ (a ++ (l ∷ w ∷ []))))) ++ (k ++ r)
  regroup t p q a l w k r =
      ap (λ z. t ∷ z)
      (ap (λ z. p ++ z)
      (ap (λ z. q ++ z) (append_assoc a (l ∷ w ∷ k) r ∙ sym (append_assoc a (l ∷ w ∷ []) (k ++ r)))
      ∙ sym (append_assoc q (a ++ (l ∷ w ∷ [])) (k ++ r)))
      ∙ sym (append_assoc p (q ++ (a ++ (l ∷ w ∷ []))) (k ++ r)))

-- what a function gives of an element, among what it gives of all
among : {X Y : Type 0} (f : X → List Y) (xs : List X) (x : X) → Contains xs x → (before : List Y) × (after : List Y) × (flat_map f xs ≡ before ++ (f x ++ after))
among f [] x e = absurd (let h : e.0 < 0 = e.1 in omega arith)
among f (y ∷ ys) x (zero, h, e) = ([], flat_map f ys, ap (λ z. f z ++ flat_map f ys) e)
among f (y ∷ ys) x (suc k, h, e) =
    let rest = among f ys x (k, omega arith, e) in
    (f y ++ rest.0, rest.1, ap (λ l. f y ++ l) rest.2 ∙ sym (append_assoc (f y) rest.0 (f x ++ rest.1)))

-- the operations of a pose of so many bones
abbrev pose_operations : ObjectId → ℕ → List OpId
pose_operations o count = PoseInit o ∷ (map (Bone o) (range_with_len 0 count) ++ PoseDone o ∷ [])

module _ (s : SceneRecord) (met : IsTrue (is_scene s)) where
  -- ---- the operations of a pose among those of the scene

  module _ (o : ObjectId) (count : ℕ) (before after : List OpId) (is : operations s ≡ before ++ (pose_operations o count ++ after)) where
    stands : (k : ℕ) (op : OpId) → slice_get (pose_operations o count) k ≡ Some op → slice_get (operations s) (length before + k) ≡ Some op
    stands k op at =
        ap (λ ops. slice_get ops (length before + k)) is ∙ behind before (pose_operations o count ++ after) k ∙ at_front (pose_operations o count) after k op at

    bone_at : (b : ℕ) → b < count → slice_get (pose_operations o count) (suc b) ≡ Some (Bone o b)
    bone_at b l = at_front (map (Bone o) (range_with_len 0 count)) (PoseDone o ∷ []) b (Bone o b) (numbered_row (Bone o) count b l)

    done_at : slice_get (pose_operations o count) (suc count) ≡ Some (PoseDone o)
    done_at =
        let bones = map (Bone o) (range_with_len 0 count) in
        let long : count ≡ length bones + 0 = omega (arith, length-map-range_with_len (Bone o) 0 count) in
        ap (slice_get (bones ++ PoseDone o ∷ [])) long ∙ behind bones (PoseDone o ∷ []) 0

    from_parts : IsPoseFrom s o (number_of s (PoseInit o)) count
    from_parts =
        let start = number_at s met (length before + 0) (PoseInit o) (stands 0 (PoseInit o) refl) in
        let done = number_at s met (length before + suc count) (PoseDone o) (stands (suc count) (PoseDone o) done_at) in
        let last = slice_get_within (operations s) (length before + suc count) (PoseDone o) (stands (suc count) (PoseDone o) done_at) in record {
          start_is = refl;
          bones_are = λ b l.
              let here = number_at s met (length before + suc b) (Bone o b) (stands (suc b) (Bone o b) (bone_at b l)) in
              omega (arith, start, here);
          done_is = omega (arith, start, done);
          few = omega (arith, start, last, operations_count s (scene_facts s met));
        }

  -- ---- the pose of an object

  of_object : (object : Object) → Contains s.objects object → (index : ℕ) (pose : List Channels) → object.kind ≡ kind.Armature index pose
      → IsPoseFrom s object.id (number_of s (PoseInit object.id)) (length pose)
  of_object object there index pose is =
      let pencils = flat_map (λ e. pencil_operations s e.0 e.1) (enumerate_from 0 s.pencils) in
      let own = animation_of s (anim.Object object.id) ++ driver_operations s (anim.Object object.id) in
      let parts = among (object_operations s) s.objects object there in
      from_parts object.id (length pose) (Time ∷ (pencils ++ (parts.0 ++ (own ++ (Local object.id ∷ World object.id ∷ []))))) parts.1
      (ap (λ l. Time ∷ (pencils ++ l)) parts.2
      ∙ ap (λ k. Time ∷ (pencils ++ (parts.0 ++ ((own ++ (Local object.id ∷ World object.id ∷ kind_operations object.id k)) ++ parts.1)))) is
      ∙ regroup Time pencils parts.0 own (Local object.id) (World object.id) (pose_operations object.id (length pose)) parts.1)

  of_kind : (object : Object) → Contains s.objects object → (k : Kind) → object.kind ≡ k → (bones : List RestBone) → option_map (λ a. a.bones) (armature_of s k) ≡ Some bones
      → IsPoseFrom s object.id (number_of s (PoseInit object.id)) (pose_count k)
  of_kind object there kind.Empty is bones has = absurd (cc)
  of_kind object there (kind.Armature index pose) is bones has = of_object object there index pose is
  of_kind object there (kind.Pencil index modifiers) is bones has = absurd (cc)

  pub pose_numbers : (o : ObjectId) (bones : List RestBone) (count start : ℕ) → bones_of s o ≡ Some bones → option_map (λ (x : Object). pose_count x.kind) (object_of s o) ≡ Some count → start ≡ number_of s (PoseInit o)
      → IsPoseFrom s o start count
  pose_numbers o bones count start has counts is =
      let found = option_and_then-Some (λ (x : Object). option_map (λ a. a.bones) (armature_of s x.kind)) (object_of s o) bones has in
      let same : pose_count found.0.kind ≡ count = same_Some (pose_count found.0.kind) count (sym (ap (option_map (λ (x : Object). pose_count x.kind)) found.1) ∙ counts) in
      subst (λ n. IsPoseFrom s o n count) (sym is)
      (subst (λ n. IsPoseFrom s o (number_of s (PoseInit o)) n) same
      (subst (λ i. IsPoseFrom s i (number_of s (PoseInit i)) (pose_count found.0.kind)) (found_id s o found.0 found.1)
      (of_kind found.0 (found_object s o found.0 found.1) found.0.kind refl bones found.2)))

  -- ---- links by these numbers

  module _ (o : ObjectId) (start count : ℕ) (from : IsPoseFrom s o start count) where
    pub pose_end_links : map (λ b. between (start + 1 + count) (start + 1 + b)) (range_with_len 0 count) ≡ of_bones s (number_of s (PoseDone o)) o count
    pose_end_links =
        ap (λ n. map (λ b. between n (start + 1 + b)) (range_with_len 0 count)) (sym from.done_is)
        ∙ map_alike_at (λ b. between (number_of s (PoseDone o)) (start + 1 + b)) (λ b. inner s (number_of s (PoseDone o)) (Bone o b)) (λ b. b < count)
        (λ b l. ap (between (number_of s (PoseDone o))) (sym (from.bones_are b l))) (range_with_len 0 count) (All-below (λ b. b < count) count (λ b l. l))

    pub parent_few : (parent : Option ℕ) → ((p : ℕ) → parent ≡ Some p → p < count) → IfSome parent (λ b. start + 1 + b < 2 ^ 32)
    parent_few None within = tt
    parent_few (Some p) within = omega (arith, from.few, within p refl)

    pub parent_links : (reader : ℕ) (parent : Option ℕ) → ((p : ℕ) → parent ≡ Some p → p < count)
        → option_map_or (λ b. between reader (start + 1 + b) ∷ []) parent [] ≡ option_map_or (λ b. inner s reader (Bone o b) ∷ []) parent []
    parent_links reader None within = refl
    parent_links reader (Some p) within = ap (λ n. between reader n ∷ []) (sym (from.bones_are p (within p refl)))

  -- a bone's

  module _ (o : ObjectId) (start : ℕ) (bones : List RestBone) (from : IsPoseFrom s o start (length bones)) (has : bones_of s o ≡ Some bones) (b : ℕ) (bone : RestBone) (at : slice_get bones b ≡ Some bone) where
    parent_within : (p : ℕ) → bone.parent ≡ Some p → p < length bones
    parent_within p e = omega (arith, earlier_parent s met o bones has b bone at p e, slice_get_within bones b bone at)

    pub parent_fits : IfSome bone.parent (λ p. start + 1 + p < 2 ^ 32)
    parent_fits = parent_few o start (length bones) from bone.parent parent_within

    pub bone_numbered : between (start + 1 + b) start ∷ (driven s (start + 1 + b) (anim.Object o) (map (path.Bone bone.name) channels) ++ option_map_or (λ p. between (start + 1 + b) (start + 1 + p) ∷ []) bone.parent [])
        ≡ numbered_links s (Bone o b)
    bone_numbered =
        let reader = start + 1 + b in
        let channel_links = driven s reader (anim.Object o) (map (path.Bone bone.name) channels) in
        ap (λ l. between reader start ∷ (channel_links ++ l)) (parent_links o start (length bones) from reader bone.parent parent_within)
        ∙ ap (λ n. between reader n ∷ (channel_links ++ option_map_or (λ p. inner s reader (Bone o p) ∷ []) bone.parent [])) (sym from.start_is)
        ∙ ap (λ r. of_bone s r o bone) (sym (from.bones_are b (slice_get_within bones b bone at)))
        ∙ sym (bone_links s o b bone (ap (option_and_then (λ (l : List RestBone). slice_get l b)) has ∙ at))

  -- ---- the links of a pose

  pub pose_in_turn : (o : ObjectId) (start count many : ℕ) → IsPoseFrom s o start many → many ≡ count → option_map (λ (x : Object). pose_count x.kind) (object_of s o) ≡ Some count
      → numbered_links s (PoseInit o) ++ (flat_map (λ b. numbered_links s (Bone o b)) (range_with_len 0 many) ++ map (λ b. between (start + 1 + many) (start + 1 + b)) (range_with_len 0 many))
      ≡ flat_map (numbered_links s) (pose_operations o count)
  pose_in_turn o start count many from same counts =
      ap (λ l. numbered_links s (PoseInit o) ++ (flat_map (λ b. numbered_links s (Bone o b)) (range_with_len 0 many) ++ l))
      (pose_end_links o start many from
      ∙ sym (pose_done_links s o many (counts ∙ ap Some (sym same))))
      ∙ in_turn (numbered_links s) (Bone o) (PoseInit o) (PoseDone o) (range_with_len 0 many)
      ∙ ap (λ n. flat_map (numbered_links s) (pose_operations o n)) same
