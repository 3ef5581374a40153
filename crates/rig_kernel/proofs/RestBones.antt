-- The bones of an armature at rest, one after another.
use Rattle.std.proofs.Common.{◌≡◌, ℕ, zero, suc, ◌<◌, ◌≤◌, List, [], ◌∷◌, ◌++◌, length, get_or, slice_get, ◌⊎◌, inl, inr, Option, Some, None, IsTrue, refl, sym, ap, subst, ◌∙◌, arith}
use Rattle.std.specs.Prelude.{option_map, option_and_then}
use Rattle.std.proofs.lemmas.Bool.{lt-ltb, cases_lt}
use Rattle.std.proofs.lemmas.Option.{same_Some, none-some, slice_get_read, slice_get_within, slice_get_past}
use Rattle.rig_fixed.specs.Transform.{Transform}
use Rattle.rig_scene.specs.declared.armature.RestBone.{RestBone}
use Rattle.rig_scene.specs.Facts.{have_earlier_parents}
use Rattle.rig_scene.specs.Found.{some_slice_get}
use Rattle.rig_scene.specs.Pose.{transform_of, carried_by, rest_through, rest_chain}
use Rattle.rig_scene.specs.WellFormed.{is_below}
use Rattle.rig_pose.specs.Chains.{earlier, root_rest, child_rest}
use Rattle.rig_kernel.specs.declared.bones_at_rest.BoneAtRest.{BoneAtRest}
use Rattle.rig_kernel.specs.Tables.{bone_at_rest}

module _ {A : Type 0} where
  -- what stands at an index of a list with one more at its end
  pub at_pushed : (xs : List A) (x : A) (k : ℕ) (y : A) → slice_get (xs ++ x ∷ []) k ≡ Some y → (P : ℕ → A → Type 0)
      → ((k : ℕ) (y : A) → slice_get xs k ≡ Some y → P k y) → P (length xs) x → P k y
  at_pushed [] x zero y at P before last = subst (P 0) (same_Some x y at) last
  at_pushed [] x (suc k) y at P before last = cc
  at_pushed (z ∷ xs) x zero y at P before last = before 0 y at
  at_pushed (z ∷ xs) x (suc k) y at P before last = at_pushed xs x k y at (λ n. P (suc n)) (λ n w e. before (suc n) w e) last

  -- where nothing stands the list has ended
  pub past_end : (xs : List A) (k : ℕ) → slice_get xs k ≡ None → length xs ≤ k
  past_end xs k none = by (cases_lt k (length xs))
    where
      by : (k < length xs) ⊎ (length xs ≤ k) → length xs ≤ k
      by (inl l) = let there = some_slice_get xs k l in absurd (none-some there.0 (sym none ∙ there.1))
      by (inr l) = l

  -- the element that comes after as many as were taken
  pub next_of : (xs : List A) (taken k : ℕ) (x : A) → taken ≡ k → k < length xs → x ≡ get_or xs k x → slice_get xs taken ≡ Some x
  next_of xs taken k x same l is = ap (slice_get xs) same ∙ slice_get_read xs (length xs) k x refl l is

module _ (bones : List RestBone) where
  -- a bone's parent, where it has one, is below the bone's index
  pub below_index : IsTrue (have_earlier_parents bones) → (index : ℕ) (bone : RestBone) → slice_get bones index ≡ Some bone → IsTrue (is_below index bone.parent)
  below_index each index bone is = by bone.parent refl
    where
      by : (parent : Option ℕ) → bone.parent ≡ parent → IsTrue (is_below index parent)
      by None above = refl
      by (Some p) above = lt-ltb p index (earlier bones index bone p each is above)

  -- that a bone is at rest: its own rest, and its chain through as many bones as it takes
  pub record IsAtRest (index : ℕ) (b : BoneAtRest) : Type 0 where
    pub rest : (bone : RestBone) → slice_get bones index ≡ Some bone → b.rest ≡ transform_of bone.rest
    pub chain : (depth : ℕ) → index < depth → b.chain ≡ rest_through depth bones index

  abbrev pub AreAtRest : List BoneAtRest → Type 0
  AreAtRest done = (index : ℕ) (b : BoneAtRest) → slice_get done index ≡ Some b → IsAtRest index b

  -- the carrier of a bone, by those before it
  abbrev carrier : List BoneAtRest → Option ℕ → Option Transform
  carrier done parent = option_and_then (λ p. option_map (λ b. b.chain) (slice_get done p)) parent

  module _ (each : IsTrue (have_earlier_parents bones)) (done : List BoneAtRest) (are : AreAtRest done) (bone : RestBone) (is : slice_get bones (length done) ≡ Some bone) where
    chain_after : (parent : Option ℕ) → bone.parent ≡ parent → (depth : ℕ) → length done < depth
        → carried_by (carrier done parent) (transform_of bone.rest) ≡ rest_through depth bones (length done)
    chain_after None above depth enough = root_rest bones (length done) bone is above depth enough
    chain_after (Some p) above depth enough =
        let before : p < length done = earlier bones (length done) bone p each is above in
        let there = some_slice_get done p before in
        ap (λ o. carried_by (option_map (λ (b : BoneAtRest). b.chain) o) (transform_of bone.rest)) there.1
        ∙ child_rest bones (length done) p bone there.0.chain is above before (are p there.0 there.1).chain depth enough

    -- one more bone is at rest
    pub at_rest_after : (new : BoneAtRest) → new.rest ≡ transform_of bone.rest → new.chain ≡ carried_by (carrier done bone.parent) (transform_of bone.rest)
        → AreAtRest (done ++ new ∷ [])
    at_rest_after new rest chain index b at = at_pushed done new index b at IsAtRest are (record {
      rest = λ other here. rest ∙ ap (λ (x : RestBone). transform_of x.rest) (same_Some bone other (sym is ∙ here));
      chain = λ depth enough. chain ∙ chain_after bone.parent refl depth enough;
    })

  -- all bones at rest are those of the definition
  pub all_at_rest : (done : List BoneAtRest) → AreAtRest done → length done ≡ length bones → (index : ℕ) → slice_get done index ≡ bone_at_rest bones index
  all_at_rest done are same index = by (slice_get bones index) refl
    where
      by : (o : Option RestBone) → slice_get bones index ≡ o
          → slice_get done index ≡ option_map (λ (bone : RestBone). record { rest = transform_of bone.rest; chain = rest_chain bones index }) o
      by None none = slice_get_past done index (omega (arith, same, past_end bones index none))
      by (Some bone) is =
          let there = some_slice_get done index (omega (arith, slice_get_within bones index bone is)) in
          let at_rest = are index there.0 there.1 in
          there.1 ∙ ap (λ (p : Transform × Transform). Some (record { rest = p.0; chain = p.1 })) (λ i. (at_rest.rest bone is i, at_rest.chain (length bones) (slice_get_within bones index bone is) i))
