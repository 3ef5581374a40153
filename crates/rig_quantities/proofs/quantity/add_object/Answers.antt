use Rattle.std.proofs.Common.{ap, arith, length, subst, ◌<◌, ◌+◌, ◌≡◌, ◌∙◌, List, [], ◌∷◌, ◌++◌, append_assoc}
use Rattle.std.proofs.lemmas.Option.{slice_get_within}
use Rattle.std.proofs.lemmas.Result.{on_ok_weaker}
use Rattle.rig_scene.specs.declared.id.AnimId.TheVariants as anim
use Rattle.rig_scene.specs.declared.quantity.Quantity.{Quantity}
use Rattle.rig_scene.specs.declared.quantity.Quantity.TheVariants as quantity
use Rattle.rig_scene.specs.Facts.{SceneFacts}
use Rattle.rig_scene.specs.FactsHold.{scene_facts}
use Rattle.rig_scene.specs.Quantities.{chans_of, kind_quantities}
use Rattle.rig_scene.specs.Scene.{SceneRecord}
use Rattle.rig_quantities.proofs.SlotFacts.{row_count, few_of_kind, index_of_object, has_object_at}
use Rattle.rig_quantities.specs.Find.{object_index}
use Rattle.rig_quantities.proofs.quantity.add_object.Goals as goal

pub overflow_add-len : goal.overflow_add-len
overflow_add-len c =
    let facts = subst SceneFacts c.scene.view_is (scene_facts _ c.scene.invariant.is_scene) in
    let within : c.args.index < length c.args.scene.now.objects = slice_get_within c.args.scene.now.objects c.args.index c.args.object.now c.requires.object in
    let same = ap (λ (s : SceneRecord). length s.pencils) c.scene.view_is in
    let pencils = facts.pencils.count in
    let objects = facts.objects.count in
    omega (arith, c.len.ensures)

pub add_chans-requires-clause-slot : goal.add_chans-requires-clause-slot
add_chans-requires-clause-slot c =
    let long = row_count c.args.scene.now c.args.rows.now c.requires.rows in
    let within : c.args.index < length c.args.scene.now.objects = slice_get_within c.args.scene.now.objects c.args.index c.args.object.now c.requires.object in
    let same = ap (λ (s : SceneRecord). length s.pencils) c.scene.view_is in
    omega (arith, c.len.ensures)

pub add_kind-requires-clause-pose : goal.add_kind-requires-clause-pose
add_kind-requires-clause-pose c =
    let facts = subst SceneFacts c.scene.view_is (scene_facts _ c.scene.invariant.is_scene) in
    (few_of_kind c.args.scene.now facts c.args.index c.args.object.now c.requires.object).0

pub add_kind-requires-clause-modifiers : goal.add_kind-requires-clause-modifiers
add_kind-requires-clause-modifiers c =
    let facts = subst SceneFacts c.scene.view_is (scene_facts _ c.scene.invariant.is_scene) in
    (few_of_kind c.args.scene.now facts c.args.index c.args.object.now c.requires.object).1

-- the channels, the transforms and what the kind adds, one after another
together : (old chans kind one two three all : List Quantity) (local world : Quantity) → one ≡ old ++ chans → two ≡ one ++ local ∷ [] → three ≡ two ++ world ∷ []
    → all ≡ three ++ kind → all ≡ old ++ (chans ++ local ∷ world ∷ kind)
together old chans kind one two three all local world a b c d =
    d ∙ ap (λ items. items ++ kind) (c ∙ ap (λ items. items ++ world ∷ []) (b ∙ ap (λ items. items ++ local ∷ []) a)) ∙ simp append_assoc

pub returns : goal.returns
returns c =
    let facts = subst SceneFacts c.scene.view_is (scene_facts _ c.scene.invariant.is_scene) in
    let s = c.args.scene.now in
    let object = c.args.object.now in
    let index = index_of_object s facts c.args.index object c.requires.object in
    let same = ap (λ (s : SceneRecord). length s.pencils) c.scene.view_is in
    let number : length s.pencils + object_index s object.id ≡ c.len.result + c.args.index = omega (arith, c.len.ensures) in
    let chans = c.in_ok-add_chans.ensures (anim.Object object.id) (has_object_at s facts c.args.index object c.requires.object) number in
    on_ok_weaker c.add_kind.result
    (together c.args.items.now.items (chans_of s (anim.Object object.id)) (kind_quantities object.id object.kind) c.add_chans.new.items.items c.push.new.self.items
    c.push-2.new.self.items c.add_kind.new.items.items (quantity.Local object.id) (quantity.World object.id) chans c.in_ok-push.ensures.items c.in_ok-push-2.ensures.items)
    c.add_kind.ensures
