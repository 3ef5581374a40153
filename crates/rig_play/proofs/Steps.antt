-- An edit of a plain scene leaves a plain scene, and where the other objects stand.
use Rattle.std.proofs.Common.{◌≡◌, ℕ, zero, suc, ◌==◌, ◌<◌, List, [], ◌∷◌, length, Bool, true, false, Option, Some, None, ℤ, slice_get, slice_set, refl, sym, ap, ◌∙◌, arith, length-set}
use Rattle.std.specs.List.{list_all, position}
use Rattle.std.specs.Option.{option_map_or}
use Rattle.std.proofs.lemmas.Bool.{and_parts}
use Rattle.std.proofs.lemmas.Bool.Decides.{nat_tests}
use Rattle.rig_fixed.specs.Transform.{Transform}
use Rattle.rig_scene.specs.declared.channel.Channel.{Channel}
use Rattle.rig_scene.specs.declared.channel.Channel.TheVariants.{LocX, LocY, LocZ, RotW, RotX, RotY, RotZ, Scale}
use Rattle.rig_scene.specs.declared.object.Object.{Object}
use Rattle.rig_scene.specs.declared.path.Path.TheVariants.{Own, Bone, Layer}
use Rattle.rig_scene.specs.Channel.{with_channel}
use Rattle.rig_scene.specs.Scene.{SceneRecord}
use Rattle.rig_scene.specs.Text.{same_text}
use Rattle.rig_scene.specs.WellFormed.{is_scene}
use Rattle.rig_edits.specs.declared.edit.Edit.{Edit}
use Rattle.rig_edits.specs.declared.edit.Edit.TheVariants.{SetValue, SetKey, DeleteKey, SetFlag, MovePoint, SetLayerKey, DeleteLayerKey, SetParent, SetDriver, ClearDriver, AddObject, RemoveObject, AddModifier, RemoveModifier}
use Rattle.rig_edits.specs.declared.edit.IdName.TheVariants as named
use Rattle.rig_edits.specs.Conditions.{IsEdit}
use Rattle.rig_edits.specs.Edited.{edited}
use Rattle.rig_edits.specs.Named.{update_at}
use Rattle.rig_play.specs.Plain.{is_location, is_plain_curve, is_plain_object, is_plain_scene}
use Rattle.rig_play.specs.PlainScript.{is_plain_edit}
use Rattle.rig_play.specs.Stands.{Stands, plain_world}
use Rattle.rig_play.specs.State.{index_set, with_mark}
use Rattle.rig_scene.specs.Parts.{five_parts}

slice_get-set_same : {A : Type 0} (xs : List A) (i : ℕ) (y : A) → i < length xs → slice_get (slice_set xs i y) i ≡ Some y
slice_get-set_same [] i y within = absurd (omega arith)
slice_get-set_same (x ∷ xs) zero y within = refl
slice_get-set_same (x ∷ xs) (suc i) y within = slice_get-set_same xs i y (omega arith)

slice_get-set_other : {A : Type 0} (xs : List A) (i k : ℕ) (y : A) → (i == k) ≡ false → slice_get (slice_set xs i y) k ≡ slice_get xs k
slice_get-set_other [] i k y other = refl
slice_get-set_other (x ∷ xs) zero zero y other = absurd (grind (arith, nat_tests))
slice_get-set_other (x ∷ xs) zero (suc k) y other = refl
slice_get-set_other (x ∷ xs) (suc i) zero y other = refl
slice_get-set_other (x ∷ xs) (suc i) (suc k) y other = slice_get-set_other xs i k y (grind (arith, nat_tests))

within-list : {A : Type 0} (xs : List A) (i : ℕ) (x : A) → slice_get xs i ≡ Some x → i < length xs
within-list [] i x there = cc
within-list (y ∷ ys) zero x there = omega arith
within-list (y ∷ ys) (suc i) x there = let h = within-list ys i x there in omega arith

-- a test that all pass is passed by all where one that passes it takes the place of another
list_all-set : {A : Type 0} (p : A → Bool) (xs : List A) (i : ℕ) (y : A) → list_all p xs ≡ true → p y ≡ true → list_all p (slice_set xs i y) ≡ true
list_all-set p [] i y all passes = refl
list_all-set p (x ∷ xs) zero y all passes = rw passes (and_parts (p x) (list_all p xs) all).1
list_all-set p (x ∷ xs) (suc i) y all passes =
    let parts = and_parts (p x) (list_all p xs) all in
    rw parts.0 (list_all-set p xs i y parts.1 passes)

-- nothing is set at an index that a list of the same length hasn't
set-past : {A B : Type 0} (xs : List A) (ys : List B) (i : ℕ) (y : B) → length ys ≡ length xs → slice_get xs i ≡ None → slice_set ys i y ≡ ys
set-past xs [] i y same past = refl
set-past [] (z ∷ zs) i y same past = absurd (omega arith)
set-past (x ∷ xs) (z ∷ zs) zero y same past = cc
set-past (x ∷ xs) (z ∷ zs) (suc i) y same past = ap (λ ts. z ∷ ts) (set-past xs zs i y (omega arith) past)

-- the plain scene with a plain object in the place of another
plain-set : (s : SceneRecord) (i : ℕ) (o : Object) → is_plain_scene s ≡ true → is_plain_object o ≡ true → is_plain_scene (record s { objects = slice_set s.objects i o }) ≡ true
plain-set s i o plain passes =
    let parts = five_parts (length s.armatures == 0) (length s.pencils == 0) (length s.drivers == 0) (list_all is_plain_object s.objects) (list_all (λ a. list_all is_plain_curve a.curves) s.actions) plain in
    rw (parts.0, parts.1, parts.2, list_all-set is_plain_object s.objects i o parts.3 passes, parts.4) refl

-- a location doesn't tell whether an object is plain
located : (o : Object) (channel : Channel) (value : ℤ) → is_location channel ≡ true → is_plain_object (record o { own = with_channel o.own channel value }) ≡ is_plain_object o
located o LocX value is = refl
located o LocY value is = refl
located o LocZ value is = refl
located o RotW value is = cc
located o RotX value is = cc
located o RotY value is = cc
located o RotZ value is = cc
located o Scale value is = cc

list_all-at : {A : Type 0} (p : A → Bool) (xs : List A) (i : ℕ) (x : A) → list_all p xs ≡ true → slice_get xs i ≡ Some x → p x ≡ true
list_all-at p [] i x all there = cc
list_all-at p (y ∷ ys) zero x all there = let e : y ≡ x = cc in rw (← e) ((and_parts (p y) (list_all p ys) all).0)
list_all-at p (y ∷ ys) (suc i) x all there = list_all-at p ys i x (and_parts (p y) (list_all p ys) all).1 there

plain_objects : (s : SceneRecord) → is_plain_scene s ≡ true → list_all is_plain_object s.objects ≡ true
plain_objects s plain = (five_parts (length s.armatures == 0) (length s.pencils == 0) (length s.drivers == 0) (list_all is_plain_object s.objects) (list_all (λ a. list_all is_plain_curve a.curves) s.actions) plain).3

-- an engine whose object at an index is replaced by a plain one, and marked
stands-set : (s : SceneRecord) (marks : List Bool) (worlds : List Transform) (last : Option ℤ) (i : ℕ) (x y : Object) → Stands s marks worlds last → slice_get s.objects i ≡ Some x → is_plain_object y ≡ true → is_scene (record s { objects = slice_set s.objects i y }) ≡ true → Stands (record s { objects = slice_set s.objects i y }) (slice_set marks i true) worlds last
stands-set s marks worlds last i x y st there passes holds =
    let below : i < length s.objects = within-list s.objects i x there in
    let marked : i < length marks = let h = st.marks_length in omega arith in
    record {
      is_scene = holds;
      plain = plain-set s i y st.plain passes;
      next = st.next;
      marks_length = length-set marks i true ∙ st.marks_length ∙ sym (length-set s.objects i y);
      worlds_length = st.worlds_length ∙ sym (length-set s.objects i y);
      kept = λ frame is index o at unset.
          let go : (b : Bool) → (i == index) ≡ b → slice_get worlds index ≡ Some (plain_world s frame o) = λ b. elim b as (λ b. (i == index) ≡ b → slice_get worlds index ≡ Some (plain_world s frame o)) [
            | true ↦ λ e. let same : i ≡ index = grind (arith, nat_tests) in let on = slice_get-set_same marks i true marked in cc
            | false ↦ λ e. st.kept frame is index o (sym (slice_get-set_other s.objects i index y e) ∙ at) (sym (slice_get-set_other marks i index true e) ∙ unset)
          ] in
          go (i == index) refl;
    }

-- an engine after an edit of an object's location
stands-located : (s : SceneRecord) (marks : List Bool) (worlds : List Transform) (last : Option ℤ) (channel : Channel) (value : ℤ) (r : Option ℕ) → Stands s marks worlds last → is_location channel ≡ true
    → is_scene (record s { objects = option_map_or (λ i. update_at (λ o. record o { own = with_channel o.own channel value }) i s.objects) r s.objects }) ≡ true
    → Stands (record s { objects = option_map_or (λ i. update_at (λ o. record o { own = with_channel o.own channel value }) i s.objects) r s.objects }) (with_mark r marks) worlds last
stands-located s marks worlds last channel value None st is holds = st
stands-located s marks worlds last channel value (Some i) st is holds = go (slice_get s.objects i) refl holds
  where
    change : Object → Object
    change o = record o { own = with_channel o.own channel value }

    go : (r : Option Object) → slice_get s.objects i ≡ r
        → is_scene (record s { objects = option_map_or (λ x. slice_set s.objects i (change x)) r s.objects }) ≡ true
        → Stands (record s { objects = option_map_or (λ x. slice_set s.objects i (change x)) r s.objects }) (slice_set marks i true) worlds last
    go None there h = rw (set-past s.objects marks i true st.marks_length there) st
    go (Some x) there h =
        stands-set s marks worlds last i x (change x) st there
        (located x channel value is ∙ list_all-at is_plain_object s.objects i x (plain_objects s st.plain) there) h

-- an engine after an accepted edit
pub stands-edit : (s : SceneRecord) (marks : List Bool) (worlds : List Transform) (last : Option ℤ) (edit : Edit) → Stands s marks worlds last → is_plain_edit edit ≡ true → is_scene (edited s edit) ≡ true → Stands (edited s edit) (with_mark (index_set s edit) marks) worlds last
stands-edit s marks worlds last (SetValue (named.Object name) (Own channel) value) st plain holds =
    stands-located s marks worlds last channel value (position (λ o. same_text o.name name) s.objects) st plain holds
stands-edit s marks worlds last (SetValue (named.Object name) (Bone bone channel) value) st plain holds = cc
stands-edit s marks worlds last (SetValue (named.Object name) (Layer layer axis) value) st plain holds = cc
stands-edit s marks worlds last (SetValue (named.Pencil name) (Own channel) value) st plain holds = st
stands-edit s marks worlds last (SetValue (named.Pencil name) (Bone bone channel) value) st plain holds = cc
stands-edit s marks worlds last (SetValue (named.Pencil name) (Layer layer axis) value) st plain holds = cc
stands-edit s marks worlds last (SetKey action path frame value interp) st plain holds = cc
stands-edit s marks worlds last (DeleteKey action path frame) st plain holds = cc
stands-edit s marks worlds last (SetFlag flag on) st plain holds = cc
stands-edit s marks worlds last (MovePoint pencil drawing stroke point to) st plain holds = cc
stands-edit s marks worlds last (SetLayerKey pencil layer frame drawing) st plain holds = cc
stands-edit s marks worlds last (DeleteLayerKey pencil layer frame) st plain holds = cc
stands-edit s marks worlds last (SetParent object parent) st plain holds = cc
stands-edit s marks worlds last (SetDriver id path driver) st plain holds = cc
stands-edit s marks worlds last (ClearDriver id path) st plain holds = cc
stands-edit s marks worlds last (AddObject name kind) st plain holds = cc
stands-edit s marks worlds last (RemoveObject object) st plain holds = cc
stands-edit s marks worlds last (AddModifier object name viewport render effect) st plain holds = cc
stands-edit s marks worlds last (RemoveModifier object modifier) st plain holds = cc

-- a plain edit keeps what the types of an edit promise
pub plain_is_edit : (edit : Edit) → is_plain_edit edit ≡ true → IsEdit edit
plain_is_edit (SetValue id path value) plain = tt
plain_is_edit (SetKey action path frame value interp) plain = tt
plain_is_edit (DeleteKey action path frame) plain = tt
plain_is_edit (SetFlag flag on) plain = tt
plain_is_edit (MovePoint pencil drawing stroke point to) plain = tt
plain_is_edit (SetLayerKey pencil layer frame drawing) plain = tt
plain_is_edit (DeleteLayerKey pencil layer frame) plain = tt
plain_is_edit (SetParent object parent) plain = tt
plain_is_edit (SetDriver id path driver) plain = cc
plain_is_edit (ClearDriver id path) plain = tt
plain_is_edit (AddObject name kind) plain = tt
plain_is_edit (RemoveObject object) plain = tt
plain_is_edit (AddModifier object name viewport render effect) plain = tt
plain_is_edit (RemoveModifier object modifier) plain = tt
