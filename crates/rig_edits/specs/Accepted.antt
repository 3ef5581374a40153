-- An edit that is accepted: no cause is against it.
use Rattle.std.proofs.Common.{◌≡◌, ℕ, ◌+◌, ◌≤◌, Bool, true, false, Option, Some, None, refl, cond, arith}
use Rattle.std.specs.Prelude.{if◌then◌else◌, nat_le}
use Rattle.std.specs.Option.{option_or}
use Rattle.std.proofs.lemmas.Bool.{leb-true}
use Rattle.rig_scene.specs.Scene.{SceneRecord}
use Rattle.rig_edits.specs.declared.cause.EditCause.{EditCause}
use Rattle.rig_edits.specs.declared.cause.EditCause.TheVariants.{UnknownId, WrongKind, UnknownPath, UnknownPart, OutOfRange, Duplicate, Absent, InUse, Full}
use Rattle.rig_edits.specs.declared.edit.Edit.{Edit}
use Rattle.rig_edits.specs.Conditions.{unknown_id, wrong_kind, unknown_path, unknown_part, out_of_range, duplicate, absent, in_use, full, full_at, when, first_cause}

-- none of the conditions of a refusal holds
pub record Accepted (s : SceneRecord) (edit : Edit) : Type 0 where
  pub id_is_known : unknown_id s edit ≡ false
  pub kind_is_right : wrong_kind s edit ≡ false
  pub path_is_known : unknown_path s edit ≡ false
  pub part_is_known : unknown_part s edit ≡ false
  pub is_in_range : out_of_range s edit ≡ false
  pub is_new : duplicate s edit ≡ false
  pub is_present : absent s edit ≡ false
  pub is_unused : in_use s edit ≡ false
  pub has_room : full s edit ≡ None

-- where no cause is answered, the first doesn't hold, and of the others none is answered
no_first : (cause : EditCause) (holds : Bool) (others : Option EditCause) → option_or (when cause holds) others ≡ None
    → (holds ≡ false) × (others ≡ None)
no_first cause true others e = cc
no_first cause false others e = (refl, e)

-- they are all that the answer None says
pub accepted : (s : SceneRecord) (edit : Edit) → first_cause s edit ≡ None → Accepted s edit
accepted s edit none =
    let a = no_first UnknownId (unknown_id s edit) _ none in
    let b = no_first WrongKind (wrong_kind s edit) _ a.1 in
    let c = no_first UnknownPath (unknown_path s edit) _ b.1 in
    let d = no_first UnknownPart (unknown_part s edit) _ c.1 in
    let e = no_first OutOfRange (out_of_range s edit) _ d.1 in
    let f = no_first Duplicate (duplicate s edit) _ e.1 in
    let g = no_first Absent (absent s edit) _ f.1 in
    let h = no_first InUse (in_use s edit) _ g.1 in
    record {
      id_is_known = a.0;
      kind_is_right = b.0;
      path_is_known = c.0;
      part_is_known = d.0;
      is_in_range = e.0;
      is_new = f.0;
      is_present = g.0;
      is_unused = h.0;
      has_room = h.1;
    }

-- there is room for so many more where none is refused
pub room_for : (count more limit : ℕ) → full_at count more limit ≡ None → count + more ≤ limit
room_for count more limit e = by (nat_le (count + more) limit) refl e
  where
    by : (b : Bool) → nat_le (count + more) limit ≡ b → (if b then None else Some (Full count limit)) ≡ None → count + more ≤ limit
    by true is none = leb-true _ _ is
    by false is none = cc

-- and for one more, where it doesn't replace another
pub room_unless : (has : Bool) (count limit : ℕ) → count ≤ limit → cond has None (full_at count 1 limit) ≡ None → count + cond has 0 1 ≤ limit
room_unless true count limit most e = omega (arith, most)
room_unless false count limit most e = room_for count 1 limit e
