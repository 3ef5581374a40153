use Rattle.std.proofs.Common.{codes}
use Rattle.serde_json.specs.View.{view}
use Rattle.rig_scriptjson.proofs.Words.{is_not}
use Rattle.rig_scriptjson.proofs.edits.read_members.Goals as goal

-- the word is none of the others
pub returns-in_default : goal.returns-in_default
returns-in_default c =
    let d = view c.args.value.now in
    let s = c.text_at.result.now in
    rw (
      is_not (codes "set") d s c.text_at.ensures c.in_default.not-set,
      is_not (codes "key") d s c.text_at.ensures c.in_default.not-key,
      is_not (codes "unkey") d s c.text_at.ensures c.in_default.not-unkey,
      is_not (codes "flag") d s c.text_at.ensures c.in_default.not-flag,
      is_not (codes "point") d s c.text_at.ensures c.in_default.not-point,
      is_not (codes "hold") d s c.text_at.ensures c.in_default.not-hold,
      is_not (codes "unhold") d s c.text_at.ensures c.in_default.not-unhold,
      is_not (codes "parent") d s c.text_at.ensures c.in_default.not-parent,
      is_not (codes "driver") d s c.text_at.ensures c.in_default.not-driver,
      is_not (codes "undriver") d s c.text_at.ensures c.in_default.not-undriver,
      is_not (codes "add") d s c.text_at.ensures c.in_default.not-add,
      is_not (codes "remove") d s c.text_at.ensures c.in_default.not-remove,
      is_not (codes "modify") d s c.text_at.ensures c.in_default.not-modify,
    )
    c.read_unmodify.ensures
