use Rattle.std.proofs.Common.{get_or, None, sym, ap, ◌∙◌}
use Rattle.rig_copies.specs.Copies.{kept_at}
use Rattle.rig_copies.specs.Keys.{kept_under}
use Rattle.rig_copies.proofs.Kept.{kept_at-keys}
use Rattle.rig_copies.proofs.copies.Copies.get.Goals as goal

pub returns-in-Some : goal.returns-in-Some
returns-in-Some c =
    c.get.ensures
    ∙ ap (kept_under c.self.inside.outs) (sym c.in-Some.is ∙ c.key_at.ensures ∙ ap (λ keys. get_or keys c.args.n None) c.as_slice.ensures.value)
    ∙ sym (kept_at-keys c.self.inside.outs c.self.inside.keys.items c.args.n)
    ∙ ap (λ v. kept_at v.kept c.args.n) c.self.view_is

pub returns-in-None : goal.returns-in-None
returns-in-None c =
    ap (kept_under c.self.inside.outs) (sym c.in-None.is ∙ c.key_at.ensures ∙ ap (λ keys. get_or keys c.args.n None) c.as_slice.ensures.value)
    ∙ sym (kept_at-keys c.self.inside.outs c.self.inside.keys.items c.args.n)
    ∙ ap (λ v. kept_at v.kept c.args.n) c.self.view_is
