-- A variable whose kind is one of the two words, and not the one, has the other.
use Rattle.std.proofs.Common.{◌≡◌, ℕ, Bool, true, false, ◌||◌, List, [], ◌∷◌, map, codes, Option, None, Some, unwrap_or, refl}
use Rattle.std.specs.Option.{option_map_or}
use Rattle.serde_json.specs.Data.{Data}
use Rattle.serde_json.specs.Find.{as_str}
use Rattle.rig_scene.specs.Text.{same_text}
use Rattle.rig_scenejson.specs.declared.fault.Cause.TheVariants.{WrongKind, OutOfRange, Missing}
use Rattle.rig_scenejson.specs.declared.fault.Hop.TheVariants as hops
use Rattle.rig_scenejson.specs.declared.member.Member.TheVariants as m
use Rattle.rig_scenejson.specs.Given.{is_kind}
use Rattle.rig_scenejson.specs.Tests.{fault, unless, moved, in_member, first, field, required}
use Rattle.rig_scenejson.specs.Value.{text_of, word_faults, is_among}

by_words : (a b : Bool) → first (map (moved (hops.Member m.Kind)) (unless (a || (b || false)) OutOfRange)) ≡ None → a ≡ false → b ≡ true
by_words a true e p = refl
by_words true false e p = cc
by_words false false e p = cc

by_text : (s : Option (List ℕ))
    → first (map (moved (hops.Member m.Kind)) (option_map_or (λ s. unless (is_among (codes "property" ∷ codes "transform" ∷ []) s) OutOfRange) s (fault WrongKind))) ≡ None
    → same_text (unwrap_or s []) (codes "property") ≡ false → same_text (unwrap_or s []) (codes "transform") ≡ true
by_text None e p = cc
by_text (Some t) e p = by_words (same_text t (codes "property")) (same_text t (codes "transform")) e p

by_member : (r : Option Data)
    → first (in_member m.Kind (option_map_or (word_faults (is_among (codes "property" ∷ codes "transform" ∷ []))) r (fault Missing))) ≡ None
    → same_text (option_map_or text_of r []) (codes "property") ≡ false → same_text (option_map_or text_of r []) (codes "transform") ≡ true
by_member None e p = cc
by_member (Some v) e p = by_text (as_str v) e p

pub other_kind : (d : Data) → first (required m.Kind (word_faults (is_among (codes "property" ∷ codes "transform" ∷ []))) d) ≡ None
    → is_kind (codes "property") d ≡ false → is_kind (codes "transform") d ≡ true
other_kind d e p = by_member (field m.Kind d) e p
