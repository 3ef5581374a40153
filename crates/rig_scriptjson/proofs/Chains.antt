-- Where no list of several has a fault, their whole has none.
use Rattle.std.proofs.Common.{◌≡◌, List, ◌++◌, None, ap, ◌∙◌}
use Rattle.rig_scenejson.specs.Tests.{first}
use Rattle.rig_scriptjson.proofs.First.{or_first, first_append}

pub none_of_two : {A : Type 0} (xs ys : List A) → first xs ≡ None → first ys ≡ None → first (xs ++ ys) ≡ None
none_of_two xs ys a b = first_append xs ys ∙ ap (λ r. or_first r (first ys)) a ∙ b
