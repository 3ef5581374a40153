-- Of two causes, or three, the first in the order of ranks.
use Rattle.std.proofs.Common.{◌≡◌, Bool, true, false, ◌||◌, List, ◌∷◌, Option, None, Some, nat_lt, if◌then◌else◌, refl, sym, ap, ◌∙◌, arith}
use Rattle.std.specs.List.{list_any}
use Rattle.std.proofs.lemmas.Bool.{ltb-true, ltb-false, lt-ltb, le-ltb}
use Rattle.rig_scene.specs.Scene.{SceneRecord}
use Rattle.rig_edits.specs.declared.cause.EditCause.{EditCause}
use Rattle.rig_edits.specs.declared.edit.NewVariable.{NewVariable}
use Rattle.rig_edits.specs.Cause.{rank_of}
use Rattle.rig_edits.specs.Conditions.{lacks_variable, is_variable_wrong, lacks_property, lacks_transform}
use Rattle.rig_edits.specs.DriverCauses.{first_of_four, variable_causes, variables_causes, earlier}

-- ---- the first of the causes of two

pub joined : (a b c d e f g h : Bool) → earlier (first_of_four a b c d) (first_of_four e f g h) ≡ first_of_four (a || e) (b || f) (c || g) (d || h)
joined true b c d true f g h = refl
joined true b c d false true g h = refl
joined true b c d false false true h = refl
joined true b c d false false false true = refl
joined true b c d false false false false = refl
joined false true c d true f g h = refl
joined false true c d false true g h = refl
joined false true c d false false true h = refl
joined false true c d false false false true = refl
joined false true c d false false false false = refl
joined false false true d true f g h = refl
joined false false true d false true g h = refl
joined false false true d false false true h = refl
joined false false true d false false false true = refl
joined false false true d false false false false = refl
joined false false false true true f g h = refl
joined false false false true false true g h = refl
joined false false false true false false true h = refl
joined false false false true false false false true = refl
joined false false false true false false false false = refl
joined false false false false e f g h = refl

-- those of a list of variables
pub variables_causes-cons : (s : SceneRecord) (v : NewVariable) (vs : List NewVariable)
    → variables_causes s (v ∷ vs) ≡ earlier (variable_causes s v) (variables_causes s vs)
variables_causes-cons s v vs =
    sym (joined (lacks_variable s v) (is_variable_wrong s v) (lacks_property s v) (lacks_transform s v)
    (list_any (lacks_variable s) vs) (list_any (is_variable_wrong s) vs) (list_any (lacks_property s) vs) (list_any (lacks_transform s) vs))

-- where there is no first of two, there are none
pub none_of_earlier : (c d : Option EditCause) → earlier c d ≡ None → (c ≡ None) × (d ≡ None)
none_of_earlier None d e = (refl, e)
none_of_earlier (Some c) None e = cc
none_of_earlier (Some c) (Some d) e = by (nat_lt (rank_of d) (rank_of c)) e
  where
    by : (b : Bool) → (if b then Some d else Some c) ≡ None → (Some c ≡ None) × (Some d ≡ None)
    by true e = cc
    by false e = cc

-- ---- the first of three

-- which of two comes first where the comparison is known
chosen : (c d : EditCause) (b : Bool) → nat_lt (rank_of d) (rank_of c) ≡ b → earlier (Some c) (Some d) ≡ (if b then Some d else Some c)
chosen c d b is = ap (λ t. if t then Some d else Some c) is

pub earlier-assoc : (x y z : Option EditCause) → earlier (earlier x y) z ≡ earlier x (earlier y z)
earlier-assoc None y z = refl
earlier-assoc (Some c) None z = refl
earlier-assoc (Some c) (Some d) None = by (nat_lt (rank_of d) (rank_of c))
  where
    by : (b : Bool) → earlier (if b then Some d else Some c) None ≡ (if b then Some d else Some c)
    by true = refl
    by false = refl
earlier-assoc (Some c) (Some d) (Some e) = by (nat_lt (rank_of d) (rank_of c)) refl (nat_lt (rank_of e) (rank_of d)) refl
  where
    by : (p : Bool) → nat_lt (rank_of d) (rank_of c) ≡ p → (q : Bool) → nat_lt (rank_of e) (rank_of d) ≡ q
        → earlier (if p then Some d else Some c) (Some e) ≡ earlier (Some c) (if q then Some e else Some d)
    by true is true more =
        chosen d e true more
        ∙ sym (chosen c e true (lt-ltb (rank_of e) (rank_of c) (omega (arith, ltb-true (rank_of d) (rank_of c) is, ltb-true (rank_of e) (rank_of d) more))))
    by true is false more = chosen d e false more ∙ sym (chosen c d true is)
    by false is true more = refl
    by false is false more =
        chosen c e false (le-ltb (rank_of e) (rank_of c) (omega (arith, ltb-false (rank_of d) (rank_of c) is, ltb-false (rank_of e) (rank_of d) more)))
        ∙ sym (chosen c d false is)
