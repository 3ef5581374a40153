-- The records of a pose, each kept behind those before it unless its bone is there.
use Rattle.std.proofs.Common.{◌≡◌, ℕ, suc, ◌+◌, ◌<◌, Bool, true, false, ◌||◌, List, [], ◌∷◌, ◌++◌, length, map, take, drop, get_or, Option, Some, None, option_map, position, if◌then◌else◌, refl, ap, sym, ◌∙◌, arith}
use Rattle.std.specs.Prelude.{slice_get, unwrap_or, codes}
use Rattle.std.specs.Option.{option_map_or}
use Rattle.std.specs.List.{list_any}
use Rattle.std.proofs.lemmas.Bool.Decides.{nat_tests}
use Rattle.std.proofs.lemmas.List.{at_drop_more, map_more}
use Rattle.std.proofs.lemmas.Option.{unwrap_or-slice_get}
use Rattle.serde_json.specs.Data.{Data}
use Rattle.serde_json.specs.View.{view, items_view}
use Rattle.serde_json.specs.declared.value.Value.{Value}
use Rattle.rig_scene.specs.declared.channel.Channels.{Channels}
use Rattle.rig_scene.specs.Same.{same_text-Decides, same_text-itself}
use Rattle.rig_scene.specs.Text.{same_text}
use Rattle.rig_scenejson.specs.declared.member.Member.TheVariants as m
use Rattle.rig_scenejson.specs.Given.{text_at, is_kind, channels_given, pose_of_bone}
use Rattle.rig_scenejson.specs.Poses.{kept}

-- ---- texts

alike : (x y : Bool) → (x ≡ true → y ≡ true) → (y ≡ true → x ≡ true) → x ≡ y
alike true true f g = refl
alike true false f g = sym (f refl)
alike false true f g = g refl
alike false false f g = refl

turned : (a b : List ℕ) → same_text a b ≡ true → same_text b a ≡ true
turned a b e = ap (λ (x : List ℕ). same_text b x) ((same_text-Decides a b).0 e) ∙ same_text-itself b

same_text_sym : (a b : List ℕ) → same_text a b ≡ same_text b a
same_text_sym a b = alike (same_text a b) (same_text b a) (turned a b) (turned b a)

-- an armature object is no pencil object
pub no_pencil : (d : Data) → is_kind (codes "armature") d ≡ true → is_kind (codes "pencil") d ≡ false
no_pencil d e = ap (λ (x : List ℕ). same_text x (codes "pencil")) ((same_text-Decides (text_at m.Kind d) (codes "armature")).0 e)

-- ---- an index found

position_cons : {A : Type 0} (p : A → Bool) (x : A) (xs : List A) → position p (x ∷ xs) ≡ (if p x then Some 0 else option_map suc (position p xs))
position_cons p x xs = by (p x) refl
  where
    by : (b : Bool) → p x ≡ b → position p (x ∷ xs) ≡ (if b then Some 0 else option_map suc (position p xs))
    by true e = grind (arith, nat_tests)
    by false e = grind (arith, nat_tests)

nowhere : (rest : Channels) (o : Option ℕ) → rest ≡ option_map_or (λ (i : ℕ). unwrap_or (slice_get [] i) rest) o rest
nowhere rest None = refl
nowhere rest (Some i) = refl

further : (c : Channels) (cs : List Channels) (rest : Channels) (o : Option ℕ)
    → option_map_or (λ (i : ℕ). unwrap_or (slice_get cs i) rest) o rest ≡ option_map_or (λ (i : ℕ). unwrap_or (slice_get (c ∷ cs) i) rest) (option_map suc o) rest
further c cs rest None = refl
further c cs rest (Some i) = refl

-- what is kept, by the index of the name
pub kept_position : (ns : List (List ℕ)) (cs : List Channels) (rest : Channels) (bone : List ℕ)
    → kept ns cs rest bone ≡ option_map_or (λ (i : ℕ). unwrap_or (slice_get cs i) rest) (position (same_text bone) ns) rest
kept_position [] cs rest bone = refl
kept_position (n ∷ ns) [] rest bone = nowhere rest (position (same_text bone) (n ∷ ns))
kept_position (n ∷ ns) (c ∷ cs) rest bone = by (same_text bone n) (kept_position ns cs rest bone) ∙ ap (λ (o : Option ℕ). option_map_or (λ (i : ℕ). unwrap_or (slice_get (c ∷ cs) i) rest) o rest) (sym (position_cons (same_text bone) n ns))
  where
    by : (b : Bool) → kept ns cs rest bone ≡ option_map_or (λ (i : ℕ). unwrap_or (slice_get cs i) rest) (position (same_text bone) ns) rest
        → (if b then c else kept ns cs rest bone) ≡ option_map_or (λ (i : ℕ). unwrap_or (slice_get (c ∷ cs) i) rest) (if b then Some 0 else option_map suc (position (same_text bone) ns)) rest
    by true more = refl
    by false more = more ∙ further c cs rest (position (same_text bone) ns)

-- ---- one more record

pub kept_more : (ns : List (List ℕ)) (cs : List Channels) (t : List ℕ) (c rest : Channels) (bone : List ℕ) → length ns ≡ length cs
    → kept (ns ++ t ∷ []) (cs ++ c ∷ []) rest bone ≡ kept ns cs (if same_text t bone then c else rest) bone
kept_more [] [] t c rest bone e = ap (λ (b : Bool). if b then c else rest) (same_text_sym bone t)
kept_more [] (k ∷ cs) t c rest bone e = absurd (omega arith)
kept_more (n ∷ ns) [] t c rest bone e = absurd (omega arith)
kept_more (n ∷ ns) (k ∷ cs) t c rest bone e = ap (λ (x : Channels). if same_text bone n then k else x) (kept_more ns cs t c rest bone (omega arith))

kept_any : (ns : List (List ℕ)) (cs : List Channels) (r s : Channels) (bone : List ℕ) → length ns ≡ length cs → list_any (same_text bone) ns ≡ true → kept ns cs r bone ≡ kept ns cs s bone
kept_any [] cs r s bone e any = absurd cc
kept_any (n ∷ ns) [] r s bone e any = absurd (omega arith)
kept_any (n ∷ ns) (k ∷ cs) r s bone e any = by (same_text bone n) (kept_any ns cs r s bone (omega arith)) any
  where
    by : (b : Bool) → (list_any (same_text bone) ns ≡ true → kept ns cs r bone ≡ kept ns cs s bone) → (b || list_any (same_text bone) ns) ≡ true → (if b then k else kept ns cs r bone) ≡ (if b then k else kept ns cs s bone)
    by true more h = refl
    by false more h = more h

-- a record whose bone is there changes nothing
pub kept_there : (ns : List (List ℕ)) (cs : List Channels) (t : List ℕ) (c rest : Channels) (bone : List ℕ) → length ns ≡ length cs → list_any (same_text t) ns ≡ true
    → kept ns cs rest bone ≡ kept ns cs (if same_text t bone then c else rest) bone
kept_there ns cs t c rest bone e any = by (same_text t bone) refl
  where
    by : (b : Bool) → same_text t bone ≡ b → kept ns cs rest bone ≡ kept ns cs (if b then c else rest) bone
    by true is = kept_any ns cs rest c bone e (ap (λ (x : List ℕ). list_any (same_text x) ns) (sym ((same_text-Decides t bone).0 is)) ∙ any)
    by false is = refl

-- ---- records from an index on

pub pose_step : (i : ℕ) (vs : List Value) (v : Value) (bone : List ℕ) → i < length vs → v ≡ get_or vs i v
    → pose_of_bone (items_view (drop i vs)) bone ≡ (if same_text (text_at m.Bone (view v)) bone then channels_given (view v) else pose_of_bone (items_view (drop (i + 1) vs)) bone)
pose_step i vs v bone inside e =
    at_drop_more (λ (ws : List Value). pose_of_bone (items_view ws) bone) vs i v inside
    ∙ ap (λ (w : Value). if same_text (text_at m.Bone (view w)) bone then channels_given (view w) else pose_of_bone (items_view (drop (i + 1) vs)) bone) (sym e)

pub map_same : {A B : Type 0} (f g : A → B) (xs : List A) → ((x : A) → f x ≡ g x) → map f xs ≡ map g xs
map_same f g [] same = refl
map_same {B = B} f g (x ∷ xs) same = ap (λ (y : B). y ∷ map f xs) (same x) ∙ ap (λ (ys : List B). g x ∷ ys) (map_same f g xs same)

-- one more name of a list
pub name_more : {A : Type 0} (f : List ℕ → A) (names : List (List ℕ)) (i : ℕ) → i < length names → map f (take (i + 1) names) ≡ map f (take i names) ++ f (unwrap_or (slice_get names i) []) ∷ []
name_more f names i inside = map_more f names i [] inside ∙ ap (λ (name : List ℕ). map f (take i names) ++ f name ∷ []) (sym (unwrap_or-slice_get names i []))
