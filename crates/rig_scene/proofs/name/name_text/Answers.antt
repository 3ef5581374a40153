use Rattle.std.proofs.Common.{◌≡◌, ℕ, ◌<◌, ◌≤◌, List, length, true, false, IsTrue, MatchOption, MatchResult, Result, Ok, Err, arith}
use Rattle.std.proofs.lemmas.Bool.{false_from_ne_true}
use Rattle.std.proofs.lemmas.Bool.Decides.{nat_tests}
use Rattle.std.proofs.lemmas.Str.{IsUtf8-from_is_utf8, is_utf8-from_IsUtf8}
use Rattle.std.specs.List.{list_all}
use Rattle.std.specs.Result.{result_ok}
use Rattle.std.specs.Str.{IsUtf8, is_utf8}
use Rattle.rig_scene.specs.Name.{is_name, is_name_byte}
use Rattle.rig_scene.proofs.name.name_text.Goals as goal

-- few bytes that a name may have are a name where they are UTF-8
is_name-utf8 : (bs : List ℕ) → 0 < length bs → length bs ≤ 63 → list_all is_name_byte bs ≡ true → is_name bs ≡ is_utf8 bs
is_name-utf8 bs some few each = grind (arith, nat_tests)

utf8_found : {T E : Type 0} (bs : List ℕ) (bytes : T → List ℕ) (P : E → Type 0) (r : Result T E) → MatchResult r (λ s. (bytes s ≡ bs) × IsUtf8 bs) (λ e. ¬ (IsUtf8 bs) × P e) → MatchOption (result_ok r) (is_utf8 bs ≡ false) (λ s. (bytes s ≡ bs) × IsTrue (is_utf8 bs))
utf8_found bs bytes P (Ok s) h = (h.0, is_utf8-from_IsUtf8 bs h.1)
utf8_found bs bytes P (Err e) h = false_from_ne_true _ (λ yes. h.0 (IsUtf8-from_is_utf8 bs yes))

pub returns : goal.returns
returns c =
    let bs = c.args.bytes.now in
    let found = utf8_found bs (λ s. s.now) _ _ c.from_utf8.ensures.cases in
    let same = is_name-utf8 bs (grind (arith, nat_tests)) (grind (arith, nat_tests)) (cc) in
    rw (same, c.ok.ensures.value) found
