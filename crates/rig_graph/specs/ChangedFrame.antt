-- A frame whose outputs are changed where something else is there now shows what is there now.
use Rattle.std.specs.Prelude.{slice_get, slice_set, nat_eq, option_map, unwrap_or, Contains, IsSome}
use Rattle.std.specs.List.{All, position}
use Rattle.std.specs.Option.{option_map_or}
use Rattle.std.proofs.Common.{◌≡◌, ◌⊎◌, inl, inr, ℕ, ◌<◌, List, [], ◌∷◌, length, map, get_or, Option, Some, None, refl, sym, ap, ◌∙◌, subst, ⊎_elim, arith}
use Rattle.std.proofs.lemmas.Bool.{cases_order, eqb-true, eq-eqb, false_from_ne_true}
use Rattle.std.proofs.lemmas.List.{length-map, length-set, same_lists}
use Rattle.std.proofs.lemmas.List.Elements.{All-nil, All-cons}
use Rattle.std.proofs.lemmas.List.Quantifiers.{position-Some}
use Rattle.std.proofs.lemmas.Option.{slice_get-map, slice_get-get_or, slice_get_within, get_or_from_slice_get, unwrap_or-slice_get, same_Some}
use Rattle.rig_cut.specs.Positions.{position_at}
use Rattle.rig_cycles.specs.Elements.{element_first, element_later, element_cases, element_none}
use Rattle.rig_flush.specs.Options.{replaced, not_replaced}
use Rattle.rig_graph.specs.declared.frame.Change.{Change}
use Rattle.rig_graph.specs.Parts.{changes_of, changed}
use Rattle.rig_laws.specs.Output.{Output}
use Rattle.rig_scene.specs.Found.{some_slice_get}
use Rattle.rig_scene.specs.Pairs.{NoneTwice}

-- lists that have the same at each place are the same
pub same_places : {X : Type 0} (xs ys : List X) → length xs ≡ length ys → ((i : ℕ) → i < length xs → slice_get xs i ≡ slice_get ys i) → xs ≡ ys
same_places xs ys as_long same =
    same_lists xs ys as_long (λ i d within. sym (unwrap_or-slice_get xs i d) ∙ ap (λ o. unwrap_or o d) (same i within) ∙ unwrap_or-slice_get ys i d)

-- where no number stands twice, the place of one is where it stands
pub place_once : (numbers : List ℕ) → NoneTwice numbers → (n i : ℕ) → slice_get numbers i ≡ Some n → position (nat_eq n) numbers ≡ Some i
place_once numbers once n i at =
    let within = slice_get_within numbers i n at in
    position_at (nat_eq n) numbers i n within (eq-eqb n (get_or numbers i n) (sym (get_or_from_slice_get numbers i n n at)))
    (λ k before. false_from_ne_true (nat_eq n (get_or numbers k n)) (λ t.
    once k i n before within (sym (eqb-true n (get_or numbers k n) t) ∙ sym (get_or_from_slice_get numbers i n n at))))

-- a number stands at its place
pub at_place : (numbers : List ℕ) (n i : ℕ) → position (nat_eq n) numbers ≡ Some i → slice_get numbers i ≡ Some n
at_place numbers n i is =
    let found = position-Some (nat_eq n) numbers i n is in
    slice_get-get_or numbers i n found.0 ∙ ap Some (sym (eqb-true n (get_or numbers i n) found.1))

module _ (shown : List ℕ) (once : NoneTwice shown) (right : ℕ → Option Output) where
  -- outputs show what is right of the shown numbers, but for some
  abbrev Shows : List Output → List ℕ → Type 0
  Shows outs but = (i m : ℕ) → slice_get shown i ≡ Some m → (Contains but m → ⊥) → slice_get outs i ≡ right m

  -- one output more is right
  shows_more : (n : ℕ) (out : Output) (numbers : List ℕ) (outs : List Output) → Some out ≡ right n → length outs ≡ length shown → Shows outs (n ∷ numbers)
      → (place : ℕ) → position (nat_eq n) shown ≡ Some place → Shows (slice_set outs place out) numbers
  shows_more n out numbers outs is as_long before place found i m at others = by (cases_order n m)
    where
      within : i < length outs
      within = subst (λ k. i < k) (sym as_long) (slice_get_within shown i m at)

      same : n ≡ m → slice_get (slice_set outs place out) i ≡ right m
      same e =
          let here : place ≡ i = same_Some place i (sym found ∙ place_once shown once n i (at ∙ ap Some (sym e))) in
          ap (λ k. slice_get (slice_set outs k out) i) here ∙ replaced outs i out within ∙ is ∙ ap right e

      other : (n ≡ m → ⊥) → slice_get (slice_set outs place out) i ≡ right m
      other apart =
          let there = some_slice_get outs i within in
          not_replaced outs place i out there.0 (λ e. apart (same_Some n m (sym (at_place shown n place found) ∙ ap (slice_get shown) (sym e) ∙ at))) there.1
          ∙ sym there.1
          ∙ before i m at (λ listed. ⊎_elim apart others (element_cases n numbers m listed))

      by : (n ≡ m) ⊎ ((n < m) ⊎ (m < n)) → slice_get (slice_set outs place out) i ≡ right m
      by (inl e) = same e
      by (inr apart) = other (λ e. ⊎_elim (λ less. absurd (omega arith)) (λ more. absurd (omega arith)) apart)

  -- each is right after all
  all_shown : (numbers : List ℕ) (results : List Output) → map Some results ≡ map right numbers → (outs : List Output) → length outs ≡ length shown → Shows outs numbers
      → (length (changed outs (changes_of shown numbers results)) ≡ length shown) × Shows (changed outs (changes_of shown numbers results)) []
  all_shown [] results are outs as_long shows = (as_long, λ i m at others. shows i m at others)
  all_shown (n ∷ numbers) [] are outs as_long shows = absurd (cc)
  all_shown (n ∷ numbers) (out ∷ results) are outs as_long shows =
      by (all_shown numbers results later) (position (nat_eq n) shown) refl
    where
      first : Some out ≡ right n
      first = cc

      later : map Some results ≡ map right numbers
      later = cc

      by : ((outs : List Output) → length outs ≡ length shown → Shows outs numbers
          → (length (changed outs (changes_of shown numbers results)) ≡ length shown) × Shows (changed outs (changes_of shown numbers results)) [])
          → (o : Option ℕ) → position (nat_eq n) shown ≡ o
          → (length (changed outs (option_map_or (λ place. record { place = place; out = out } ∷ changes_of shown numbers results) o (changes_of shown numbers results))) ≡ length shown)
          × Shows (changed outs (option_map_or (λ place. record { place = place; out = out } ∷ changes_of shown numbers results) o (changes_of shown numbers results))) []
      by others None none =
          others outs as_long (λ i m at idle. shows i m at (λ listed.
          ⊎_elim (λ e. absurd (let no : None ≡ Some i = sym none ∙ place_once shown once n i (at ∙ ap Some (sym e)) in cc)) idle (element_cases n numbers m listed)))
      by others (Some place) found =
          others (slice_set outs place out) (length-set outs place out ∙ as_long) (shows_more n out numbers outs first as_long shows place found)

  module _ (numbers : List ℕ) (results : List Output) (are : map Some results ≡ map right numbers) (there : ℕ → Option Output) (outs : List Output)
      (showed : map Some outs ≡ map there shown) (others : (m : ℕ) → Contains shown m → (Contains numbers m → ⊥) → there m ≡ right m) where
    abbrev now : List Output
    now = changed outs (changes_of shown numbers results)

    as_long : length outs ≡ length shown
    as_long = sym (length-map outs Some) ∙ ap length showed ∙ length-map shown there

    before : Shows outs numbers
    before i m at idle =
        let out = some_slice_get outs i (subst (λ k. i < k) (sym as_long) (slice_get_within shown i m at)) in
        let same : Some out.0 ≡ there m =
        same_Some (Some out.0) (there m)
        (sym (slice_get-map Some outs i ∙ ap (option_map Some) out.1) ∙ ap (λ l. slice_get l i) showed ∙ slice_get-map there shown i ∙ ap (option_map there) at) in
        out.1 ∙ same ∙ others m (i, slice_get_within shown i m at, get_or_from_slice_get shown i m m at) idle

    after : (length now ≡ length shown) × Shows now []
    after = all_shown numbers results are outs as_long before

    at_each : (i : ℕ) → i < length (map Some now) → slice_get (map Some now) i ≡ slice_get (map right shown) i
    at_each i within =
        let within_now : i < length now = subst (λ k. i < k) (length-map now Some) within in
        let out = some_slice_get now i within_now in
        let m = some_slice_get shown i (subst (λ k. i < k) after.0 within_now) in
        slice_get-map Some now i
        ∙ ap (option_map Some) out.1
        ∙ ap Some (sym out.1 ∙ after.1 i m.0 m.1 (element_none m.0))
        ∙ sym (slice_get-map right shown i ∙ ap (option_map right) m.1)

    -- A frame that showed what is right of all numbers but those that ran shows what is right.
    pub changed_shows : map Some now ≡ map right shown
    changed_shows = same_places (map Some now) (map right shown) (length-map now Some ∙ after.0 ∙ sym (length-map shown right)) at_each

-- each change is of an output that the frame has
pub changes_within : (shown numbers : List ℕ) (results : List Output) → All (λ (c : Change). c.place < length shown) (changes_of shown numbers results)
changes_within shown [] results = All-nil (λ (c : Change). c.place < length shown)
changes_within shown (n ∷ numbers) [] = All-nil (λ (c : Change). c.place < length shown)
changes_within shown (n ∷ numbers) (out ∷ results) = by (changes_within shown numbers results) (position (nat_eq n) shown) refl
  where
    by : All (λ (c : Change). c.place < length shown) (changes_of shown numbers results) → (o : Option ℕ) → position (nat_eq n) shown ≡ o
        → All (λ (c : Change). c.place < length shown) (option_map_or (λ place. record { place = place; out = out } ∷ changes_of shown numbers results) o (changes_of shown numbers results))
    by later None none = later
    by later (Some place) found =
        All-cons (λ (c : Change). c.place < length shown) (record { place = place; out = out }) (changes_of shown numbers results)
        (slice_get_within shown place n (at_place shown n place found)) later
