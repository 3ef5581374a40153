-- The in-links of an operation in step with its links as reads, and with the reads of quantities that some of them stand for.
use Rattle.std.specs.Prelude.{◌≡◌, ◌⊎◌, suc, ◌&&◌, List, [], ◌∷◌, ◌++◌, map, length, filter, Bool, true, false, IsTrue, Option, Some, None, cond, Contains, All}
use Rattle.std.specs.Option.{option_map_or}
use Rattle.std.specs.List.{flat_map}
use Rattle.std.proofs.Common.{inl, inr, ⊎_elim, refl, ap, subst}
use Rattle.std.proofs.lemmas.List.Elements.{All-nil, All-cons, All-head, All-tail}
use Rattle.rig_cycles.specs.Cut.{Arrow}
use Rattle.rig_cycles.specs.Elements.{element_first, element_later, element_cases, element_none}
use Rattle.rig_scene.specs.declared.operation.OpId.{OpId}
use Rattle.rig_scene.specs.declared.quantity.Read.{Read}
use Rattle.rig_scene.specs.Operations.{InLink, kept_link, operation_of}
use Rattle.rig_laws.specs.LinkArrows.{inner_link, reference_link}

-- a read of a quantity as that of an operation
abbrev pub read_link : OpId → Read → Arrow OpId
read_link op r = record { reader = op; source = operation_of r.source; is_reference = r.reference }

-- Reads of an operation, in-links, and reads of a quantity. A read of the operation is one of the quantity's, or is never
-- cut and of an operation that passes a test.
pub data InStep (op : OpId) (is_cut : Read → Bool) (passes : OpId → Bool) : List (Arrow OpId) → List InLink → List Read → Type 0 where
  nothing : InStep op is_cut passes [] [] []
  other : (source : OpId) → IsTrue (passes source) → {xs : List (Arrow OpId)} → {ls : List InLink} → {rs : List Read} → InStep op is_cut passes xs ls rs → InStep op is_cut passes (inner_link op source ∷ xs) (kept_link source ∷ ls) rs
  reading : (r : Read) → {xs : List (Arrow OpId)} → {ls : List InLink} → {rs : List Read} → InStep op is_cut passes xs ls rs → InStep op is_cut passes (read_link op r ∷ xs) (record { op = operation_of r.source; cut = r.reference && is_cut r } ∷ ls) (r ∷ rs)

module _ (op : OpId) (is_cut : Read → Bool) (passes : OpId → Bool) where
  -- ---- lists in step

  pub step_append : {xs ys : List (Arrow OpId)} {ls ms : List InLink} {rs ts : List Read} → InStep op is_cut passes xs ls rs → InStep op is_cut passes ys ms ts → InStep op is_cut passes (xs ++ ys) (ls ++ ms) (rs ++ ts)
  step_append nothing k = k
  step_append (other source p h) k = other source p (step_append h k)
  step_append (reading r h) k = reading r (step_append h k)

  pub step_others : (sources : List OpId) → All (λ o. IsTrue (passes o)) sources → InStep op is_cut passes (map (inner_link op) sources) (map kept_link sources) []
  step_others [] h = nothing
  step_others (o ∷ os) h = other o (All-head (λ o. IsTrue (passes o)) o os h) (step_others os (All-tail (λ o. IsTrue (passes o)) o os h))

  pub step_reads : (rs : List Read) → InStep op is_cut passes (map (read_link op) rs) (map (λ r. record { op = operation_of r.source; cut = r.reference && is_cut r }) rs) rs
  step_reads [] = nothing
  step_reads (r ∷ rs) = reading r (step_reads rs)

  pub step_each : {X : Type 0} (f : X → List (Arrow OpId)) (g : X → List InLink) (h : X → List Read) → ((x : X) → InStep op is_cut passes (f x) (g x) (h x)) → (xs : List X) → InStep op is_cut passes (flat_map f xs) (flat_map g xs) (flat_map h xs)
  step_each f g h each [] = nothing
  step_each f g h each (x ∷ xs) = step_append (each x) (step_each f g h each xs)

  pub step_option : {X : Type 0} (f : X → List (Arrow OpId)) (g : X → List InLink) (h : X → List Read) → ((x : X) → InStep op is_cut passes (f x) (g x) (h x)) → (o : Option X) → InStep op is_cut passes (option_map_or f o []) (option_map_or g o []) (option_map_or h o [])
  step_option f g h each None = nothing
  step_option f g h each (Some x) = each x

  -- ---- what follows for the reads of the operation

  pub step_readers : {xs : List (Arrow OpId)} {ls : List InLink} {rs : List Read} → InStep op is_cut passes xs ls rs → All (λ a. a.reader ≡ op) xs
  step_readers nothing = All-nil (λ a. a.reader ≡ op)
  step_readers (other source p {xs} h) = All-cons (λ a. a.reader ≡ op) (inner_link op source) xs refl (step_readers h)
  step_readers (reading r {xs} h) = All-cons (λ a. a.reader ≡ op) (read_link op r) xs refl (step_readers h)

  pub step_length : {xs : List (Arrow OpId)} {ls : List InLink} {rs : List Read} → InStep op is_cut passes xs ls rs → length xs ≡ length ls
  step_length nothing = refl
  step_length (other source p h) = ap (λ n. suc n) (step_length h)
  step_length (reading r h) = ap (λ n. suc n) (step_length h)

  -- the in-link of a read, which isn't cut where the read is an inner one
  abbrev pub HasLink : Arrow OpId → List InLink → Type 0
  HasLink a ls = (link : InLink) × Contains ls link × (link.op ≡ a.source) × (a.is_reference ≡ false → link.cut ≡ false)

  later_link : (a : Arrow OpId) (l : InLink) (ls : List InLink) → HasLink a ls → HasLink a (l ∷ ls)
  later_link a l ls h = (h.0, element_later l ls h.0 h.1, h.2, h.3)

  pub step_link : {xs : List (Arrow OpId)} {ls : List InLink} {rs : List Read} → InStep op is_cut passes xs ls rs → (a : Arrow OpId) → Contains xs a → HasLink a ls
  step_link nothing a e = absurd (element_none a e)
  step_link (other source p {xs} {ls} h) a e =
      ⊎_elim
      (λ s. subst (λ a. HasLink a (kept_link source ∷ ls)) s (kept_link source, element_first (kept_link source) ls, refl, λ f. refl))
      (λ c. later_link a (kept_link source) ls (step_link h a c))
      (element_cases (inner_link op source) xs a e)
  step_link (reading r {xs} {ls} h) a e =
      let link : InLink = record { op = operation_of r.source; cut = r.reference && is_cut r } in
      ⊎_elim
      (λ s. subst (λ a. HasLink a (link ∷ ls)) s (link, element_first link ls, refl, λ f. ap (λ b. b && is_cut r) f))
      (λ c. later_link a link ls (step_link h a c))
      (element_cases (read_link op r) xs a e)

  -- a read of the operation is one of the quantity's, or its source passes the test
  abbrev pub IsOne : List Read → Arrow OpId → Type 0
  IsOne rs a = ((r : Read) × Contains rs r × (read_link op r ≡ a)) ⊎ IsTrue (passes a.source)

  later_one : (r : Read) (rs : List Read) (a : Arrow OpId) → IsOne rs a → IsOne (r ∷ rs) a
  later_one r rs a h = ⊎_elim (λ is. inl (is.0, element_later r rs is.0 is.1, is.2)) (λ p. inr p) h

  pub step_source : {xs : List (Arrow OpId)} {ls : List InLink} {rs : List Read} → InStep op is_cut passes xs ls rs → (a : Arrow OpId) → Contains xs a → IsOne rs a
  step_source nothing a e = absurd (element_none a e)
  step_source (other source p {xs} h) a e =
      ⊎_elim (λ s. inr (subst (λ a. IsTrue (passes a.source)) s p)) (λ c. step_source h a c) (element_cases (inner_link op source) xs a e)
  step_source (reading r {xs} {ls} {rs} h) a e =
      ⊎_elim (λ s. inl (r, element_first r rs, s)) (λ c. later_one r rs a (step_source h a c)) (element_cases (read_link op r) xs a e)

  pub step_read : {xs : List (Arrow OpId)} {ls : List InLink} {rs : List Read} → InStep op is_cut passes xs ls rs → (r : Read) → Contains rs r → Contains xs (read_link op r)
  step_read nothing r e = absurd (element_none r e)
  step_read (other source p {xs} h) r e = element_later (inner_link op source) xs (read_link op r) (step_read h r e)
  step_read (reading t {xs} {ls} {rs} h) r e =
      ⊎_elim
      (λ s. subst (λ r. Contains (read_link op t ∷ xs) (read_link op r)) s (element_first (read_link op t) xs))
      (λ c. element_later (read_link op t) xs (read_link op r) (step_read h r c))
      (element_cases t rs r e)

  -- the reads that may be cut are those of the quantity, in order
  pub step_references : {xs : List (Arrow OpId)} {ls : List InLink} {rs : List Read} → InStep op is_cut passes xs ls rs → filter (λ a. a.is_reference) xs ≡ map (read_link op) (filter (λ r. r.reference) rs)
  step_references nothing = refl
  step_references (other source p h) = step_references h
  step_references (reading r {xs} {ls} {rs} h) = by r.reference (step_references h)
    where
      by : (b : Bool) → filter (λ a. a.is_reference) xs ≡ map (read_link op) (filter (λ r. r.reference) rs) → cond b (read_link op r ∷ filter (λ a. a.is_reference) xs) (filter (λ a. a.is_reference) xs) ≡ map (read_link op) (cond b (r ∷ filter (λ r. r.reference) rs) (filter (λ r. r.reference) rs))
      by true e = ap (λ l. read_link op r ∷ l) e
      by false e = e

  -- the in-links that are cut are, in order, those of the quantity's reads that are
  pub step_cuts : {xs : List (Arrow OpId)} {ls : List InLink} {rs : List Read} → InStep op is_cut passes xs ls rs → map (λ link. reference_link op link.op) (filter (λ link. link.cut) ls) ≡ map (λ r. reference_link op (operation_of r.source)) (filter (λ r. r.reference && is_cut r) rs)
  step_cuts nothing = refl
  step_cuts (other source p h) = step_cuts h
  step_cuts (reading r {xs} {ls} {rs} h) = by (r.reference && is_cut r) (step_cuts h)
    where
      link : InLink → Arrow OpId
      link l = reference_link op l.op

      read : Read → Arrow OpId
      read r = reference_link op (operation_of r.source)

      later_links : List InLink
      later_links = filter (λ link. link.cut) ls

      later_reads : List Read
      later_reads = filter (λ r. r.reference && is_cut r) rs

      by : (b : Bool) → map link later_links ≡ map read later_reads → map link (cond b (record { op = operation_of r.source; cut = r.reference && is_cut r } ∷ later_links) later_links) ≡ map read (cond b (r ∷ later_reads) later_reads)
      by true e = ap (λ l. read r ∷ l) e
      by false e = e

  -- the in-links are the reads of the operation, cut where a test says so that agrees on those of the quantity
  pub step_links : (test : Arrow OpId → Bool) → {xs : List (Arrow OpId)} {ls : List InLink} {rs : List Read} → InStep op is_cut passes xs ls rs → ((r : Read) → Contains rs r → test (read_link op r) ≡ is_cut r) → map (λ a. record { op = a.source; cut = a.is_reference && test a }) xs ≡ ls
  step_links test nothing agree = refl
  step_links test (other source p h) agree = ap (λ l. kept_link source ∷ l) (step_links test h agree)
  step_links test (reading r {xs} {ls} {rs} h) agree =
      let rest = step_links test h (λ t e. agree t (element_later r rs t e)) in
      let here = agree r (element_first r rs) in
      λ i. record { op = operation_of r.source; cut = r.reference && here i } ∷ rest i
