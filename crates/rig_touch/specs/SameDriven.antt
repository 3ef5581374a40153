-- What equal in-links of an operation in two scenes tell: the same channels are driven.
use Rattle.std.specs.Prelude.{◌≡◌, ◌≤◌, List, [], ◌∷◌, ◌++◌, length, map, Bool, true, false, if◌then◌else◌, All}
use Rattle.std.specs.List.{flat_map}
use Rattle.std.proofs.Common.{refl, ap, arith}
use Rattle.std.proofs.lemmas.List.{length-append}
use Rattle.std.proofs.lemmas.List.Elements.{All-nil, All-cons, All-head, All-tail}
use Rattle.rig_scene.specs.declared.id.AnimId.{AnimId}
use Rattle.rig_scene.specs.declared.operation.OpId.{OpId}
use Rattle.rig_scene.specs.declared.operation.OpId.TheVariants.{Animation, Driver}
use Rattle.rig_scene.specs.declared.path.Path.{Path}
use Rattle.rig_scene.specs.declared.quantity.Quantity.{Quantity}
use Rattle.rig_scene.specs.declared.quantity.Quantity.TheVariants as quantity
use Rattle.rig_scene.specs.declared.quantity.Read.{Read}
use Rattle.rig_scene.specs.Operations.{InLink, kept_link, link_of}
use Rattle.rig_scene.specs.Quantities.{inner_read}
use Rattle.rig_scene.specs.Scene.{SceneRecord}

-- ---- lists that are joined

front_same : {A : Type 0} (xs ys zs ws : List A) → length xs ≡ length ys → xs ++ zs ≡ ys ++ ws → (xs ≡ ys) × (zs ≡ ws)
front_same [] [] zs ws n e = (refl, e)
front_same [] (y ∷ ys) zs ws n e = absurd (omega (arith, n))
front_same (x ∷ xs) [] zs ws n e = absurd (omega (arith, n))
front_same (x ∷ xs) (y ∷ ys) zs ws n e =
    let first : x ≡ y = cc in
    let joined : xs ++ zs ≡ ys ++ ws = cc in
    let rest = front_same xs ys zs ws (omega (arith, n)) joined in
    (λ i. first i ∷ rest.0 i, rest.1)

module _ {X Y : Type 0} (f g : X → List Y) (few : (x : X) → length (f x) ≤ length (g x)) where
  few_in_all : (xs : List X) → length (flat_map f xs) ≤ length (flat_map g xs)
  few_in_all [] = omega arith
  few_in_all (x ∷ xs) = omega (arith, length-append (f x) (flat_map f xs), length-append (g x) (flat_map g xs), few x, few_in_all xs)

  -- where of two functions the one gives no more for any element, and together they give the same, they are the same for each
  pub each_same : (xs : List X) → flat_map f xs ≡ flat_map g xs → All (λ x. f x ≡ g x) xs
  each_same [] e = All-nil (λ x. f x ≡ g x)
  each_same (x ∷ xs) e =
      let count : length (f x) ≡ length (g x) =
      omega (arith, ap length e, length-append (f x) (flat_map f xs), length-append (g x) (flat_map g xs), few x, few_in_all xs) in
      let parts = front_same (f x) (g x) (flat_map f xs) (flat_map g xs) count e in
      All-cons (λ x. f x ≡ g x) x xs parts.0 (each_same xs parts.1)

-- ---- the driven channels among links

-- the path of a driver's channel
abbrev pub driver_path : OpId → List Path
driver_path (Driver id path) = path ∷ []
driver_path op = []

abbrev pub link_paths : InLink → List Path
link_paths link = driver_path link.op

module _ (s : SceneRecord) (q : Quantity) (id : AnimId) where
  pub driven_among : (paths : List Path) → flat_map link_paths (map (link_of s q) (map (λ p. inner_read (quantity.Chan id p)) paths))
      ≡ paths
  driven_among [] = refl
  driven_among (p ∷ paths) = ap (λ ps. p ∷ ps) (driven_among paths)

  no_paths : (rest : List Read) → All (λ r. link_paths (link_of s q r) ≡ []) rest → flat_map link_paths (map (link_of s q) rest) ≡ []
  no_paths [] none = refl
  no_paths (r ∷ rest) none =
      let here = All-head (λ r. link_paths (link_of s q r) ≡ []) r rest none in
      let behind = no_paths rest (All-tail (λ r. link_paths (link_of s q r) ≡ []) r rest none) in
      λ i. here i ++ behind i

  -- where no others of drivers stand behind them
  pub driven_before : (paths : List Path) (rest : List Read) → All (λ r. link_paths (link_of s q r) ≡ []) rest
      → flat_map link_paths (map (link_of s q) (map (λ p. inner_read (quantity.Chan id p)) paths ++ rest)) ≡ paths
  driven_before [] rest none = no_paths rest none
  driven_before (p ∷ paths) rest none = ap (λ ps. p ∷ ps) (driven_before paths rest none)

-- ---- the links of a variable

-- a link to the driver of a channel is none to the animation of its id
pub driven_same : (id : AnimId) (path : Path) (driven other animated : Bool) (first second : Bool)
    → (if driven then record { op = Driver id path; cut = first } ∷ [] else map kept_link (if animated then Animation id ∷ [] else []))
    ≡ (if other then record { op = Driver id path; cut = second } ∷ [] else map kept_link (if animated then Animation id ∷ [] else []))
    → driven ≡ other
driven_same id path true true animated first second e = refl
driven_same id path false false animated first second e = refl
driven_same id path true false true first second e = absurd (let paths = ap (flat_map link_paths) e in cc)
driven_same id path true false false first second e = absurd (let paths = ap (flat_map link_paths) e in cc)
driven_same id path false true true first second e = absurd (let paths = ap (flat_map link_paths) e in cc)
driven_same id path false true false first second e = absurd (let paths = ap (flat_map link_paths) e in cc)

-- a driven channel has at least as many links as one that isn't driven
pub links_few : (id : AnimId) (path : Path) (driven other animated : Bool) (first second : Bool) → (driven ≡ true → other ≡ true)
    → length (if driven then record { op = Driver id path; cut = first } ∷ [] else map kept_link
    (if animated then Animation id ∷ [] else []))
    ≤ length (if other then record { op = Driver id path; cut = second } ∷ [] else map kept_link
    (if animated then Animation id ∷ [] else []))
links_few id path true true animated first second more = omega arith
links_few id path true false animated first second more = absurd (let h = more refl in cc)
links_few id path false true true first second more = omega arith
links_few id path false true false first second more = omega arith
links_few id path false false animated first second more = omega arith
