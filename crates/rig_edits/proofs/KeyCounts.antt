-- The numbers of keys that a scene keeps, with one curve or one layer changed.
use Rattle.std.proofs.Common.{◌≡◌, ℕ, ◌+◌, ◌≤◌, Bool, true, false, List, length, slice_get, slice_set, Some, sym, ap, ◌∙◌, arith}
use Rattle.std.specs.Int.{from_bool}
use Rattle.std.specs.Prelude.{IsTrue, sum_by}
use Rattle.rig_scene.specs.declared.action.Action.{Action}
use Rattle.rig_scene.specs.declared.action.Curve.{Curve}
use Rattle.rig_scene.specs.declared.action.Key.{Key}
use Rattle.rig_scene.specs.declared.pencil.Layer.{Layer}
use Rattle.rig_scene.specs.declared.pencil.LayerKey.{LayerKey}
use Rattle.rig_scene.specs.declared.pencil.PencilData.{PencilData}
use Rattle.rig_scene.specs.Scene.{SceneRecord}
use Rattle.rig_scene.specs.WellFormed.{is_scene, key_count, layer_key_count, CountedScene}
use Rattle.rig_edits.specs.Named.{update_at}
use Rattle.rig_edits.specs.Replaced.{map-updated_at, sum_by-same, sum_by-set}

-- what an edit makes of a scene, with as many keys as before
pub still_counted : (s t : SceneRecord) (keys layer_keys : ℕ) → CountedScene s keys layer_keys → IsTrue (is_scene t)
    → key_count t.actions ≡ key_count s.actions → layer_key_count t.pencils ≡ layer_key_count s.pencils → CountedScene t keys layer_keys
still_counted s t keys layer_keys counted is same same_layers = record {
  is_scene = is;
  counts_keys = counted.counts_keys ∙ sym same;
  counts_layer_keys = counted.counts_layer_keys ∙ sym same_layers;
}

-- one key is one more at most
pub one_more : (more : Bool) → from_bool more ≤ 1
one_more true = omega arith
one_more false = omega arith

-- a curve with so many keys more, and so many less
pub keys_put : (actions : List Action) (i j : ℕ) (a : Action) (c : Curve) (keys : List Key) (less more : ℕ) → slice_get actions i ≡ Some a
    → slice_get a.curves j ≡ Some c → length keys + less ≡ length c.keys + more
    → key_count (slice_set actions i (record a { curves = slice_set a.curves j (record c { keys = keys }) })) + less ≡ key_count actions + more
keys_put actions i j a c keys less more at there e =
    sum_by-set (λ (a : Action). sum_by (λ c. length c.keys) a.curves) actions i a (record a { curves = slice_set a.curves j (record c { keys = keys }) }) less more at
    (sum_by-set (λ (c : Curve). length c.keys) a.curves j c (record c { keys = keys }) less more there e)

-- a layer with so many keys more, and so many less
pub layer_keys_put : (pencils : List PencilData) (i j : ℕ) (p : PencilData) (l : Layer) (keys : List LayerKey) (less more : ℕ)
    → slice_get pencils i ≡ Some p → slice_get p.layers j ≡ Some l → length keys + less ≡ length l.keys + more
    → layer_key_count (slice_set pencils i (record p { layers = slice_set p.layers j (record l { keys = keys }) })) + less
    ≡ layer_key_count pencils + more
layer_keys_put pencils i j p l keys less more at there e =
    sum_by-set (λ (p : PencilData). sum_by (λ l. length l.keys) p.layers) pencils i p (record p { layers = slice_set p.layers j (record l { keys = keys }) })
    less more at (sum_by-set (λ (l : Layer). length l.keys) p.layers j l (record l { keys = keys }) less more there e)

-- a sum of what a change keeps
sum_kept : {A : Type 0} (f : A → ℕ) (change : A → A) → ((x : A) → f (change x) ≡ f x) → (i : ℕ) (xs : List A)
    → sum_by f (update_at change i xs) ≡ sum_by f xs
sum_kept f change keeps i xs = sum_by-same f xs (update_at change i xs) (map-updated_at f change keeps i xs)

-- a pencil changed, but for its layers
pub layers_kept : (change : PencilData → PencilData) → ((p : PencilData) → (change p).layers ≡ p.layers) → (i : ℕ) (pencils : List PencilData)
    → layer_key_count (update_at change i pencils) ≡ layer_key_count pencils
layers_kept change keeps = sum_kept (λ (p : PencilData). sum_by (λ l. length l.keys) p.layers) change (λ p. ap (sum_by (λ l. length l.keys)) (keeps p))

-- a layer changed, but for its keys
pub layer_keys_kept : (change : Layer → Layer) → ((l : Layer) → (change l).keys ≡ l.keys) → (i j : ℕ) (pencils : List PencilData)
    → layer_key_count (update_at (λ p. record p { layers = update_at change j p.layers }) i pencils) ≡ layer_key_count pencils
layer_keys_kept change keeps i j =
    sum_kept (λ (p : PencilData). sum_by (λ l. length l.keys) p.layers) (λ p. record p { layers = update_at change j p.layers })
    (λ p. sum_kept (λ (l : Layer). length l.keys) change (λ l. ap length (keeps l)) j p.layers) i
