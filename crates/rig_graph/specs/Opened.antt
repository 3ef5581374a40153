-- A graph that opens: its parts, and the state that it is in.
use Rattle.std.specs.Prelude.{Contains, option_map, option_and_then, replicate}
use Rattle.std.specs.List.{position}
use Rattle.std.proofs.Common.{◌≡◌, ℕ, zero, suc, Bool, true, false, cond, List, [], ◌∷◌, length, filter, get_or, Option, Some, None, refl, sym, ap, ◌∙◌, subst}
use Rattle.std.proofs.lemmas.List.{length-replicate}
use Rattle.std.proofs.Math.Path.{fun_ext}
use Rattle.rig_copies.specs.Copies.{kept_at}
use Rattle.rig_copies.specs.Numbers.{kept_at-get_or}
use Rattle.rig_cycles.specs.Elements.{element_first, element_later}
use Rattle.rig_flush.specs.Begun.{one_of_listed}
use Rattle.rig_flush.specs.Graph.{Fresh, opened}
use Rattle.rig_flush.specs.Opened.{opened_is_fresh}
use Rattle.rig_flush.specs.Retag.{is_one_of}
use Rattle.rig_graph.specs.declared.scene_copy.SceneCopy.{SceneCopy}
use Rattle.rig_graph.specs.Parts.{IsCopy, AreParts, record_of}
use Rattle.rig_graph.specs.State.{value_for, state_of}
use Rattle.rig_laws.specs.Lists.{All-elements}
use Rattle.rig_laws.specs.Output.{Output}
use Rattle.rig_links.specs.Numbers.{same_operation}
use Rattle.rig_scene.specs.declared.modifier.Mode.{Mode}
use Rattle.rig_scene.specs.declared.operation.OpId.{OpId}
use Rattle.rig_scene.specs.Operations.{operations}

-- nothing is kept at any number
nothing_kept : (count n : ℕ) → kept_at (replicate count None) n ≡ None
nothing_kept count n = kept_at-get_or (replicate count None) n ∙ nothing count n
  where
    nothing : (count n : ℕ) → get_or {A = Option Output} (replicate count None) n None ≡ None
    nothing zero n = refl
    nothing (suc count) zero = refl
    nothing (suc count) (suc n) = nothing count n

all_kept : {X : Type 0} (p : X → Bool) (xs : List X) → ((x : X) → Contains xs x → p x ≡ true) → filter p xs ≡ xs
all_kept p [] all = refl
all_kept p (x ∷ xs) all =
    ap (λ b. cond b (x ∷ filter p xs) (filter p xs)) (all x (element_first x xs)) ∙ ap (λ l. x ∷ l) (all_kept p xs (λ y listed. all y (element_later x xs y listed)))

module _ (mode : Mode) (c : SceneCopy) (copy : IsCopy c) where
  abbrev nothing : List (Option Output)
  nothing = replicate (length c.nodes) None

  tags_are : filter (is_one_of c.nodes) (operations c.scene) ≡ operations c.scene
  tags_are =
      all_kept (is_one_of c.nodes) (operations c.scene)
      (λ op listed. one_of_listed c.nodes op (subst (λ l. Contains l op) (sym copy.tables.same) listed))

  kept_is : value_for (operations c.scene) nothing ≡ (λ op. None)
  kept_is = fun_ext none
    where
      at : (o : Option ℕ) → option_map (λ (out : Output). out.value) (option_and_then (kept_at nothing) o) ≡ None
      at None = refl
      at (Some n) = ap (option_map (λ (out : Output). out.value)) (nothing_kept (length c.nodes) n)

      none : (op : OpId) → value_for (operations c.scene) nothing op ≡ None
      none op = at (position (same_operation op) (operations c.scene))

  pub opened_state : state_of (record_of mode 0 c c.nodes nothing None) ≡ opened c.scene mode
  opened_state = λ i. record {
    mode = mode;
    version = 0;
    copy = c.scene;
    tags = tags_are i;
    kept = kept_is i;
    published = None;
    running = None;
  }

  pub opened_parts : AreParts mode c c.nodes nothing (length c.nodes) None false
  opened_parts = record {
    copy = copy;
    there = All-elements (Contains c.nodes) c.nodes (λ op listed. listed);
    outputs = λ n out is. absurd (let no : None ≡ Some out = sym (nothing_kept (length c.nodes) n) ∙ is in cc);
    one_each = length-replicate (length c.nodes) None;
    counted = refl;
    of_mode = tt;
    fitting = λ fits. absurd (let no : false ≡ true = fits in cc);
  }

  pub opened_fresh : Fresh (state_of (record_of mode 0 c c.nodes nothing None))
  opened_fresh = subst (λ g. Fresh g) (sym opened_state) (opened_is_fresh c.scene mode)
