use Rattle.std.proofs.Common.{◌≡◌, ℕ, ◌<◌, length}
use Rattle.rig_links.proofs.InPlace.{Stands}
use Rattle.rig_links.proofs.places.write_places.Given as goal

abbrev pub invariant-loop-place : goal.invariant-loop-place
invariant-loop-place l = record {
  long : length l.places ≡ length l.initial.places;
  each : (j : ℕ) → j < l.place → Stands l.order l.places j;
}
