-- By the lemmas on a state at which all operations have their values.
use Rattle.rig_flush.specs.PublishedRight.{published_frame, published_is_fresh}
use Rattle.rig_flush.proofs.events.a_published_frame_is_the_scene_from_scratch.Goals as goal

pub returns : goal.returns
returns c = record {
  frame = λ g met right can. published_frame g right can;
  fresh = λ g met right can. published_is_fresh g right can;
}
