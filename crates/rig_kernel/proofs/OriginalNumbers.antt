-- Eight numbers without drivers and without curves are the original ones.
use Rattle.std.proofs.Common.{◌≡◌, ℕ, List, Option, Some, None, false, refl, sym, ℤ, true≢false}
use Rattle.std.specs.Prelude.{is_some, option_and_then}
use Rattle.rig_scene.specs.declared.channel.Channels.{Channels}
use Rattle.rig_kernel.specs.declared.channel_curves.ChannelCurves.{ChannelCurves}
use Rattle.rig_kernel.specs.ChannelCurves.{channel_curve}
use Rattle.rig_kernel.specs.Driven.{driven_among, channels_from}
use Rattle.rig_laws.specs.Output.{Output}

pub none_of : {X : Type 0} (o : Option X) → is_some o ≡ false → o ≡ None
none_of None e = refl
none_of (Some x) e = absurd (true≢false e)

pub original_from : (curves : Option ChannelCurves) → curves ≡ None → (numbers : List (Option ℤ)) (drivers : ℕ) → drivers ≡ 0 → (inputs : List Output) (original : Channels)
    → original ≡ channels_from (λ channel. option_and_then (λ c. channel_curve c channel) curves) numbers drivers inputs original
unfolding driven_among
original_from curves none numbers drivers zero inputs original =
    λ i. channels_from (λ channel. option_and_then (λ c. channel_curve c channel) (sym none i)) numbers (sym zero i) inputs original
