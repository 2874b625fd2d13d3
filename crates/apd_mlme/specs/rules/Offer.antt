-- What a radio offers, by its configuration.
use Rattle.std.specs.Prelude.{ℕ, Option, Some, None}
use Rattle.apd_conf.specs.declared.hw_mode.HwMode.{HwMode}
use Rattle.apd_conf.specs.declared.hw_mode.HwMode.TheVariants.{A, B, G}
use Rattle.apd_frame.specs.declared.replies.Rates.{Rates}
use Rattle.apd_frame.specs.declared.replies.Rates.TheVariants.{HrDsss, Ofdm}

-- its rates: those of clause 17 at 5 GHz, and those of clause 16 at 2.4 GHz (own)
abbrev pub rates_in : HwMode → Rates
rates_in A = Ofdm
rates_in B = HrDsss
rates_in G = HrDsss

-- its channel, where a DSSS Parameter Set tells it: at 2.4 GHz (IEEE Std 802.11-2016, 9.4.2.4)
abbrev pub channel_in : HwMode → ℕ → Option ℕ
channel_in A channel = None
channel_in B channel = Some channel
channel_in G channel = Some channel
