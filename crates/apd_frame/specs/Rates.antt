-- The rates that a radio offers (IEEE Std 802.11-2016, 9.4.2.3).
use Rattle.std.specs.Prelude.{ℕ, ◌+◌, List, [], ◌∷◌, map}
use Rattle.apd_frame.specs.declared.replies.Rates.{Rates}
use Rattle.apd_frame.specs.declared.replies.Rates.TheVariants.{HrDsss, Ofdm}

-- in units of 500 kb/s: 1, 2, 5.5 and 11 Mb/s (clause 16), or 6, 12 and 24 Mb/s (clause 17)
abbrev pub rates_of : Rates → List ℕ
rates_of HrDsss = 2 ∷ 4 ∷ 11 ∷ 22 ∷ []
rates_of Ofdm = 12 ∷ 24 ∷ 48 ∷ []

-- the body of Supported Rates: an octet a rate, whose top bit marks a basic one; all are
abbrev pub rate_octets : Rates → List ℕ
rate_octets rates = map (λ rate. 128 + rate) (rates_of rates)
