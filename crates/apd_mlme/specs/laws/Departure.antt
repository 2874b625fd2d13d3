-- What is left of a station that leaves, or is silent for too long (IEEE Std 802.11-2016, 11.3.5.9, 11.3.4.5; 11.3.5.8,
-- 11.3.4.4).
use Rattle.std.specs.Prelude.{◌≡◌, [], ◌∷◌, None, Some, IsSome}
use Rattle.apd_base.specs.declared.address.Addr.{Addr}
use Rattle.apd_base.specs.declared.address.Bssid.{Bssid}
use Rattle.apd_base.specs.declared.station.Station.TheVariants.{Authenticated}
use Rattle.apd_base.specs.State.{State, station_at, aid_at}
use Rattle.apd_mlme.specs.declared.decision.Recipient.TheVariants.{Radio}
use Rattle.apd_mlme.specs.declared.decision.Out.TheVariants.{Remove}
use Rattle.apd_mlme.specs.laws.Association.{remaining_row}
use Rattle.apd_mlme.specs.laws.ManagementFrame.{disassociation_frame, deauthentication_frame}
use Rattle.apd_mlme.specs.Verdict.{Verdict}

-- nobody else's row changes, no list, no policy and no cursor
pub record IsAlone (s : State) (b : Bssid) (a : Addr) (new : State) : Type 0 where
  pub others : (c : Bssid) (d : Addr) → ¬ ((c ≡ b) × (d ≡ a)) → station_at new c d ≡ station_at s c d
  pub lists : new.lists ≡ s.lists
  pub policies : new.policies ≡ s.policies
  pub cursors : new.cursors ≡ s.cursors

-- a station disassociates: it is authenticated at most, and its driver lets it go. It is not told
pub record IsDisassociated (s : State) (b : Bssid) (a : Addr) (v : Verdict) : Type 0 where
  pub row : station_at v.state b a ≡ remaining_row (station_at s b a)
  pub associated : IsSome (aid_at s b a) → v.outs ≡ (Radio b, Remove a) ∷ []
  pub authenticated : station_at s b a ≡ Some Authenticated → v.outs ≡ []
  pub alone : IsAlone s b a v.state

-- a station deauthenticates: it has no row. It is not told either
pub record IsDeauthenticated (s : State) (b : Bssid) (a : Addr) (v : Verdict) : Type 0 where
  pub row : station_at v.state b a ≡ None
  pub associated : IsSome (aid_at s b a) → v.outs ≡ (Radio b, Remove a) ∷ []
  pub unassociated : aid_at s b a ≡ None → v.outs ≡ []
  pub alone : IsAlone s b a v.state

-- a station is silent for too long (own): its association ends with reason 4, and then its authentication with reason 2
pub record IsSilenced (s : State) (b : Bssid) (a : Addr) (v : Verdict) : Type 0 where
  pub associated : IsSome (aid_at s b a)
      → (station_at v.state b a ≡ Some Authenticated) × (v.outs ≡ (Radio b, Remove a) ∷ disassociation_frame b a 4 ∷ [])
  pub authenticated : station_at s b a ≡ Some Authenticated
      → (station_at v.state b a ≡ None) × (v.outs ≡ deauthentication_frame b a 2 ∷ [])
  -- without a row nothing happens
  pub unknown : station_at s b a ≡ None → (station_at v.state b a ≡ None) × (v.outs ≡ [])
  pub alone : IsAlone s b a v.state
