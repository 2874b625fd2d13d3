-- In which order a driver and a station are told (own): at each radio the driver lets a station go before the station
-- is told that its association is at an end, and takes it in before it is told that it is associated.
use Rattle.std.specs.Prelude.{◌≡◌, ◌⊎◌, ℕ, ◌+◌, List, [], ◌∷◌, ◌++◌}
use Rattle.std.specs.Int.{to_le_bytes, w16}
use Rattle.std.specs.List.{Contains}
use Rattle.apd_base.specs.declared.address.Addr.{Addr}
use Rattle.apd_base.specs.declared.address.Bssid.{Bssid}
use Rattle.apd_base.specs.declared.station.Aid.{Aid}
use Rattle.apd_mlme.specs.declared.decision.Recipient.{Recipient}
use Rattle.apd_mlme.specs.declared.decision.Recipient.TheVariants.{Radio}
use Rattle.apd_mlme.specs.declared.decision.Out.{Out}
use Rattle.apd_mlme.specs.declared.decision.Out.TheVariants.{Install, Remove}
use Rattle.apd_mlme.specs.laws.AssociationEnd.{IsMeant}
use Rattle.apd_mlme.specs.laws.ManagementFrame.{management_frame, disassociation_frame, deauthentication_frame}

-- one out stands before another
abbrev pub Precedes : List (Recipient × Out) → Recipient × Out → Recipient × Out → Type 0
Precedes outs x y = (front behind : List (Recipient × Out)) × (outs ≡ front ++ behind) × Contains front x
    × Contains behind y

-- the driver lets a station go, and then it is told that its association, or its authentication, is at an end
abbrev pub IsLetGoFirst : List (Recipient × Out) → Bssid → Addr → Type 0
IsLetGoFirst outs b a =
    (to : Addr) × IsMeant to a × (reason : ℕ)
    × (Precedes outs (Radio b, Remove a) (disassociation_frame b to reason)
    ⊎ Precedes outs (Radio b, Remove a) (deauthentication_frame b to reason))

-- the driver takes in a station, and then it is told in an association or a reassociation response that it is
-- associated (status 0), under this identifier
abbrev pub IsTakenInFirst : List (Recipient × Out) → Bssid → Addr → Aid → Type 0
IsTakenInFirst outs b a aid =
    (subtype : ℕ) × ((subtype ≡ 1) ⊎ (subtype ≡ 3)) × (rates : List ℕ)
    × Precedes outs (Radio b, Install a aid)
    (management_frame subtype b a
    ((1 ∷ 0 ∷ []) ++ to_le_bytes w16 0 ++ to_le_bytes w16 (32768 + 16384 + aid.number) ++ rates))
