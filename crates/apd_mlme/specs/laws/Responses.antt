-- The fields of authentication, association and reassociation responses (IEEE Std 802.11-2016, 9.3.3.12, 9.3.3.7 and
-- 9.3.3.9).
use Rattle.std.specs.Prelude.{◌≡◌, ◌≢◌, ℕ, ◌+◌, ◌%◌, List, [], ◌∷◌, ◌++◌, Some}
use Rattle.std.specs.Int.{to_le_bytes, w16}
use Rattle.apd_base.specs.declared.address.Addr.{Addr}
use Rattle.apd_base.specs.declared.address.Bssid.{Bssid}
use Rattle.apd_base.specs.State.{State, aid_at}
use Rattle.apd_conf.specs.declared.conf.Conf.{Conf}
use Rattle.apd_frame.specs.Contents.{AssociationRequest}
use Rattle.apd_frame.specs.declared.codes.Status.{Status}
use Rattle.apd_frame.specs.declared.codes.Status.TheVariants.{Success}
use Rattle.apd_frame.specs.declared.received.Authentication.{Authentication}
use Rattle.apd_mlme.specs.declared.decision.Recipient.{Recipient}
use Rattle.apd_mlme.specs.declared.decision.Out.{Out}
use Rattle.apd_mlme.specs.laws.Association as association
use Rattle.apd_mlme.specs.laws.ManagementFrame.{management_frame, code_of, rates_octets}
use Rattle.apd_mlme.specs.laws.Authentication as told
use Rattle.apd_mlme.specs.Verdict.{Verdict}

-- the algorithm of the request, the next number of the exchange, and the status code
abbrev pub authentication_response : Bssid → Authentication → ℕ → Recipient × Out
authentication_response b request code =
    management_frame 11 b request.sender
    (to_le_bytes w16 request.algorithm ++ to_le_bytes w16 ((request.transaction + 1) % 65536)
    ++ to_le_bytes w16 code)

-- it leaves alone, and its status is the one that the request deserves
pub record IsAuthenticationAnswered (s : State) (conf : Conf) (b : Bssid) (request : Authentication)
    (v : Verdict) : Type 0 where
  pub status : Status
  pub deserved : told.IsDeserved s conf b request status
  pub frame : v.outs ≡ authentication_response b request (code_of status) ∷ []

-- the capability ESS (9.4.1.4), the status code, the AID field (9.4.1.8) and the radio's rates
abbrev pub association_response : ℕ → Conf → Bssid → Addr → ℕ → ℕ → Recipient × Out
association_response subtype conf b a code aid_field =
    management_frame subtype b a
    ((1 ∷ 0 ∷ []) ++ to_le_bytes w16 code ++ to_le_bytes w16 aid_field ++ rates_octets conf.hw_mode)

-- it leaves last, and its status is the one that the request deserves
pub record IsAssociationAnswered (subtype : ℕ) (s : State) (conf : Conf) (b : Bssid) (request : AssociationRequest)
    (v : Verdict) : Type 0 where
  pub status : Status
  pub deserved : association.IsDeserved conf request status
  pub aid_field : ℕ
  pub before : List (Recipient × Out)
  pub frame : v.outs ≡ before ++ association_response subtype conf b request.sender (code_of status) aid_field ∷ []
  -- the two top bits and the identifier that the sender has then, or 0
  pub accepted : status ≡ Success
      → (aid : ℕ) × (aid_field ≡ 32768 + 16384 + aid) × (aid_at v.state b request.sender ≡ Some aid)
  pub refused : status ≢ Success → aid_field ≡ 0
