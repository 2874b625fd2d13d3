-- The fields of what is written.
use Rattle.std.proofs.Common.{◌≡◌, ℕ, ◌*◌, ◌/◌, ◌%◌, ◌^◌, ◌<◌, Option, Some, None, List, [], ◌∷◌, length, refl, arith, lit<}
use Rattle.std.proofs.lemmas.Nat.{from_le_bytes-to_le_bytes_2}
use Rattle.apd_base.specs.declared.station.Aid.{Aid}
use Rattle.apd_frame.specs.declared.codes.Status.{Status}
use Rattle.apd_frame.specs.declared.codes.Status.TheVariants.{Success, RefusedReasonUnspecified, NotSupportedAuthAlgorithm, TransactionSequenceError, DeniedNoMoreStas, DeniedListenIntervalTooLarge}
use Rattle.apd_frame.specs.declared.replies.Reply.{Reply}
use Rattle.apd_frame.specs.declared.replies.ReplyBody.{ReplyBody}
use Rattle.apd_frame.specs.declared.replies.ReplyBody.TheVariants.{Auth, Assoc, Reassoc, Probe, Disassoc, Deauth}
use Rattle.apd_frame.specs.Wire.{wire, subtype_of, status_code, aid_field, HasNumbers, IsReply, Carries, CarriesBody}

-- what holds of six cells holds of a list of length six
for_six : (P : List ℕ → Type 0) → ((a b c d e f : ℕ) → P (a ∷ b ∷ c ∷ d ∷ e ∷ f ∷ [])) → (xs : List ℕ) → length xs ≡ 6 → P xs
for_six P h [] n = absurd (omega arith)
for_six P h (a ∷ []) n = absurd (omega arith)
for_six P h (a ∷ b ∷ []) n = absurd (omega arith)
for_six P h (a ∷ b ∷ c ∷ []) n = absurd (omega arith)
for_six P h (a ∷ b ∷ c ∷ d ∷ []) n = absurd (omega arith)
for_six P h (a ∷ b ∷ c ∷ d ∷ e ∷ []) n = absurd (omega arith)
for_six P h (a ∷ b ∷ c ∷ d ∷ e ∷ f ∷ []) n = h a b c d e f
for_six P h (a ∷ b ∷ c ∷ d ∷ e ∷ f ∷ g ∷ more) n = absurd (omega arith)

status_small : (s : Status) → status_code s < 2 ^ 16
status_small Success = lit< tt
status_small RefusedReasonUnspecified = lit< tt
status_small NotSupportedAuthAlgorithm = lit< tt
status_small TransactionSequenceError = lit< tt
status_small DeniedNoMoreStas = lit< tt
status_small DeniedListenIntervalTooLarge = lit< tt

aid_small : (aid : Option Aid) → aid_field aid < 2 ^ 16
aid_small None = lit< tt
aid_small (Some aid) = let high = aid.high in omega arith

abbrev reply_of : List ℕ → List ℕ → ReplyBody → Reply
reply_of to own b = record { to = record { 0 = to }; bssid = record { 0 = record { 0 = own } }; body = b }

abbrev IsCarried : ReplyBody → List ℕ → List ℕ → Type 0
IsCarried b to own = Carries (wire (reply_of to own b)) (reply_of to own b)

abbrev IsBodyCarried : ReplyBody → List ℕ → List ℕ → Type 0
IsBodyCarried b to own = CarriesBody (wire (reply_of to own b)) b

body_cells : (b : ReplyBody) → HasNumbers b → (t u v w x y g h i j k l : ℕ) → IsBodyCarried b (t ∷ u ∷ v ∷ w ∷ x ∷ y ∷ []) (g ∷ h ∷ i ∷ j ∷ k ∷ l ∷ [])
body_cells (Auth algorithm transaction status) n t u v w x y g h i j k l =
    (refl, from_le_bytes-to_le_bytes_2 algorithm n.0, from_le_bytes-to_le_bytes_2 transaction n.1, from_le_bytes-to_le_bytes_2 (status_code status) (status_small status))
body_cells (Assoc response) n t u v w x y g h i j k l = record {
  capability_at = refl;
  status_at = from_le_bytes-to_le_bytes_2 (status_code response.status) (status_small response.status);
  aid_at = from_le_bytes-to_le_bytes_2 (aid_field response.aid) (aid_small response.aid);
  elements_at = refl;
}
body_cells (Reassoc response) n t u v w x y g h i j k l = record {
  capability_at = refl;
  status_at = from_le_bytes-to_le_bytes_2 (status_code response.status) (status_small response.status);
  aid_at = from_le_bytes-to_le_bytes_2 (aid_field response.aid) (aid_small response.aid);
  elements_at = refl;
}
body_cells (Probe beacon_interval ssid rates channel) n t u v w x y g h i j k l = record {
  timestamp_at = refl;
  beacon_interval_at = from_le_bytes-to_le_bytes_2 beacon_interval n.0;
  capability_at = refl;
  elements_at = refl;
}
body_cells (Disassoc reason) n t u v w x y g h i j k l = (refl, from_le_bytes-to_le_bytes_2 reason.0 n)
body_cells (Deauth reason) n t u v w x y g h i j k l = (refl, from_le_bytes-to_le_bytes_2 reason.0 n)

-- the first octet, of each kind
first_octet : (b : ReplyBody) → (16 * subtype_of b % 4 ≡ 0) × (16 * subtype_of b / 4 % 4 ≡ 0) × (16 * subtype_of b / 16 ≡ subtype_of b)
first_octet (Auth algorithm transaction status) = (refl, refl, refl)
first_octet (Assoc response) = (refl, refl, refl)
first_octet (Reassoc response) = (refl, refl, refl)
first_octet (Probe beacon_interval ssid rates channel) = (refl, refl, refl)
first_octet (Disassoc reason) = (refl, refl, refl)
first_octet (Deauth reason) = (refl, refl, refl)

cells : (b : ReplyBody) → HasNumbers b → (t u v w x y g h i j k l : ℕ) → IsCarried b (t ∷ u ∷ v ∷ w ∷ x ∷ y ∷ []) (g ∷ h ∷ i ∷ j ∷ k ∷ l ∷ [])
cells b n t u v w x y g h i j k l =
    let first = first_octet b in
    record {
      version_zero = first.0;
      management = first.1;
      subtype_at = first.2;
      no_flag = refl;
      no_duration = refl;
      receiver_at = refl;
      sender_at = refl;
      bssid_at = refl;
      no_sequence = refl;
      body_at = body_cells b n t u v w x y g h i j k l;
    }

pub carried : (reply : Reply) → IsReply reply → Carries (wire reply) reply
carried reply h =
    for_six (λ to. IsCarried reply.body to reply.bssid.0.0)
    (λ t u v w x y. for_six (IsCarried reply.body (t ∷ u ∷ v ∷ w ∷ x ∷ y ∷ [])) (cells reply.body h.numbers t u v w x y) reply.bssid.0.0 h.bssid.0)
    reply.to.0 h.to.0
