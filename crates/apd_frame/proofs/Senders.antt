-- A frame that is not ignored comes from a single station.
use Rattle.std.proofs.Common.{◌≡◌, ◌≢◌, ℕ, Bool, true, false, ◌||◌, List, Option, Some, None, Ok, refl, sym, ◌∙◌, ap}
use Rattle.std.specs.List.{find}
use Rattle.apd_base.specs.declared.address.TheConstants.{BROADCAST}
use Rattle.apd_base.specs.declared.address.Bssid.{Bssid}
use Rattle.apd_frame.specs.declared.kind.Kind.{Kind}
use Rattle.apd_frame.specs.declared.kind.Kind.TheVariants as kind
use Rattle.apd_frame.specs.declared.ignored.Ignored.{Ignored}
use Rattle.apd_frame.specs.declared.ignored.Ignored.TheVariants.{Sender}
use Rattle.apd_frame.specs.Contents.{Contents, sender_of}
use Rattle.apd_frame.specs.Kinds.{kind_of}
use Rattle.apd_frame.specs.Octets.{sender, is_group_address, is_same_address}
use Rattle.apd_frame.specs.Outcome.{holds, reasons, contents_at, unless, outcome}
use Rattle.apd_frame.proofs.FirstReason.{none_holds}

-- a frame of any kind says its sender
sender_at : (k : Kind) (f : List ℕ) → sender_of (contents_at k f) ≡ sender f
sender_at kind.Uplink f = refl
sender_at kind.AssociationRequest f = refl
sender_at kind.ReassociationRequest f = refl
sender_at kind.ProbeRequest f = refl
sender_at kind.Disassociation f = refl
sender_at kind.Authentication f = refl
sender_at kind.Deauthentication f = refl

first_false : (t u : Bool) → ¬ ((t || u) ≡ true) → t ≡ false
first_false true u h = absurd (h refl)
first_false false u h = refl

module _ (f : List ℕ) (own : Bssid) (c : Contents) where
  by_kind : (o : Option Ignored) → find (holds f own) reasons ≡ o → (k : Option Kind) → unless f o k ≡ Ok c → is_group_address (sender_of c) ≡ false
  by_kind (Some reason) e k is = cc
  by_kind None e None is = cc
  by_kind None e (Some k) is =
      let same : contents_at k f ≡ c = cc in
      ap (λ x. is_group_address (sender_of x)) (sym same)
      ∙ ap is_group_address (sender_at k f)
      ∙ first_false (is_group_address (sender f)) (is_same_address (sender f) own.0) (none_holds (holds f own) e Sender)

  pub sender_individual : outcome f own ≡ Ok c → is_group_address (sender_of c) ≡ false
  sender_individual = by_kind (find (holds f own) reasons) refl (kind_of f)

  pub sender_not_broadcast : outcome f own ≡ Ok c → sender_of c ≢ BROADCAST
  sender_not_broadcast is same =
      let individual : is_group_address BROADCAST ≡ false = sym (ap is_group_address same) ∙ sender_individual is in
      cc
