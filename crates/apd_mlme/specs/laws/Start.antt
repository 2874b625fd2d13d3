-- What a start leaves: the rows of its BSSID, and those of the others.
use Rattle.std.specs.Prelude.{◌≡◌, ◌≢◌, ◌↔◌, List, None, Some, IsSome, if◌then◌else◌}
use Rattle.std.specs.List.{Contains}
use Rattle.apd_base.specs.declared.address.Addr.{Addr}
use Rattle.apd_base.specs.declared.address.Bssid.{Bssid}
use Rattle.apd_base.specs.declared.station.Which.{Which}
use Rattle.apd_base.specs.declared.station.Which.TheVariants.{Accept, Deny}
use Rattle.apd_base.specs.Sets.{contains}
use Rattle.apd_base.specs.State.{State, station_at, policy_at, cursor_at, IsListed}
use Rattle.apd_conf.specs.declared.conf.Conf.{Conf}
use Rattle.apd_conf.specs.Conf.{policy_of}
use Rattle.apd_record.specs.Meaning.{none_given}
use Rattle.apd_table.specs.Allowed.{allowed}
use Rattle.apd_mlme.specs.laws.ManagementFrame.{deauthentication_frame}
use Rattle.apd_mlme.specs.Verdict.{Verdict}

pub record IsStarted (s : State) (conf : Conf) (b : Bssid) (accept deny : List Addr) (new : State) : Type 0 where
  -- the policy is the configured one
  pub policy : policy_at new b ≡ Some (policy_of conf)
  -- no identifier was given yet at a first start, and a later one leaves the one that was given last
  pub first_cursor : policy_at s b ≡ None → cursor_at new b ≡ Some none_given
  pub cursor : IsSome (policy_at s b) → cursor_at new b ≡ cursor_at s b
  -- the lists are those that came with the first start
  pub accepted : policy_at s b ≡ None → (a : Addr) → IsListed new b Accept a ↔ Contains accept a
  pub denied : policy_at s b ≡ None → (a : Addr) → IsListed new b Deny a ↔ Contains deny a
  -- and a later start leaves them as they are
  pub stored : IsSome (policy_at s b) → new.lists ≡ s.lists
  -- a station that is not allowed from now on has no row, and any other is as it was
  pub stations : (a : Addr) → station_at new b a ≡ (if allowed new b a then station_at s b a else None)
  -- nothing of another BSSID changes
  pub other_policies : (c : Bssid) → c ≢ b → policy_at new c ≡ policy_at s c
  pub other_cursors : (c : Bssid) → c ≢ b → cursor_at new c ≡ cursor_at s c
  pub other_lists : (c : Bssid) → c ≢ b → (w : Which) (a : Addr)
      → contains new.lists (c, w, a) ≡ contains s.lists (c, w, a)
  pub other_stations : (c : Bssid) → c ≢ b → (a : Addr) → station_at new c a ≡ station_at s c a

-- a station whose row is gone is told so, with reason 1 (IEEE Std 802.11-2016, 11.3.4.4)
abbrev pub AreDroppedTold : State → Bssid → Verdict → Type 0
AreDroppedTold s b v = (a : Addr) → IsSome (station_at s b a) → station_at v.state b a ≡ None
    → Contains v.outs (deauthentication_frame b a 1)
