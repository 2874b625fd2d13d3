-- Who comes into the table.
use Rattle.std.proofs.Common.{◌≡◌, suc, Bool, true, false, cond, not, ◌&&◌, List, [], ◌∷◌, Option, Some, None, refl, sym, ap, subst, ◌∙◌, IsSome, arith}
use Rattle.apd_mlme.proofs.Words.{Addr, Aid, All-head, All-tail, AreFromStations, AssociationRequest, Authenticated, BROADCAST, Bssid, Conf, Happening, Heard, IsFromStation, Kind, NoBroadcastRow, State, Station, Verdict, addr_cmp, and_parts, authentication, bssid_cmp, bssids_elsewhere, either, eq_by_cmp, false_from_ne_true, get-retain_keys, is_row_at, is_some, no_value, none_is, option_map, row_of, rows_authenticated_where, run, same_addr, same_bssid, station_at, station_exact, stays, verdict}
use Rattle.std.specs.FinMap as map
use Rattle.apd_mlme.specs.laws.Admission.{Asks, HasAsked}
use Rattle.apd_mlme.specs.rules.Association as rule
use Rattle.apd_mlme.proofs.AssociationLemmas.{cleared, associated_station}
use Rattle.apd_mlme.proofs.EnforcementLemmas.{new}
use Rattle.apd_mlme.proofs.RowLemmas.{is_row, station_put, authenticated_station, row_known}
use Rattle.apd_mlme.proofs.ElsewhereLemmas as elsewhere_laws
use Rattle.apd_mlme.proofs.Shapes as shape
use Rattle.apd_mlme.proofs.Shapes.{Shape, by_shape}

-- no row is new
abbrev NoneIsNew : State → State → Type 0
NoneIsNew s new = (c : Bssid) (d : Addr) → station_at s c d ≡ None → station_at new c d ≡ None

not_put : (t : Bool) (x o : Option Station) → (t ≡ true → IsSome o) → o ≡ None → cond t x o ≡ None
not_put true x o known none = none_is o none (known refl)
not_put false x o known none = none

-- a row that says authenticated was there, and so was one that is kept
turned_new : (s : State) (test : Bssid × Addr → Bool) → NoneIsNew s (record s { stations = rows_authenticated_where test s.stations })
turned_new s test c d none = authenticated_station test s.stations (c, d) ∙ ap (option_map (λ x. cond (test (c, d)) Authenticated x)) none

kept_new : (s : State) (stay : Bssid × Addr → Bool) (c : Bssid) (d : Addr) → station_at s c d ≡ None → map.get (map.retain_keys s.stations stay) (c, d) ≡ None
kept_new s stay c d none = get-retain_keys s.stations stay (c, d) (λ x t. ap stay (sym (station_exact (c, d) x t))) ∙ ap (λ o. cond (stay (c, d)) o None) none ∙ either (stay (c, d)) None

-- ---- association: a station with a row
module _ (s : State) (confs : List Conf) (conf : Conf) (b : Bssid) (kind : Kind) (request : AssociationRequest) where
  abbrev a : Addr
  a = request.sender

  associated_new : IsSome (station_at s b a) → (aid : Aid) → NoneIsNew s (rule.acceptance s confs conf b kind request aid).state
  associated_new known aid c d none =
      associated_station s confs conf b kind request aid c d
      ∙ not_put (is_row b a c d) (Some (row_of request aid)) (station_at (cleared s b a) c d) (λ here. none_is (station_at s c d) none (row_known s b a known c d here)) (turned_new s (λ key. elsewhere_laws.is_bssid_among key.0 (bssids_elsewhere s b a) && eq_by_cmp addr_cmp key.1 a) c d none)

-- ---- any event
module _ (s : State) (confs : List Conf) (c : Bssid) (d : Addr) (none : station_at s c d ≡ None) where
  shape_admits : (h : Happening) (v : Verdict) → Shape s confs h v → IsSome (station_at v.state c d) → Asks c d h
  shape_admits h _ shape.silent = none_is _ none
  shape_admits h _ (shape.told reply there so one named) = none_is _ none
  shape_admits h _ (shape.admitted conf b request there is e) = λ known.
      elim (is_row b request.sender c d) as (λ t. is_row b request.sender c d ≡ t → IsSome (cond t (Some Authenticated) (station_at s c d)) → Asks c d h) [
        | true ↦ λ here _.
            let parts = and_parts (eq_by_cmp bssid_cmp c b) (eq_by_cmp addr_cmp d request.sender) here in
            (request, sym (same_addr request.sender d parts.1), is ∙ ap (λ x. Heard x (authentication request)) (sym (same_bssid b c parts.0)))
        | false ↦ λ _ old. none_is (station_at s c d) none old
      ] refl (subst IsSome (station_put s b request.sender Authenticated c d) known)
  shape_admits h _ (shape.left b a there own known) = none_is _ (turned_new s (is_row_at b a) c d none)
  shape_admits h _ (shape.gone b a there own known) = none_is _ (kept_new s (λ key. not (is_row_at b a key)) c d none)
  shape_admits h _ (shape.ended b a reason there known others) = none_is _ (turned_new s (is_row_at b a) c d none)
  shape_admits h _ (shape.dropped b a reason there known others) = none_is _ (kept_new s (λ key. not (is_row_at b a key)) c d none)
  shape_admits h _ (shape.associated conf b kind request aid there known own asked made) = none_is _ (associated_new s confs conf b kind request known aid c d none)
  shape_admits h _ (shape.emptied b reason deauth there to_all) = none_is _ (kept_new s (λ key. not (eq_by_cmp bssid_cmp b key.0)) c d none)
  shape_admits h _ (shape.enforced b p change l q there makes keep short others needed) = none_is _ (kept_new s (stays (new s b p change l q) b p.mode) c d none)
  shape_admits h _ (shape.started conf b accept deny is first) = none_is _ none

  pub verdict_admits : (h : Happening) → IsSome (station_at (verdict s confs h).state c d) → Asks c d h
  verdict_admits h = by_shape s confs (λ v. IsSome (station_at v.state c d) → Asks c d h) (λ tag answer v asks. asks) h (shape_admits h)

-- ---- runs
module _ (confs : List Conf) (b : Bssid) (a : Addr) where
  asked_now : (h : Happening) (hs : List Happening) → Asks b a h → HasAsked b a (h ∷ hs)
  asked_now h hs asks = (0, h, omega arith, refl, asks)

  asked_later : (h : Happening) (hs : List Happening) → HasAsked b a hs → HasAsked b a (h ∷ hs)
  asked_later h hs asked = (suc asked.0, asked.1, omega (arith, asked.2), asked.3, asked.4)

  pub run_admits : (hs : List Happening) (s : State) → station_at s b a ≡ None → IsSome (station_at (run s confs hs) b a) → HasAsked b a hs
  run_admits [] s none known = none_is (station_at s b a) none known
  run_admits (h ∷ hs) s none known =
      elim (station_at (verdict s confs h).state b a) as (λ o. station_at (verdict s confs h).state b a ≡ o → HasAsked b a (h ∷ hs)) [
        | None ↦ λ later. asked_later h hs (run_admits hs (verdict s confs h).state later known)
        | Some row ↦ λ now. asked_now h hs (verdict_admits s confs b a none h (ap is_some now))
      ] refl

-- ---- the broadcast address
nobody_asks : (b : Bssid) (h : Happening) → IsFromStation h → ¬ (Asks b BROADCAST h)
nobody_asks b h from asks = subst IsFromStation asks.2 from asks.1

pub verdict_broadcast : (s : State) (confs : List Conf) (h : Happening) → IsFromStation h → NoBroadcastRow s → NoBroadcastRow (verdict s confs h).state
verdict_broadcast s confs h from rows b =
    let row = station_at (verdict s confs h).state b BROADCAST in
    no_value row (false_from_ne_true (is_some row) (λ known. nobody_asks b h from (verdict_admits s confs b BROADCAST (rows b) h known)))

pub run_broadcast : (confs : List Conf) (hs : List Happening) (s : State) → AreFromStations hs → NoBroadcastRow s → NoBroadcastRow (run s confs hs)
run_broadcast confs [] s from rows = rows
run_broadcast confs (h ∷ hs) s from rows =
    run_broadcast confs hs (verdict s confs h).state (All-tail IsFromStation h hs from) (verdict_broadcast s confs h (All-head IsFromStation h hs from) rows)
