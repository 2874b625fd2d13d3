-- What is due is the first silent row.
use Rattle.std.proofs.Common.{◌≡◌, ◌≤◌, ℕ, ◌*◌, true, List, Option, Some, None, ◌↔◌, refl, sym, ap, subst, ◌∙◌}
use Rattle.apd_core.proofs.Words.{Addr, Bssid, Conf, Equal, Greater, LastHeard, Less, Moment, conf_at, due_row, is_due, is_silent_too_long, le-leb, leb-true, option_map, ordering_reverse, silence, station_cmp, station_exact, station_total}
use Rattle.std.specs.List.{find}
use Rattle.std.specs.FinMap as maps
use Rattle.apd_core.specs.Silent.{IsFirstSilent, IsSilent}
use Rattle.apd_core.proofs.Found.{Row, found_entry, none_passes, none_before}

of_configured : (o : Option Conf) (ms : ℕ) → is_silent_too_long o ms ≡ true → (conf : Conf) × (o ≡ Some conf) × (conf.ap_max_inactivity * 1000 ≤ ms)
of_configured None ms h = cc
of_configured (Some conf) ms h = (conf, refl, leb-true (conf.ap_max_inactivity * 1000) ms h)

module _ (confs : List Conf) (now : Moment) (heard : LastHeard) where
  abbrev found : Option Row
  found = find (is_due confs now) (maps.entries heard)

  -- a row passes the test where it is silent for too long, and nowhere else
  is_silent : (k : Bssid × Addr) (last : Moment) → maps.get heard k ≡ Some last → is_due confs now (k, last) ≡ true → IsSilent confs now heard k
  is_silent k last at passes =
      let limit = of_configured (conf_at confs k.0) (silence now last) passes in
      record { last = last; heard_last = at; conf = limit.0; configured = limit.1; long = limit.2 }

  passes : (k : Bssid × Addr) → (silent : IsSilent confs now heard k) → is_due confs now (k, silent.last) ≡ true
  passes k silent = ap (λ o. is_silent_too_long o (silence now silent.last)) silent.configured ∙ le-leb (silent.conf.ap_max_inactivity * 1000) (silence now silent.last) silent.long

  entry : (k : Bssid × Addr) → (silent : IsSilent confs now heard k) → maps.find station_cmp k (maps.entries heard) ≡ Some silent.last
  entry k silent = sym (maps.get-entries heard k) ∙ silent.heard_last

  first_silent : (e : Row) → found ≡ Some e → IsFirstSilent confs now heard e.0
  first_silent e f =
      let is = found_entry (is_due confs now) (maps.entries heard) (maps.entries_sorted heard) e f in
      record {
        silent = is_silent e.0 e.1 (maps.get-entries heard e.0 ∙ is.1) is.0;
        first = λ other less silent. let fails = none_before (is_due confs now) (maps.entries heard) (maps.entries_sorted heard) e f other silent.last (entry other silent) less in let holds = passes other silent in cc;
      }

  none_silent : found ≡ None → (k : Bssid × Addr) → ¬ (IsSilent confs now heard k)
  none_silent f k silent = let fails = none_passes (is_due confs now) (maps.entries heard) f k silent.last (entry k silent) in let holds = passes k silent in cc

  -- no two rows are the first
  one_first : (k q : Bssid × Addr) → IsFirstSilent confs now heard k → IsFirstSilent confs now heard q → k ≡ q
  one_first k q h g =
      elim (station_cmp k q) as (λ r. station_cmp k q ≡ r → k ≡ q) [
        | Less ↦ λ is. absurd (g.first k is h.silent)
        | Equal ↦ λ is. station_exact k q is
        | Greater ↦ λ is. absurd (h.first q (station_total.antisymm q k ∙ ap ordering_reverse is) g.silent)
      ] refl

  due_first : (o : Option Row) → found ≡ o → (row : Bssid × Addr) → (option_map (λ (x : Row). x.0) o ≡ Some row) ↔ IsFirstSilent confs now heard row
  due_first None f row = (λ is. cc, λ first. absurd (none_silent f row first.silent))
  due_first (Some e) f row = (
    λ is. let same : e.0 ≡ row = cc in subst (λ k. IsFirstSilent confs now heard k) same (first_silent e f),
    λ first. ap Some (one_first e.0 row (first_silent e f) first),
  )

  due_none : (o : Option Row) → found ≡ o → (option_map (λ (x : Row). x.0) o ≡ None) ↔ ((row : Bssid × Addr) → ¬ (IsSilent confs now heard row))
  due_none None f = (λ _. none_silent f, λ _. refl)
  due_none (Some e) f = (λ is. cc, λ none. absurd (none e.0 (first_silent e f).silent))

  pub due_is_first : (row : Bssid × Addr) → (due_row confs now heard ≡ Some row) ↔ IsFirstSilent confs now heard row
  due_is_first row = due_first found refl row

  pub due_is_none : (due_row confs now heard ≡ None) ↔ ((row : Bssid × Addr) → ¬ (IsSilent confs now heard row))
  due_is_none = due_none found refl
