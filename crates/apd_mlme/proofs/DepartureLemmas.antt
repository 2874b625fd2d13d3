-- What is left of a station that leaves, or was silent for too long.
use Rattle.std.proofs.Common.{◌≡◌, cond, [], ◌∷◌, ◌++◌, Option, Some, None, refl, sym, ap, ◌∙◌, IsSome}
use Rattle.apd_mlme.proofs.Words.{Addr, Associated, Authenticated, Bssid, IsAlone, IsDeauthenticated, IsDisassociated, IsSilenced, Radio, Remove, State, Station, aid_at, aid_of, deauthentication_frame, deauthentication_of, disassociation_of, inactivity_of, is_some, none_is, remaining_row, station_at}
use Rattle.apd_mlme.proofs.RowLemmas.{other_row, back, back_other, back_row, out, out_row, out_station}

module _ (s : State) (b : Bssid) (a : Addr) where
  put_back_alone : IsAlone s b a (back s b a)
  put_back_alone = record { others = λ c d other. back_other s b a c d other; lists = refl; policies = refl; cursors = refl }

  dropped_alone : IsAlone s b a (out s b a)
  dropped_alone = record { others = λ c d other. out_station s b a c d ∙ other_row b a c d None (station_at s c d) other; lists = refl; policies = refl; cursors = refl }

  kept_alone : IsAlone s b a s
  kept_alone = record { others = λ c d other. refl; lists = refl; policies = refl; cursors = refl }

  -- a row is one of the three
  unknown : {A : Type 0} → station_at s b a ≡ None → IsSome (station_at s b a) → A
  unknown at known = none_is (station_at s b a) at known

  unassociated : {A : Type 0} → aid_at s b a ≡ None → IsSome (aid_at s b a) → A
  unassociated none known = none_is (aid_at s b a) none known

  pub disassociated : (o : Option Station) → station_at s b a ≡ o → IsSome (station_at s b a) → IsDisassociated s b a (disassociation_of s b a o)
  disassociated None at known = unknown at known
  disassociated (Some Authenticated) at known = record {
    row = at ∙ ap remaining_row (sym at);
    associated = unassociated (ap aid_of at);
    authenticated = λ _. refl;
    alone = kept_alone;
  }
  disassociated (Some (Associated x)) at known = record {
    row = back_row s b a;
    associated = λ _. refl;
    authenticated = λ is. unassociated (ap aid_of is) (ap (λ o. is_some (aid_of o)) at);
    alone = put_back_alone;
  }

  pub deauthenticated : (o : Option Station) → station_at s b a ≡ o → IsDeauthenticated s b a (deauthentication_of s b a o)
  deauthenticated None at = record { row = at; associated = unassociated (ap aid_of at); unassociated = λ _. refl; alone = kept_alone }
  deauthenticated (Some row) at = record {
    row = out_row s b a;
    associated = λ known. ap (λ t. cond t ((Radio b, Remove a) ∷ []) []) known;
    unassociated = λ none. ap (λ o. cond (is_some o) ((Radio b, Remove a) ∷ []) []) none;
    alone = dropped_alone;
  }

  pub silenced : (o : Option Station) → station_at s b a ≡ o → IsSilenced s b a (inactivity_of s b a o)
  silenced None at = record {
    associated = unassociated (ap aid_of at);
    authenticated = λ is. unknown at (ap is_some is);
    unknown = λ _. (at, refl);
    alone = kept_alone;
  }
  silenced (Some Authenticated) at = record {
    associated = unassociated (ap aid_of at);
    authenticated = λ _. (out_row s b a, ap (λ o. cond (is_some (aid_of o)) ((Radio b, Remove a) ∷ []) [] ++ deauthentication_frame b a 2 ∷ []) at);
    unknown = λ none. unknown none (ap is_some at);
    alone = dropped_alone;
  }
  silenced (Some (Associated x)) at = record {
    associated = λ _. (back_row s b a ∙ ap remaining_row at, refl);
    authenticated = λ is. unassociated (ap aid_of is) (ap (λ o. is_some (aid_of o)) at);
    unknown = λ none. unknown none (ap is_some at);
    alone = put_back_alone;
  }
