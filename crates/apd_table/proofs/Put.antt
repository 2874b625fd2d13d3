-- When a state stays sound as a station's row is put.
use Rattle.std.proofs.Common.{◌≡◌, ℕ, ◌+◌, ◌≤◌, false, cond, Option, Some, None, ◌⊎◌, inl, inr, refl, sym, ap, subst, ◌∙◌, IsSome, IfSome, IsTrue}
use Rattle.apd_table.proofs.Words.{Addr, Associated, Authenticated, Bssid, CanPut, MayHave, Sound, State, Station, aid_at, aid_of, allowed, bssid_cmp, bssid_exact, bssid_total, count, eq_by_cmp, get-retain_keys, get_insert_other, get_inserted, is_some, len-insert, one_or_apart, policy_at, put_station, retain_keys-insert_in, retain_keys-insert_out, station_at, station_exact, station_total, stations_of, tied}
use Rattle.std.specs.FinMap as map
use Rattle.apd_table.proofs.Rooms.{room_after, room_before}
use Rattle.apd_base.proofs.Cases.{value_of}

-- an identifier keeps its range by its type
pub aid_range : (o : Option Station) (i : ℕ) → aid_of o ≡ Some i → (1 ≤ i) × (i ≤ 2007)
aid_range None i e = cc
aid_range (Some Authenticated) i e = cc
aid_range (Some (Associated x)) i e = let same : x.aid.number ≡ i = cc in subst (λ n. (1 ≤ n) × (n ≤ 2007)) same (x.aid.low, x.aid.high)

-- the fact for the value that a test found
if_some_at : {A : Type 0} (P : A → Type 0) (o : Option A) (x : A) → IfSome o P → o ≡ Some x → P x
if_some_at P None x h e = cc
if_some_at P (Some y) x h e = let same : y ≡ x = cc in subst P same h

if_some_from : {A : Type 0} (P : A → Type 0) (o : Option A) → ((x : A) → o ≡ Some x → P x) → IfSome o P
if_some_from P None h = tt
if_some_from P (Some y) h = h y refl

-- a row of a BSSID is one of its rows
pub is_some_there : (s : State) (b : Bssid) (a : Addr) → is_some (map.get (stations_of s b) (b, a)) ≡ is_some (station_at s b a)
is_some_there s b a =
    ap is_some (get-retain_keys s.stations (λ k. eq_by_cmp bssid_cmp b k.0) (b, a) (λ x t. ap (λ k. eq_by_cmp bssid_cmp b k.0) (sym (station_exact (b, a) x t)))
    ∙ ap (λ t. cond t (station_at s b a) None) (tied bssid_total bssid_exact b))

module _ (s : State) (b : Bssid) (a : Addr) (v : Station) where
  abbrev new : State
  new = put_station b a v s

  pub put_here : station_at new b a ≡ Some v
  put_here = get_inserted station_total station_exact s.stations (b, a) v

  -- a row of the new state is the one put, or an old one
  abbrev PutCase : Bssid → Addr → Type 0
  PutCase c d = ((c ≡ b) × (d ≡ a) × (station_at new c d ≡ Some v)) ⊎ (station_at new c d ≡ station_at s c d)

  put_case : (c : Bssid) (d : Addr) → PutCase c d
  put_case c d =
      elim (one_or_apart station_total station_exact (c, d) (b, a)) [
        | inl e ↦ inl (ap (λ k. k.0) e, ap (λ k. k.1) e, ap (map.get new.stations) e ∙ put_here)
        | inr ne ↦ inr (get_insert_other station_total station_exact s.stations (b, a) v (c, d) ne)
      ]

  pub count_put_in : count new b ≡ cond (is_some (station_at s b a)) (count s b) (count s b + 1)
  count_put_in =
      ap map.len (retain_keys-insert_in station_total station_exact (λ k. eq_by_cmp bssid_cmp b k.0) s.stations (b, a) v (tied bssid_total bssid_exact b))
      ∙ len-insert station_total (stations_of s b) (b, a) v ∙ ap (λ t. cond t (count s b) (count s b + 1)) (is_some_there s b a)

  pub count_put_out : (c : Bssid) → eq_by_cmp bssid_cmp c b ≡ false → count new c ≡ count s c
  count_put_out c ne = ap map.len (retain_keys-insert_out station_total station_exact (λ k. eq_by_cmp bssid_cmp c k.0) s.stations (b, a) v ne)

  pub sound_put : Sound s → CanPut s b a v → Sound new
  sound_put sound can =
      let may : (i : ℕ) → aid_of (Some v) ≡ Some i → MayHave s b a i = λ i e. if_some_at (MayHave s b a) (aid_of (Some v)) i can.identified e in
      let alone : IsSome (aid_of (Some v)) → (c : Bssid) → IsSome (aid_at s c a) → b ≡ c = λ h c k. (let x = value_of _ h in (may x.0 x.1).alone c k) in
      record {
        identifiers = λ c d i h. aid_range (station_at new c d) i h;
        distinct = λ c d e i h k. elim (put_case c d) [
          | inl p ↦ elim (put_case c e) [
            | inl q ↦ p.1 ∙ sym q.1
            | inr q ↦ p.1 ∙ (may i (sym (ap aid_of p.2) ∙ h)).free e (subst (λ x. aid_at s x e ≡ Some i) p.0 (sym (ap aid_of q) ∙ k))
          ]
          | inr p ↦ elim (put_case c e) [
            | inl q ↦ sym (q.1 ∙ (may i (sym (ap aid_of q.2) ∙ k)).free d (subst (λ x. aid_at s x d ≡ Some i) q.0 (sym (ap aid_of p) ∙ h)))
            | inr q ↦ sound.distinct c d e i (sym (ap aid_of p) ∙ h) (sym (ap aid_of q) ∙ k)
          ]
        ];
        one_association = λ c d e h k. elim (put_case c e) [
          | inl p ↦ elim (put_case d e) [
            | inl q ↦ p.0 ∙ sym q.0
            | inr q ↦ p.0 ∙ alone (subst IsSome (ap aid_of p.2) h) d (subst (λ x. IsSome (aid_at s d x)) p.1 (subst IsSome (ap aid_of q) k))
          ]
          | inr p ↦ elim (put_case d e) [
            | inl q ↦ sym (q.0 ∙ alone (subst IsSome (ap aid_of q.2) k) c (subst (λ x. IsSome (aid_at s c x)) q.1 (subst IsSome (ap aid_of p) h)))
            | inr q ↦ sound.one_association c d e (subst IsSome (ap aid_of p) h) (subst IsSome (ap aid_of q) k)
          ]
        ];
        stations_have_policy = λ c d h. elim (put_case c d) [
          | inl p ↦ subst (λ x. IsSome (policy_at s x)) (sym p.0) can.allowed.0
          | inr p ↦ sound.stations_have_policy c d (subst IsSome p h)
        ];
        lists_have_policy = sound.lists_have_policy;
        cursors_have_policy = sound.cursors_have_policy;
        none_denied = λ c d h. elim (put_case c d) [
          | inl p ↦ subst (λ x. IsTrue (allowed s x d)) (sym p.0) (subst (λ x. IsTrue (allowed s b x)) (sym p.1) can.allowed.1)
          | inr p ↦ sound.none_denied c d (subst IsSome p h)
        ];
        few_bss = sound.few_bss;
        few_stations = λ c. elim (one_or_apart bssid_total bssid_exact c b) [
          | inl e ↦ subst (λ x. count new x ≤ 2007) (sym e) (rw count_put_in (room_after (is_some (station_at s b a)) (count s b) 2007 can.room (sound.few_stations b)))
          | inr ne ↦ rw (count_put_out c ne) (sound.few_stations c)
        ];
        few_listed = sound.few_listed;
      }

  some_here : IsSome (station_at new b a)
  some_here = ap is_some put_here

  -- the same the other way
  pub can_put : Sound s → Sound new → CanPut s b a v
  can_put old sound = record {
    identified = if_some_from (MayHave s b a) (aid_of (Some v)) (λ i h.
        let here : aid_at new b a ≡ Some i = ap aid_of put_here ∙ h in
        record {
          free = λ c k. elim (put_case b c) [
            | inl p ↦ sym p.1
            | inr p ↦ sound.distinct b a c i here (ap aid_of p ∙ k)
          ];
          alone = λ c k. elim (put_case c a) [
            | inl p ↦ sym p.0
            | inr p ↦ sound.one_association b c a (ap is_some here) (subst IsSome (sym (ap aid_of p)) k)
          ];
        });
    allowed = (sound.stations_have_policy b a some_here, sound.none_denied b a some_here);
    room = room_before (is_some (station_at s b a)) (count s b) 2007 (rw count_put_in at (sound.few_stations b));
  }
