-- What of a verdict's outs is for one radio.
use Rattle.std.proofs.Common.{◌≡◌, ℕ, Bool, true, false, cond, List, [], ◌∷◌, ◌++◌, refl, sym, ap, ◌∙◌, IsSome, append-nil}
use Rattle.std.specs.Prelude.{filter, map as list_map}
use Rattle.std.specs.List.{flat_map}
use Rattle.apd_mlme.proofs.Words.{Addr, Answer, Bssid, Frame, Install, Out, Radio, Reason, Recipient, Remove, Reply, State, Text, aid_at, bssid_cmp, deauthentication, disassociation, eq_by_cmp, farewell, frames, is_some, outs_of_drop, outs_of_end, outs_to, removal, reply_out, stations_let_go, text, wire}
use Rattle.apd_mlme.proofs.OutsLemmas.{outs_to-append}

-- those that are for this radio, where it is the one of a BSSID
abbrev pub where_it_is : Bssid → Bssid → List Out → List Out
where_it_is c b outs = cond (eq_by_cmp bssid_cmp c b) outs []

module _ (s : State) (b : Bssid) where
  -- a station is let go, where it was associated
  abbrev pub gone_at : Addr → List Out
  gone_at a = cond (is_some (aid_at s b a)) (Remove a ∷ []) []

  -- and is told
  abbrev pub dropped_at : Reason → Addr → List Out
  dropped_at reason a = gone_at a ++ Frame (wire (deauthentication b a reason)) ∷ []

both_there : {X : Type 0} (t : Bool) (xs ys : List X) → cond t xs [] ++ cond t ys [] ≡ cond t (xs ++ ys) []
both_there true xs ys = refl
both_there false xs ys = refl

module _ (c : Bssid) where
  abbrev pub here : List (Recipient × Out) → List Out
  here outs = outs_to (Radio c) outs

  pub sent_at : (reply : Reply) → here (reply_out reply ∷ []) ≡ where_it_is c reply.bssid (Frame (wire reply) ∷ [])
  sent_at reply = elim (eq_by_cmp bssid_cmp c reply.bssid) as (λ t. list_map (λ (z : Recipient × Out). z.1) (cond t (reply_out reply ∷ []) []) ≡ cond t (Frame (wire reply) ∷ []) []) [ true ↦ refl | false ↦ refl ]

  -- behind others
  two_at : (b : Bssid) (xs ys : List (Recipient × Out)) (zs ws : List Out) → here xs ≡ where_it_is c b zs → here ys ≡ where_it_is c b ws → here (xs ++ ys) ≡ where_it_is c b (zs ++ ws)
  two_at b xs ys zs ws first second = outs_to-append (Radio c) xs ys ∙ (λ i. first i ++ second i) ∙ both_there (eq_by_cmp bssid_cmp c b) zs ws

  -- those for several stations
  pub each_at : (b : Bssid) (f : Addr → List (Recipient × Out)) (g : Addr → List Out) → ((a : Addr) → here (f a) ≡ where_it_is c b (g a)) → (as' : List Addr) → here (flat_map f as') ≡ where_it_is c b (flat_map g as')
  each_at b f g is [] = elim (eq_by_cmp bssid_cmp c b) as (λ t. ◌≡◌ {A = List Out} [] (cond t [] [])) [ true ↦ refl | false ↦ refl ]
  each_at b f g is (a ∷ as') = two_at b (f a) (flat_map f as') (g a) (flat_map g as') (is a) (each_at b f g is as')

  -- an answer to a command is for none
  pub answered_at : (tag : ℕ) (answer : Answer) (outs : List (Recipient × Out)) → here (outs ++ text tag answer ∷ []) ≡ here outs
  answered_at tag answer outs = outs_to-append (Radio c) outs (text tag answer ∷ []) ∙ append-nil (here outs)

  module _ (s : State) (b : Bssid) where
    one_at : (a : Addr) → here ((Radio b, Remove a) ∷ []) ≡ where_it_is c b (Remove a ∷ [])
    one_at a = elim (eq_by_cmp bssid_cmp c b) as (λ t. list_map (λ (z : Recipient × Out). z.1) (cond t ((Radio b, Remove a) ∷ []) []) ≡ cond t (Remove a ∷ []) []) [ true ↦ refl | false ↦ refl ]

    none_at : here [] ≡ where_it_is c b []
    none_at = elim (eq_by_cmp bssid_cmp c b) as (λ t. ◌≡◌ {A = List Out} [] (cond t [] [])) [ true ↦ refl | false ↦ refl ]

    pub removal_at : (a : Addr) → here (removal s b a) ≡ where_it_is c b (gone_at s b a)
    removal_at a = elim (is_some (aid_at s b a)) as (λ t. here (cond t ((Radio b, Remove a) ∷ []) []) ≡ where_it_is c b (cond t (Remove a ∷ []) [])) [ true ↦ one_at a | false ↦ none_at ]

    pub drop_at : (reason : Reason) (a : Addr) → here (outs_of_drop s b a reason) ≡ where_it_is c b (dropped_at s b reason a)
    drop_at reason a = two_at b (removal s b a) (reply_out (deauthentication b a reason) ∷ []) (gone_at s b a) (Frame (wire (deauthentication b a reason)) ∷ []) (removal_at a) (sent_at (deauthentication b a reason))

    -- a station that was associated
    module _ (a : Addr) (known : IsSome (aid_at s b a)) where
      pub left_at : here ((Radio b, Remove a) ∷ []) ≡ where_it_is c b (gone_at s b a)
      left_at = one_at a ∙ ap (λ t. where_it_is c b (cond t (Remove a ∷ []) [])) (sym known)

      pub end_at : (reason : Reason) → here (outs_of_end b a reason) ≡ where_it_is c b (gone_at s b a ++ Frame (wire (disassociation b a reason)) ∷ [])
      end_at reason = two_at b ((Radio b, Remove a) ∷ []) (reply_out (disassociation b a reason) ∷ []) (gone_at s b a) (Frame (wire (disassociation b a reason)) ∷ []) left_at (sent_at (disassociation b a reason))

    pub all_at : (as' : List Addr) (reply : Reply) → reply.bssid ≡ b → here (flat_map (removal s b) as' ++ reply_out reply ∷ []) ≡ where_it_is c b (flat_map (gone_at s b) as' ++ Frame (wire reply) ∷ [])
    all_at as' reply is =
        two_at b (flat_map (removal s b) as') (reply_out reply ∷ []) (flat_map (gone_at s b) as') (Frame (wire reply) ∷ []) (each_at b (removal s b) (gone_at s b) removal_at as')
        (sent_at reply ∙ ap (λ x. where_it_is c x (Frame (wire reply) ∷ [])) is)

pub farewell_bssid : (b : Bssid) (to : Addr) (reason : Reason) (t : Bool) → (farewell b to reason t).bssid ≡ b
farewell_bssid b to reason true = refl
farewell_bssid b to reason false = refl

pub farewell_to : (b : Bssid) (to : Addr) (reason : Reason) (t : Bool) → (farewell b to reason t).to ≡ to
farewell_to b to reason true = refl
farewell_to b to reason false = refl

-- ---- whom outs let go, and their frames
pub stations_let_go-append : (xs ys : List Out) → stations_let_go (xs ++ ys) ≡ stations_let_go xs ++ stations_let_go ys
stations_let_go-append [] ys = refl
stations_let_go-append (Remove a ∷ xs) ys = ap (λ zs. a ∷ zs) (stations_let_go-append xs ys)
stations_let_go-append (Install a aid ∷ xs) ys = stations_let_go-append xs ys
stations_let_go-append (Frame bytes ∷ xs) ys = stations_let_go-append xs ys
stations_let_go-append (Text tag bytes ∷ xs) ys = stations_let_go-append xs ys

pub frames-append : (xs ys : List Out) → frames (xs ++ ys) ≡ frames xs ++ frames ys
frames-append [] ys = refl
frames-append (Remove a ∷ xs) ys = frames-append xs ys
frames-append (Install a aid ∷ xs) ys = frames-append xs ys
frames-append (Frame bytes ∷ xs) ys = ap (λ zs. bytes ∷ zs) (frames-append xs ys)
frames-append (Text tag bytes ∷ xs) ys = frames-append xs ys

-- of several stations those that pass are let go
pub stations_let_go-each : (g : Addr → List Out) (p : Addr → Bool) → ((a : Addr) → stations_let_go (g a) ≡ cond (p a) (a ∷ []) []) → (as' : List Addr) → stations_let_go (flat_map g as') ≡ filter p as'
stations_let_go-each g p is [] = refl
stations_let_go-each g p is (a ∷ as') =
    stations_let_go-append (g a) (flat_map g as') ∙ (λ i. is a i ++ stations_let_go-each g p is as' i)
    ∙ elim (p a) as (λ t. cond t (a ∷ []) [] ++ filter p as' ≡ cond t (a ∷ filter p as') (filter p as')) [ true ↦ refl | false ↦ refl ]

-- none of them is sent a frame, or each is sent one
pub frames-none : (g : Addr → List Out) → ((a : Addr) → frames (g a) ≡ []) → (as' : List Addr) → frames (flat_map g as') ≡ []
frames-none g is [] = refl
frames-none g is (a ∷ as') = frames-append (g a) (flat_map g as') ∙ (λ i. is a i ++ frames-none g is as' i)

pub frames-each : (g : Addr → List Out) (f : Addr → List ℕ) → ((a : Addr) → frames (g a) ≡ f a ∷ []) → (as' : List Addr) → frames (flat_map g as') ≡ list_map f as'
frames-each g f is [] = refl
frames-each g f is (a ∷ as') = frames-append (g a) (flat_map g as') ∙ (λ i. is a i ++ frames-each g f is as' i)

-- one station
module _ (s : State) (b : Bssid) (a : Addr) where
  pub gone_let_go : stations_let_go (gone_at s b a) ≡ cond (is_some (aid_at s b a)) (a ∷ []) []
  gone_let_go = elim (is_some (aid_at s b a)) as (λ t. stations_let_go (cond t (Remove a ∷ []) []) ≡ cond t (a ∷ []) []) [ true ↦ refl | false ↦ refl ]

  pub gone_frames : frames (gone_at s b a) ≡ []
  gone_frames = elim (is_some (aid_at s b a)) as (λ t. frames (cond t (Remove a ∷ []) []) ≡ []) [ true ↦ refl | false ↦ refl ]

  -- with a frame behind it
  pub told_let_go : (bytes : List ℕ) → stations_let_go (gone_at s b a ++ Frame bytes ∷ []) ≡ cond (is_some (aid_at s b a)) (a ∷ []) []
  told_let_go bytes = stations_let_go-append (gone_at s b a) (Frame bytes ∷ []) ∙ append-nil (stations_let_go (gone_at s b a)) ∙ gone_let_go

  pub told_frames : (bytes : List ℕ) → frames (gone_at s b a ++ Frame bytes ∷ []) ≡ bytes ∷ []
  told_frames bytes = frames-append (gone_at s b a) (Frame bytes ∷ []) ∙ ap (λ zs. zs ++ bytes ∷ []) gone_frames
