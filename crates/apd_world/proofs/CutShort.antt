-- Which steps were made where a start, a flush or a hand-out ended in the midst.
use Rattle.std.proofs.Common.{Result, Ok, Err, ◌≡◌, inl, inr, ℕ, zero, suc, ◌+◌, ◌<◌, ◌≤◌, List, [], ◌∷◌, ◌++◌, length, take, drop, get_or, add-one, refl, sym, ap, subst, ◌∙◌, arith, append_assoc, length-append}
use Rattle.std.specs.Prelude.{OnErr, replicate}
use Rattle.std.proofs.lemmas.List.{append-nil, length-take-le, map-append, replicate_more, take-append-drop}
use Rattle.std.proofs.Math.Seq.{take-suc}
use Rattle.apd_world.proofs.Words.{AreAccepted, AreSafelyMade, Apply, Commit, Conf, Control, DiskModel, Hand, IsRound, IsSafeAtBoth, IsStepMade, IsWorldStep, Radio, RadioModel, Step, Told, World, WorldFault, applies, durable_of, hands, radio_hands, round, rounds}
use Rattle.apd_world.specs.CutShort.{AreAtRadios, AreFirstConfigured, AreOfFlush, AreOfHanding, AreOfStart, AreRoundsOf, AreToRadios, IsAtMost, WereMade}
use Rattle.apd_world.specs.Starting.{AreConfiguring, request_of}
use Rattle.apd_world.proofs.RunLemmas.{AreRounds, applies_push, asked_of, configuring_more, made_then, one_made, rounds_more}

module _ {D R : Type 0} (disk : DiskModel D) (radio : RadioModel R) where
  -- other words for the same steps
  pub weaker_made : (P Q : List Step → Type 0) (a b : World D R) → ((xs : List Step) → P xs → Q xs) → WereMade disk radio P a b → WereMade disk radio Q a b
  weaker_made P Q a b f h = record { steps = h.steps; tolds = h.tolds; are = f h.steps h.are; made = h.made }

  -- others were made before
  pub made_before : (P Q : List Step → Type 0) (xs : List Step) (ts : List Told) (a b c : World D R) → AreSafelyMade disk radio xs ts a b → ((ys : List Step) → P ys → Q (xs ++ ys)) → WereMade disk radio P b c → WereMade disk radio Q a c
  made_before P Q xs ts a b c past f h = record { steps = xs ++ h.steps; tolds = ts ++ h.tolds; are = f h.steps h.are; made = made_then disk radio xs h.steps ts h.tolds a b c past h.made }

  pub on_cut : {A E : Type 0} (P Q : List Step → Type 0) (r : Result A E) (a b c : World D R) → (WereMade disk radio P b c → WereMade disk radio Q a c) → OnErr r (WereMade disk radio P b c) → OnErr r (WereMade disk radio Q a c)
  on_cut P Q (Ok x) a b c f h = h
  on_cut P Q (Err e) a b c f h = f h

-- ---- hand-outs to radios, and what is applied there
pub one_radio_more : (confs : List Conf) (i : ℕ) (d : Conf) (ys : List Step) → i < length confs → IsAtMost (Hand (Radio (get_or confs i d).bssid)) ys → AreToRadios confs (radio_hands (take i confs) ++ ys)
one_radio_more confs i d ys lt (inl none) = (i, ap (λ zs. radio_hands (take i confs) ++ zs) none ∙ append-nil (radio_hands (take i confs)))
one_radio_more confs i d ys lt (inr one) =
    (i + 1, ap (λ zs. radio_hands (take i confs) ++ zs) one ∙ sym (ap (λ n. radio_hands (take n confs)) (add-one i) ∙ ap radio_hands (take-suc confs i d lt) ∙ map-append (λ (conf : Conf). Hand (Radio conf.bssid)) (take i confs) (get_or confs i d ∷ [])))

applies_none : (confs : List Conf) → applies confs [] ≡ []
applies_none [] = refl
applies_none (c ∷ confs) = refl

applies_take : (confs : List Conf) (counts : List ℕ) (n : ℕ) → length counts ≤ n → applies (take n confs) counts ≡ applies confs counts
applies_take confs [] n le = applies_none (take n confs) ∙ sym (applies_none confs)
applies_take [] (k ∷ counts) zero le = refl
applies_take [] (k ∷ counts) (suc n) le = refl
applies_take (c ∷ confs) (k ∷ counts) zero le = absurd (omega (arith, le))
applies_take (c ∷ confs) (k ∷ counts) (suc n) le = ap (λ xs. replicate k (Apply c.bssid) ++ xs) (applies_take confs counts n (omega (arith, le)))

module _ (confs : List Conf) (i : ℕ) (conf : Conf) (counts : List ℕ) (count : ℕ) (lt : i < length confs) (is : conf ≡ get_or confs i conf) (each : length counts ≡ length (take i confs)) where
  abbrev pub so_far : List Step
  so_far = applies (take i confs) counts ++ replicate count (Apply conf.bssid)

  applied_to : (n : ℕ) → applies (take i confs) counts ++ replicate n (Apply conf.bssid) ≡ applies confs (counts ++ n ∷ [])
  applied_to n =
      let more : take (i + 1) confs ≡ take i confs ++ conf ∷ [] = ap (λ m. take m confs) (add-one i) ∙ take-suc confs i conf lt ∙ ap (λ z. take i confs ++ z ∷ []) (sym is) in
      let long = length-append counts (n ∷ []) in
      let short = length-take-le i confs (omega (arith, lt)) in
      sym (applies_push (take i confs) counts conf n each) ∙ ap (λ cs. applies cs (counts ++ n ∷ [])) (sym more)
      ∙ applies_take confs (counts ++ n ∷ []) (i + 1) (omega (arith, long, each, short))

  pub one_applied_more : (ys : List Step) → IsAtMost (Apply conf.bssid) ys → AreAtRadios confs (so_far ++ ys)
  one_applied_more ys (inl none) = (counts ++ count ∷ [], ap (λ zs. so_far ++ zs) none ∙ append-nil so_far ∙ applied_to count)
  one_applied_more ys (inr one) = (
    counts ++ (count + 1) ∷ [],
    ap (λ zs. so_far ++ zs) one ∙ append_assoc (applies (take i confs) counts) (replicate count (Apply conf.bssid)) (Apply conf.bssid ∷ [])
        ∙ ap (λ zs. applies (take i confs) counts ++ zs) (replicate_more count (Apply conf.bssid)) ∙ applied_to (count + 1),
  )

-- ---- the front of a hand-out
pub radios_front : (confs : List Conf) (xs : List Step) → AreToRadios confs xs → AreOfHanding confs xs
radios_front confs xs h =
    let rest = radio_hands (drop h.0 confs) in (
      [],
      rest ++ (applies confs [] ++ Hand Control ∷ []),
      ap (λ zs. zs ++ (rest ++ (applies confs [] ++ Hand Control ∷ []))) h.1 ∙ sym (append_assoc (radio_hands (take h.0 confs)) rest (applies confs [] ++ Hand Control ∷ []))
          ∙ ap (λ zs. zs ++ (applies confs [] ++ Hand Control ∷ [])) (sym (map-append (λ (conf : Conf). Hand (Radio conf.bssid)) (take h.0 confs) (drop h.0 confs)) ∙ ap radio_hands (take-append-drop h.0 confs))
          ∙ sym (append_assoc (radio_hands confs) (applies confs []) (Hand Control ∷ [])),
    )

pub applied_front : (confs : List Conf) (ys : List Step) → AreAtRadios confs ys → AreOfHanding confs (radio_hands confs ++ ys)
applied_front confs ys h = (h.0, Hand Control ∷ [], ap (λ zs. (radio_hands confs ++ zs) ++ Hand Control ∷ []) h.1)

pub control_front : (confs : List Conf) (counts : List ℕ) (ys : List Step) → IsAtMost (Hand Control) ys → AreOfHanding confs ((radio_hands confs ++ applies confs counts) ++ ys)
control_front confs counts ys (inl none) =
    let first = radio_hands confs ++ applies confs counts in
    (counts, Hand Control ∷ [], ap (λ zs. (first ++ zs) ++ Hand Control ∷ []) none ∙ ap (λ zs. zs ++ Hand Control ∷ []) (append-nil first))
control_front confs counts ys (inr one) =
    let first = radio_hands confs ++ applies confs counts in
    (counts, [], ap (λ zs. (first ++ zs) ++ []) one ∙ append-nil (first ++ Hand Control ∷ []))

-- ---- the front of a flush, and of a start
pub rounds_front : (confs : List Conf) (xs : List Step) → AreRoundsOf xs → AreOfFlush confs xs
rounds_front confs xs h = record { calls = h.0; later = []; parts = h.1 ∙ sym (append-nil (rounds h.0)); handing = ([], hands confs [], refl) }

pub handing_front : (confs : List Conf) (calls : List ℕ) (ys : List Step) → AreOfHanding confs ys → AreOfFlush confs (rounds calls ++ ys)
handing_front confs calls ys h = record { calls = calls; later = ys; parts = refl; handing = h }

pub flush_front : (confs : List Conf) (first ys : List Step) → AreConfiguring confs first → AreOfFlush confs ys → AreOfStart confs (first ++ ys)
flush_front confs first ys configuring h = inr (record { first = first; later = ys; parts = refl; configuring = configuring; flush = h })

-- ---- a last round
module _ {D R : Type 0} (disk : DiskModel D) (radio : RadioModel R) where
  pub rounds_made : (answer : Commit) (a b c : World D R) → AreRounds disk radio a b → IsRound disk radio answer b c → WereMade disk radio AreRoundsOf a c
  rounds_made answer a b c before one = record {
    steps = rounds before.calls ++ round one.calls;
    tolds = before.tolds ++ one.tolds;
    are = (before.calls ++ one.calls ∷ [], sym (rounds_more before.calls one.calls));
    made = made_then disk radio (rounds before.calls) (round one.calls) before.tolds one.tolds a b c before.made one.made;
  }

  pub ends_cut : (answer : Commit) (a b c : World D R) → AreRounds disk radio a b → IsRound disk radio answer b c → (r : Result (Unit {0}) WorldFault) → OnErr r (WereMade disk radio AreRoundsOf a c)
  ends_cut answer a b c before one (Ok x) = tt
  ends_cut answer a b c before one (Err fault) = rounds_made answer a b c before one

  -- an interface more is configured, whatever that told
  pub one_configured_more : (all confs : List Conf) (i : ℕ) (d : Conf) (x : Step) (t : Told) (a b c : World D R) → all ≡ confs → i < length all → AreAccepted disk radio (take i all) a b
      → request_of x ≡ asked_of (get_or all i d) → IsWorldStep radio x t b c → IsStepMade disk t (durable_of b) (durable_of c) → IsSafeAtBoth disk (durable_of b) (durable_of c)
      → WereMade disk radio (AreFirstConfigured confs) a c
  one_configured_more all confs i d x t a b c same lt past is step made here = record {
    steps = past.steps ++ x ∷ [];
    tolds = past.tolds ++ t ∷ [];
    are = (i + 1, subst (λ (cs : List Conf). AreConfiguring (take (i + 1) cs) (past.steps ++ x ∷ [])) same (configuring_more all i d past.steps x lt past.configuring is));
    made = made_then disk radio past.steps (x ∷ []) past.tolds (t ∷ []) a b c past.made (one_made disk radio x t b c step made here);
  }
