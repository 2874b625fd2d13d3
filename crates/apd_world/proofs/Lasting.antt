-- What an image that a history keeps says of the stations.
use Rattle.std.proofs.Common.{Bool, true, false, add-one, cond, ◌≡◌, ◌⊎◌, inl, inr, ⊎_elim, ℕ, zero, suc, ◌+◌, ◌-◌, ◌≤◌, ◌<◌, List, [], ◌∷◌, ◌++◌, length, take, Option, Some, None, refl, sym, ap, subst, ◌∙◌, arith}
use Rattle.std.proofs.lemmas.Bool.{cases_eq}
use Rattle.std.proofs.lemmas.List.{length-take-le, take-append-le, take-take}
use Rattle.std.specs.List.{AllByRecursion, Contains, slice_get}
use Rattle.std.specs.Prelude.{◌↔◌, IsSome, IsSomeAnd, IsTrue, filter, map}
use Rattle.apd_base.specs.declared.station.Which.{Which}
use Rattle.apd_frame.specs.declared.replies.ReplyBody.{ReplyBody}
use Rattle.apd_frame.specs.declared.replies.ReplyBody.TheVariants.{Auth, Assoc, Reassoc}
use Rattle.apd_mlme.specs.declared.decision.Out.TheVariants.{Install, Frame, Text}
use Rattle.apd_world.proofs.Words.{Addr, Answer, AreFit, Bssid, Conf, Happening, LastHeard, Out, Radio, Recipient, Shows, Sound, State, aid_at, outs_run, outs_to, run, verdict}
use Rattle.apd_core.proofs.Queues.{all_weaker}
use Rattle.apd_event.specs.Happening.{ListEdit}
use Rattle.apd_mlme.specs.Outs.{is_same}
use Rattle.apd_mlme.specs.declared.command_answer.Answer.TheVariants.{Done, Refused}
use Rattle.apd_event.specs.declared.event.Edit.{Edit}
use Rattle.apd_mlme.specs.laws.Command.{IsAnsweredTo, IsOnAfter}
use Rattle.apd_mlme.specs.rules.{IsFit}
use Rattle.apd_mlme.specs.rules.Commands.{text}
use Rattle.apd_mlme.specs.laws.Outs.{BodyIsTrue, OutIsTrue, OutsAreTrue}
use Rattle.apd_mlme.proofs.TrueOutsLemmas.{all_both, verdict_is_true}
use Rattle.apd_mlme.proofs.VerdictLemmas.{run_sound, stay_end}
use Rattle.apd_base.specs.Sets.{contains}
use Rattle.apd_base.specs.State.{empty_state, station_at, IsListed}
use Rattle.apd_store.specs.Image.{IsCurrent}
use Rattle.apd_world.specs.History.{GoesOn, IsHistory, History, Keeps, after}
use Rattle.apd_world.specs.Lasting.{BodyLasts, Fact, HasAid, HasRow, Holds, IsOff, IsOn, Lasts, OutLasts, OutWasTrue, SaysOtherwise, WasEdited}
use Rattle.apd_world.proofs.Goings.{is_or_not, run-append}

-- a state that an image shows is sound
current_sound : (half other : List ℕ) (gate : ℕ) (s : State) → IsCurrent half other gate s → Sound s
current_sound half other gate s c = subst Sound c.shows.state_is (stay_end c.shows.changes empty_state c.shows.sound)

pub shown_sound : (image : List ℕ) (s : State) → Shows image s → Sound s
shown_sound image s h = ⊎_elim (current_sound h.a h.b h.gate s) (current_sound h.b h.a h.gate s) h.current

-- ---- it stays until something says otherwise
same_or_not : (o : Option ℕ) (n : ℕ) → (o ≡ Some n) ⊎ (¬ (o ≡ Some n))
same_or_not None n = inr (λ is. cc)
same_or_not (Some m) n = ⊎_elim (λ same. inl (ap Some same)) (λ apart. inr (λ is. apart (let both : Some m ≡ Some n = is in cc))) (cases_eq m n)

some_or_not : {T : Type 0} (o : Option T) → IsSome o ⊎ ¬ IsSome o
some_or_not None = inr (λ is. let no : false ≡ true = is in cc)
some_or_not (Some x) = inl refl

on_or_off : (on : Bool) → IsTrue on ⊎ ¬ IsTrue on
on_or_off true = inl refl
on_or_off false = inr (λ is. let no : false ≡ true = is in cc)

off_or_on : (on : Bool) → (¬ IsTrue on) ⊎ ¬ (¬ IsTrue on)
off_or_on true = inr (λ off. off refl)
off_or_on false = inl (λ is. let no : false ≡ true = is in cc)

-- whether it holds
holds_or_not : (fact : Fact) (s : State) → Holds fact s ⊎ ¬ Holds fact s
holds_or_not (HasAid b a aid) s = same_or_not (aid_at s b a) aid
holds_or_not (HasRow b a) s = some_or_not (station_at s b a)
holds_or_not (IsOn b w a) s = on_or_off (contains s.lists (b, w, a))
holds_or_not (IsOff b w a) s = off_or_on (contains s.lists (b, w, a))

module _ (j : History) (fact : Fact) where
  stays : (more n : ℕ) → Holds fact (after j n) → Holds fact (after j (n + more)) ⊎ SaysOtherwise j n (n + more) fact
  stays zero n so = inl (subst (λ m. Holds fact (after j m)) (let same : n ≡ n + 0 = omega arith in same) so)
  stays (suc more) n so = ⊎_elim
      (λ still. ⊎_elim
      (λ end. inl (subst (λ m. Holds fact (after j m)) (let same : n + 1 + more ≡ n + suc more = omega arith in same) end))
      (λ o. inr (record { place = o.place; later = (let l = o.later in omega (arith, l)); within = (let w = o.within in omega (arith, w)); was = o.was; ended = o.ended }))
      (stays more (n + 1) still))
      (λ ended. inr (record { place = n; later = omega arith; within = omega arith; was = so; ended = ended }))
      (holds_or_not fact (after j (n + 1)))

module _ (es : List Happening) (m : LastHeard) (g : Recipient → List Out) (answers : List Answer) (old new : History) (goes : GoesOn es m g answers old new) where
  -- the state after some of what had happened
  after_same : (n : ℕ) → n ≤ length old.happened → after new n ≡ after old n
  after_same n within =
      ap (λ (z : History). after z n) goes.only ∙ ap (run old.first old.confs) (take-append-le n old.happened es within)

  pub lasts : (image : List ℕ) (n : ℕ) (fact : Fact) → IsHistory old → (keeps : Keeps old new image) → n ≤ old.durable → Holds fact (after old n)
      → Lasts new image keeps.front n fact
  lasts image n fact history keeps durable so =
      let d = history.durable in
      let k = keeps.all_durable in
      let more = keeps.front - n in
      let reach : n + more ≡ keeps.front = omega (arith, durable, k) in
      let start = subst (Holds fact) (sym (after_same n (omega (arith, durable, d)))) so in
      record {
        was = start;
        shows = keeps.shows;
        still = subst (λ front. Holds fact (after new front) ⊎ SaysOtherwise new n front fact) reach (stays new fact more n start);
      }

-- ---- what an out says is so
-- those of a list to one recipient
outs_so : (r : Recipient) (s : State) (outs : List (Recipient × Out)) → OutsAreTrue s outs → AllByRecursion (λ out. OutIsTrue s (r, out)) (outs_to r outs)
outs_so r s [] all = tt
outs_so r s (x ∷ outs) all =
    let rest = outs_so r s outs all.1 in
    let P = λ (t : Bool). AllByRecursion (λ out. OutIsTrue s (r, out)) (map (λ (y : Recipient × Out). y.1) (cond t (x ∷ filter (λ y. is_same r y.0) outs) (filter (λ y. is_same r y.0) outs))) in
    elim (is_or_not r x.0) [
      | inl same ↦ elim (is_same r x.0) as P [ true ↦ (subst (λ (q : Recipient). OutIsTrue s (q, x.1)) (sym same) all.0, rest) | false ↦ rest ]
      | inr apart ↦ subst P (sym apart) rest
    ]

all_front : {A : Type 0} (P : A → Type 0) (xs ys : List A) → AllByRecursion P (xs ++ ys) → AllByRecursion P xs
all_front P [] ys all = tt
all_front P (x ∷ xs) ys all = (all.0, all_front P xs ys all.1)

fit_front : (confs : List Conf) (n : ℕ) (hs : List Happening) (s : State) → AreFit s confs hs → AreFit s confs (take n hs)
fit_front confs zero hs s fit = tt
fit_front confs (suc n) [] s fit = tt
fit_front confs (suc n) (h ∷ hs) s fit = (fit.0, fit_front confs n hs (verdict s confs h).state fit.1)

module _ (confs : List Conf) (r : Recipient) where
  abbrev SoIn : State → List Happening → Out → Type 0
  SoIn s hs out = (n : ℕ) × (n < length hs) × OutIsTrue (run s confs (take (n + 1) hs)) (r, out)

  run_so : (hs : List Happening) (s : State) → AreFit s confs hs → Sound s → AllByRecursion (SoIn s hs) (outs_run r s confs hs)
  run_so [] s fit sound = tt
  run_so (h ∷ hs) s fit sound =
      let v = verdict s confs h in
      let after_one = run_sound confs (h ∷ []) s (fit.0, tt) sound in
      all_both (SoIn s (h ∷ hs)) (outs_to r v.outs) (outs_run r v.state confs hs)
      (all_weaker (λ out. OutIsTrue v.state (r, out)) (SoIn s (h ∷ hs)) (λ out so. (0, omega arith, so)) (outs_to r v.outs) (outs_so r v.state v.outs (verdict_is_true s confs sound h)))
      (all_weaker (SoIn v.state hs) (SoIn s (h ∷ hs))
      (λ out t. (let lt = t.1 in (suc t.0, omega (arith, lt), subst (λ m. OutIsTrue (run s confs (take m (h ∷ hs))) (r, out)) (let e : suc (t.0 + 1) ≡ suc t.0 + 1 = omega arith in e) t.2)))
      (outs_run r v.state confs hs) (run_so hs v.state fit.1 after_one))

module _ (j : History) (r : Recipient) (history : IsHistory j) where
  abbrev IsTrueOf : Out → Type 0
  IsTrueOf out = Contains (j.owed r) out ⊎ OutWasTrue j r out

  abbrev durable : List Happening
  durable = take j.durable j.happened

  owed_in : (all rest : List Out) → ((out : Out) → Contains rest out → Contains all out) → AllByRecursion (Contains all) rest
  owed_in all [] within = tt
  owed_in all (out ∷ rest) within = (within out (0, omega arith, refl), owed_in all rest (λ o has. within o (suc has.0, (let lt = has.1 in omega (arith, lt)), has.2)))

  so_of : (out : Out) → SoIn j.confs r j.first durable out → OutWasTrue j r out
  so_of out t =
      let many = length-take-le j.durable j.happened history.durable in
      let lt = t.1 in
      record {
        place = t.0;
        durable = omega (arith, lt, many);
        so = subst (λ hs. OutIsTrue (run j.first j.confs hs) (r, out)) (take-take (t.0 + 1) j.durable j.happened (omega (arith, lt, many))) t.2;
      }

  pub told_so : AllByRecursion IsTrueOf (j.given r)
  told_so =
      let front = history.given r in
      let outs = outs_run r j.first j.confs durable in
      all_front IsTrueOf (j.given r) front.0
      (subst (AllByRecursion IsTrueOf) front.1
      (all_both IsTrueOf (j.owed r) outs
      (all_weaker (Contains (j.owed r)) IsTrueOf (λ out has. inl has) (j.owed r) (owed_in (j.owed r) (j.owed r) (λ o has. has)))
      (all_weaker (SoIn j.confs r j.first durable) IsTrueOf (λ out t. inr (so_of out t)) outs (run_so j.confs r durable j.first (fit_front j.confs j.durable j.happened j.first history.fit) history.sound))))

-- ---- what a radio was given lasts
some_weaker : {T : Type 0} (o : Option T) (P Q : T → Type 0) → ((x : T) → P x → Q x) → IsSomeAnd o P → IsSomeAnd o Q
some_weaker (Some x) P Q f h = f x h
some_weaker None P Q f h = h

module _ (es : List Happening) (m : LastHeard) (g : Recipient → List Out) (answers : List Answer) (old new : History) (goes : GoesOn es m g answers old new) (image : List ℕ) (history : IsHistory old)
    (keeps : Keeps old new image) (b : Bssid) where
  module _ (n : ℕ) (le : n ≤ old.durable) where
    lasts_at : (fact : Fact) → Holds fact (after old n) → Lasts new image keeps.front n fact
    lasts_at fact so = lasts es m g answers old new goes image n fact history keeps le so

    body_lasts : (a : Addr) (body : ReplyBody) → BodyIsTrue (after old n) b a body → BodyLasts new image keeps.front n b a body
    body_lasts a (Auth algorithm transaction status) so = λ success. lasts_at (HasRow b a) (so success)
    body_lasts a (Assoc response) so = λ success. some_weaker response.aid _ _ (λ aid. lasts_at (HasAid b a aid.number)) (so success)
    body_lasts a (Reassoc response) so = λ success. some_weaker response.aid _ _ (λ aid. lasts_at (HasAid b a aid.number)) (so success)
    body_lasts a body so = tt

    out_lasts : (out : Out) → OutIsTrue (after old n) (Radio b, out) → OutLasts new image keeps.front n b out
    out_lasts (Install a aid) so = lasts_at (HasAid b a aid.number) so
    out_lasts (Frame bytes) so = (so.0, so.1, so.2, body_lasts so.0.to so.0.body so.3)
    out_lasts out so = tt

  pub given_lasts : AllByRecursion (λ out. Contains (old.owed (Radio b)) out ⊎ ((n : ℕ) × (n ≤ old.durable) × OutLasts new image keeps.front n b out)) (old.given (Radio b))
  given_lasts = all_weaker _ _
      (λ out so. ⊎_elim (λ owed. inl owed) (λ was. let lt = was.durable in let le : was.place + 1 ≤ old.durable = omega (arith, lt) in inr (was.place + 1, le, out_lasts (was.place + 1) le out was.so)) so)
      (old.given (Radio b)) (told_so old (Radio b) history)

-- ---- a list that was edited
at_place : {A : Type 0} (xs : List A) (n : ℕ) (x : A) → slice_get xs n ≡ Some x → (n < length xs) × (take (suc n) xs ≡ take n xs ++ x ∷ [])
at_place [] n x is = cc
at_place (y ∷ xs) zero x is = (omega arith, (let both : Some y ≡ Some x = is in cc))
at_place (y ∷ xs) (suc n) x is = let more = at_place xs n x is in (let lt = more.0 in omega (arith, lt), ap (λ zs. y ∷ zs) more.1)

fit_at : (confs : List Conf) (hs : List Happening) (n : ℕ) (h : Happening) (s : State) → AreFit s confs hs → slice_get hs n ≡ Some h → IsFit (run s confs (take n hs)) confs h
fit_at confs [] n h s fit is = cc
fit_at confs (x ∷ hs) zero h s fit is = let both : Some x ≡ Some h = is in subst (IsFit s confs) (cc) fit.0
fit_at confs (x ∷ hs) (suc n) h s fit is = fit_at confs hs n h (verdict s confs x).state fit.1 is

-- OK is not FAIL
abbrev first_byte : Out → ℕ
first_byte (Text tag (byte ∷ bytes)) = byte
first_byte out = 0

refused_alone : (tag : ℕ) → Contains (text tag Refused ∷ []) (text tag Done) → ⊥
refused_alone tag (zero, lt, is) = let no = ap (λ (x : Recipient × Out). first_byte x.1) is in absurd (omega (arith, no))
refused_alone tag (suc n, lt, is) = absurd (omega (arith, lt))

not_refused : (tag : ℕ) (outs : List (Recipient × Out)) → outs ≡ text tag Refused ∷ [] → Contains outs (text tag Done) → ⊥
not_refused tag outs only has = refused_alone tag (subst (λ os. Contains os (text tag Done)) only has)

-- that each command is answered, as the law on commands says
abbrev pub AreAnswered : Type 0
AreAnswered = (s : State) (confs : List Conf) (h : Happening) → IsFit s confs h → Sound s → IsAnsweredTo s h (verdict s confs h)

module _ (all_answered : AreAnswered) (j : History) (place : ℕ) (b : Bssid) (w : Which) (edit : Edit) (history : IsHistory j) (was : WasEdited j place b w edit) where
  abbrev h : Happening
  h = ListEdit b w edit was.tag

  next_is : after j (place + 1) ≡ (verdict (after j place) j.confs h).state
  next_is = ap (λ n. run j.first j.confs (take n j.happened)) (add-one place) ∙ ap (run j.first j.confs) (at_place j.happened place h was.happened).1 ∙ run-append j.confs (take place j.happened) (h ∷ []) j.first

  before_sound : Sound (after j place)
  before_sound = run_sound j.confs (take place j.happened) j.first (fit_front j.confs place j.happened j.first history.fit) history.sound

  answered : IsAnsweredTo (after j place) h (verdict (after j place) j.confs h)
  answered = all_answered (after j place) j.confs h (fit_at j.confs j.happened place h j.first history.fit was.happened) before_sound

  pub listed_as_edited : (d : Addr) → IsListed (after j (place + 1)) b w d ↔ IsOnAfter (after j place) b w edit d
  listed_as_edited d = ⊎_elim
      (λ done. subst (λ (s : State). IsListed s b w d ↔ IsOnAfter (after j place) b w edit d) (sym next_is) (done.1.list d))
      (λ refused. absurd (not_refused was.tag (verdict (after j place) j.confs h).outs refused.1.outs was.answered))
      answered
