-- A core goes on, and so does the history that it stands for, whatever outs wait beside it.
use Rattle.std.proofs.Common.{◌≡◌, ℕ, ◌+◌, ◌≤◌, List, [], ◌++◌, length, take, drop, refl, sym, ap, subst, ◌∙◌, arith, append_assoc, length-append}
use Rattle.std.specs.List.{AllByRecursion}
use Rattle.std.specs.Prelude.{map}
use Rattle.std.proofs.lemmas.List.{length-take-le, take-append-drop, take-append-le}
use Rattle.std.proofs.Math.Seq.{take-append_seam, drop-append_seam}
use Rattle.apd_world.proofs.Words.{Answer, AreFit, AreHeldFor, AreUnsettled, Conf, CoreState, DiskModel, DurableCore, Goes, Happening, IsProper, IsSafe, LastHeard, LeavesOnly, Out, Query, Recipient, Settles, Shows, ShowsEither, ShowsFlight, Sound, State, Step, Told, device_of, front_of, heard_after, new_core, outs_run, ready_for, run, step_happenings, up_to}
use Rattle.apd_core.specs.Core.{answer_to_query}
use Rattle.apd_core.specs.Held.{Queue, queue_of as held_queue}
use Rattle.apd_core.specs.Invariant.{AreDecided}
use Rattle.apd_core.proofs.HeldLemmas.{queue_of-no_outs}
use Rattle.apd_core.proofs.Keeping.{decided_means}
use Rattle.apd_core.proofs.Queues.{all_weaker}
use Rattle.apd_ctrl.specs.Texts.{text}
use Rattle.apd_disk.proofs.Moments.{weaker}
use Rattle.apd_mlme.proofs.TrueOutsLemmas.{all_both}
use Rattle.apd_world.specs.History.{GoesOn, IsHistory, History, Keeps, SpeaksOf, after, blank}
use Rattle.apd_world.specs.StandsFor.{IsHistoryOf}
use Rattle.apd_world.proofs.Goings.{fit-append, outs_run-append, run-append}
use Rattle.apd_world.proofs.DurableSteps.{shows_flight}

-- ---- lists in parts
module _ {A : Type 0} (d : ℕ) (hs es front rest : List A) (le : d ≤ length hs) (split : drop d hs ++ es ≡ front ++ rest) where
  whole : hs ++ es ≡ (take d hs ++ front) ++ rest
  whole =
      ap (λ xs. xs ++ es) (sym (take-append-drop d hs)) ∙ append_assoc (take d hs) (drop d hs) es ∙ ap (λ xs. take d hs ++ xs) split
      ∙ sym (append_assoc (take d hs) front rest)

  long : length (take d hs ++ front) ≡ d + length front
  long = length-append (take d hs) front ∙ ap (λ n. n + length front) (length-take-le d hs le)

  pub taken : take (d + length front) (hs ++ es) ≡ take d hs ++ front
  taken = ap (λ n. take n (hs ++ es)) (sym long) ∙ ap (take (length (take d hs ++ front))) whole ∙ take-append_seam (take d hs ++ front) rest

  pub dropped : drop (d + length front) (hs ++ es) ≡ rest
  dropped = ap (λ n. drop n (hs ++ es)) (sym long) ∙ ap (drop (length (take d hs ++ front))) whole ∙ drop-append_seam (take d hs ++ front) rest

  pub taken_within : d + length front ≤ length (hs ++ es)
  taken_within = let all = ap length whole ∙ length-append (take d hs ++ front) rest in let l = long in omega (arith, all, l)

-- ---- histories that go on
pub then_goes : (es fs : List Happening) (m n : LastHeard) (g h : Recipient → List Out) (us vs : List Answer) (j k l : History) → GoesOn es m g us j k → GoesOn fs n h vs k l
    → GoesOn (es ++ fs) n (λ r. g r ++ h r) (us ++ vs) j l
then_goes es fs m n g h us vs j k l past more = record {
  only = more.only
      ∙ (λ i. let K = past.only i in record K { happened = K.happened ++ fs; durable = l.durable; heard = n; given = λ r. K.given r ++ h r; read = K.read ++ vs })
      ∙ (λ i. record j { happened = append_assoc j.happened es fs i; durable = l.durable; heard = n; given = λ r. append_assoc (j.given r) (g r) (h r) i; read = append_assoc j.read us vs i });
  durable = omega (arith, past.durable, more.durable);
}

-- what is kept by one is kept by a later one
pub kept_later : (es : List Happening) (m : LastHeard) (g : Recipient → List Out) (us : List Answer) (j k l : History) (image : List ℕ) → GoesOn es m g us k l → Keeps j k image → Keeps j l image
kept_later es m g us j k l image goes keeps =
    let long = length-append k.happened es in
    let within = keeps.within in
    subst (λ z. Keeps j z image) (sym goes.only) (record {
      front = keeps.front;
      all_durable = keeps.all_durable;
      within = omega (arith, long, within);
      shows = subst (λ hs. Shows image (run k.first k.confs hs)) (sym (take-append-le keeps.front k.happened es within)) keeps.shows;
    })

-- and since an earlier one
pub kept_since : (es : List Happening) (m : LastHeard) (g : Recipient → List Out) (us : List Answer) (j k l : History) (image : List ℕ) → GoesOn es m g us j k → Keeps k l image → Keeps j l image
kept_since es m g us j k l image goes keeps =
    record { front = keeps.front; all_durable = (let a = goes.durable in let b = keeps.all_durable in omega (arith, a, b)); within = keeps.within; shows = keeps.shows }

-- ---- what is read
-- an answer from the settled table
abbrev pub IsOf : CoreState → Answer → Type 0
IsOf core answer = (q : Query) × (answer ≡ answer_to_query core q)

-- what was read is so later
pub reads_later : (es : List Happening) (m : LastHeard) (g : Recipient → List Out) (us : List Answer) (j k : History) → GoesOn es m g us j k → j.durable ≤ length j.happened
    → (answer : Answer) → SpeaksOf j answer → SpeaksOf k answer
reads_later es m g us j k goes all answer s =
    let le = s.durable in
    let later = goes.durable in
    let within : s.count ≤ length j.happened = omega (arith, le, all) in
    subst (λ z. SpeaksOf z answer) (sym goes.only) (record {
      count = s.count;
      durable = omega (arith, le, later);
      number = s.number;
      is = s.is ∙ ap (λ hs. text (run j.first j.confs hs) j.confs answer.query) (sym (take-append-le s.count j.happened es within));
    })

-- ---- at the beginning
-- where a core begins with this table, and no out waits, it stands for the blank history
module _ (core : CoreState) (confs : List Conf) (table : State) (is : core ≡ new_core table confs core.heard) (sound : Sound table) (waits : Recipient → List Out) (none : (r : Recipient) → waits r ≡ []) where
  none_held : (r : Recipient) → held_queue core.confs core.held r ≡ []
  none_held r = ap (λ (s : CoreState). held_queue s.confs s.held r) is ∙ queue_of-no_outs confs r

  none_ready : (r : Recipient) → ready_for r core ≡ []
  none_ready r = ap (λ (q : Queue). map (λ (x : ℕ × Out). x.1) (up_to core.number q)) (none_held r)

  pub begins_blank : IsHistoryOf core waits (blank confs table core.heard)
  begins_blank = record {
    history = record { sound = sound; fit = tt; durable = omega arith; given = λ r. ([], refl); read = tt };
    confs = ap (λ (s : CoreState). s.confs) is;
    number = ap (λ (s : CoreState). s.number) is;
    settled = ap (λ (s : CoreState). s.settled) is;
    unsettled = subst (λ (s : CoreState). AreDecided s.confs s.settled [] s.unsettled) (sym is) tt;
    held = λ r. none_held r ∙ sym (ap (λ (q : Queue). up_to core.number q ++ []) (none_held r));
    heard_so = refl;
    waiting = λ r. sym (λ i. none r i ++ none_ready r i);
  }

-- ---- what a core's going on does to a history
module _ (j : History) (core : CoreState) (waits : Recipient → List Out) (stands : IsHistoryOf core waits j) where
  abbrev left : List Happening
  left = drop j.durable j.happened

  -- the state after some more than the durable ones
  settled_then : (hs : List Happening) → run core.settled core.confs hs ≡ run j.first j.confs (take j.durable j.happened ++ hs)
  settled_then hs = (λ i. run (stands.settled i) (stands.confs i) hs) ∙ sym (run-append j.confs (take j.durable j.happened) hs j.first)

  pub front_is : front_of core ≡ run j.first j.confs j.happened
  front_is =
      decided_means core.confs left core.unsettled core.settled stands.unsettled ∙ settled_then left
      ∙ ap (run j.first j.confs) (take-append-drop j.durable j.happened)

  -- what happens by a step, and what is heard by it, are read off the history
  pub step_goes : (x : Step) (t : Told) (g : Recipient → List Out) (after_core : CoreState) → Goes (step_happenings core.confs core.heard x t) g core after_core
      → Goes (step_happenings j.confs j.heard x t) g core after_core
  step_goes x t g after_core goes = subst (λ (es : List Happening). Goes es g core after_core) (λ i. step_happenings (stands.confs i) (stands.heard_so i) x t) goes

  pub step_heard : (x : Step) (t : Told) (heard : LastHeard) → heard ≡ heard_after core.confs (front_of core) core.heard x t
      → heard ≡ heard_after j.confs (run j.first j.confs j.happened) j.heard x t
  step_heard x t heard is = is ∙ (λ i. heard_after (stands.confs i) (front_is i) (stands.heard_so i) x t)

  -- an answer from the core
  pub reads_now : (answer : Answer) → IsOf core answer → SpeaksOf j answer
  reads_now answer asked = record {
    count = j.durable;
    durable = omega arith;
    number = ap (λ (a : Answer). a.number) asked.1 ∙ stands.number;
    is = ap (λ (a : Answer). a.text) asked.1 ∙ (λ i. text (stands.settled i) (stands.confs i) (ap (λ (a : Answer). a.query) (sym asked.1) i));
  }

  -- an image of the settled table, or of that after the batch in flight
  pub flight_kept : (es : List Happening) (later : History) (image : List ℕ) → later.confs ≡ j.confs → later.first ≡ j.first → later.happened ≡ j.happened ++ es → ShowsFlight core left image → Keeps j later image
  flight_kept es later image confs first happened shown =
      let front = take shown.count left in
      let rest = drop shown.count left ++ es in
      let split : left ++ es ≡ front ++ rest = ap (λ xs. xs ++ es) (sym (take-append-drop shown.count left)) ∙ append_assoc front (drop shown.count left) es in
      let le = stands.history.durable in
      let count = j.durable + length front in
      let within = taken_within j.durable j.happened es front rest le split in
      let long = ap length happened in
      let is : run core.settled core.confs front ≡ after later count =
      settled_then front ∙ ap (run j.first j.confs) (sym (taken j.durable j.happened es front rest le split))
      ∙ (λ i. run (sym first i) (sym confs i) (take count (sym happened i))) in
      record { front = count; all_durable = omega arith; within = omega (arith, within, long); shows = subst (Shows image) is shown.shows }

  module _ (es : List Happening) (m : LastHeard) (g : Recipient → List Out) (after_core : CoreState) (goes : Goes es g core after_core) (heard : after_core.heard ≡ m) (said waits_then : Recipient → List Out)
      (flows : (r : Recipient) → said r ++ waits_then r ≡ waits r ++ g r) (answers : List Answer) (of : AllByRecursion (IsOf core) answers) where
    pub settles : Settles left es g core after_core
    settles = goes.settles left stands.unsettled

    abbrev pub later : History
    later = record j { happened = j.happened ++ es; durable = j.durable + length settles.settled; heard = m; given = λ r. j.given r ++ said r; read = j.read ++ answers }

    now_durable : take later.durable later.happened ≡ take j.durable j.happened ++ settles.settled
    now_durable = taken j.durable j.happened es settles.settled settles.left stands.history.durable settles.split

    now_left : drop later.durable later.happened ≡ settles.left
    now_left = dropped j.durable j.happened es settles.settled settles.left stands.history.durable settles.split

    now_outs : (r : Recipient) → outs_run r j.first j.confs (take later.durable later.happened)
        ≡ outs_run r j.first j.confs (take j.durable j.happened) ++ outs_run r core.settled core.confs settles.settled
    now_outs r =
        ap (outs_run r j.first j.confs) now_durable ∙ outs_run-append r j.confs (take j.durable j.happened) settles.settled j.first
        ∙ (λ i. outs_run r j.first j.confs (take j.durable j.happened) ++ outs_run r (sym stands.settled i) (sym stands.confs i) settles.settled)

    given_so : (r : Recipient) → j.owed r ++ outs_run r j.first j.confs (take later.durable later.happened)
        ≡ (j.given r ++ said r) ++ (waits_then r ++ ready_for r after_core)
    given_so r =
        let front = stands.history.given r in
        let outs = outs_run r j.first j.confs (take j.durable j.happened) in
        let more = outs_run r core.settled core.confs settles.settled in
        let wait = waits r in
        let ready = ready_for r core in
        let ready' = ready_for r after_core in
        let wait' = waits_then r in
        ap (λ os. j.owed r ++ os) (now_outs r) ∙ sym (append_assoc (j.owed r) outs more)
        ∙ ap (λ os. os ++ more) (front.1 ∙ ap (λ os. j.given r ++ os) (stands.waiting r)) ∙ append_assoc (j.given r) (wait ++ ready) more
        ∙ ap (λ os. j.given r ++ os) (append_assoc wait ready more ∙ ap (λ os. wait ++ os) (sym (settles.released r (stands.held r)))
        ∙ sym (append_assoc wait (g r) ready') ∙ ap (λ os. os ++ ready') (sym (flows r)) ∙ append_assoc (said r) wait' ready')
        ∙ sym (append_assoc (j.given r) (said r) (wait' ++ ready'))

    pub goes_later : GoesOn es m said answers j later
    goes_later = record { only = refl; durable = omega arith }

    still_read : (answer : Answer) → SpeaksOf j answer → SpeaksOf later answer
    still_read answer = reads_later es m said answers j later goes_later stands.history.durable answer

    later_history : IsHistory later
    later_history = record {
      sound = stands.history.sound;
      fit = fit-append j.confs j.happened es j.first stands.history.fit (subst (λ cs. AreFit (run j.first j.confs j.happened) cs es) stands.confs (subst (λ (s : State). AreFit s core.confs es) front_is goes.fit));
      durable = taken_within j.durable j.happened es settles.settled settles.left stands.history.durable settles.split;
      given = λ r. (waits_then r ++ ready_for r after_core, given_so r);
      read = all_both (SpeaksOf later) j.read answers (all_weaker (SpeaksOf j) (SpeaksOf later) still_read j.read stands.history.read) (all_weaker (IsOf core) (SpeaksOf later) (λ answer asked. still_read answer (reads_now answer asked)) answers of);
    }

    pub stands_later : IsHistoryOf after_core waits_then later
    unfolding later_history
    stands_later = record {
      history = later_history;
      confs = goes.confs ∙ stands.confs;
      number = settles.number ∙ ap (λ n. n + length settles.settled) stands.number ∙ omega arith;
      settled = settles.state ∙ settled_then settles.settled ∙ ap (run j.first j.confs) (sym now_durable);
      unsettled = subst (λ hs. AreUnsettled hs after_core) (sym now_left) settles.decided;
      held = λ r. subst (λ hs. AreHeldFor r hs after_core) (sym now_left) (settles.held r (stands.held r));
      heard_so = heard;
      waiting = λ r. refl;
    }

-- what a safe change leaves is kept
pub safe_keeps : {D : Type 0} (disk : DiskModel D) (es : List Happening) (a b : DurableCore D) (waits : Recipient → List Out) (j later : History) → IsSafe disk a b → IsHistoryOf a.core waits j
    → later.confs ≡ j.confs → later.first ≡ j.first → later.happened ≡ j.happened ++ es → IsProper disk a → LeavesOnly disk (device_of a) (device_of b) (Keeps j later)
safe_keeps disk es a b waits j later safe stands confs first happened proper =
    weaker disk (device_of a) (device_of b) (ShowsEither a.core) (Keeps j later)
    (λ image either. flight_kept j a.core waits stands es later image confs first happened (shows_flight a.core (drop j.durable j.happened) stands.unsettled image either)) (safe.inside proper)
