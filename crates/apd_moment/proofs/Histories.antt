-- Parts lead from a history that a core stands for to a later one.
use Rattle.std.proofs.Common.{◌≡◌, true, List, [], ◌∷◌, ◌++◌, ⊎_elim, refl, sym, ap, subst, ◌∙◌, arith, append_assoc}
use Rattle.std.proofs.lemmas.List.{append-nil}
use mathlib.Core.List.{IsPrefix}
use Rattle.apd_core.specs.Core.{CoreState, answer_to_query}
use Rattle.apd_core.specs.Heard.{LastHeard}
use Rattle.apd_ctrl.specs.declared.command.Query.{Query}
use Rattle.apd_disk.specs.Disk.{DiskModel, LeavesOnly}
use Rattle.apd_disk.proofs.Moments.{then_run, weaker}
use Rattle.apd_event.specs.Happening.{Happening}
use Rattle.apd_history.specs.Chain.{Call, core_at, given_by}
use Rattle.apd_mlme.specs.Run.{run}
use Rattle.apd_mlme.specs.declared.decision.Out.{Out}
use Rattle.apd_mlme.specs.declared.decision.Recipient.{Recipient}
use Rattle.apd_world.specs.CoreRun.{Goes}
use Rattle.apd_world.specs.History.{GoesOn, History, Keeps, SpeaksOf}
use Rattle.apd_world.specs.Outside.{device_of}
use Rattle.apd_world.specs.Proper.{IsProper, IsSafe}
use Rattle.apd_world.specs.StandsFor.{IsHistoryOf, account_after}
use Rattle.apd_world.specs.Steps.{Account, account, handed_outs, heard_after, step_happenings}
use Rattle.apd_world.specs.declared.durable_core.DurableCore.{DurableCore}
use Rattle.apd_world.specs.declared.step.Step.{Step}
use Rattle.apd_world.specs.declared.step.Told.{Told}
use Rattle.apd_world.proofs.Accounts.{account_behind, behind}
use Rattle.apd_world.proofs.CoreHistories.{goes_later, kept_later, kept_since, later, reads_later, reads_now, safe_keeps, stands_later, step_goes, step_heard, then_goes}
use Rattle.apd_world.proofs.Goings.{goes_beside, run-append}
use Rattle.apd_moment.specs.Moment.{GoesBy, KeepsSince, account_by}
use Rattle.apd_moment.specs.Parts.{AreParts, Fail, IsLogged, IsPart, OneStep, Part, handed_as, steps_of, tolds_of}
use Rattle.apd_moment.proofs.Calls.{begins_or_goes_on, given_by-append}

-- no out waits beside the core
abbrev pub none : Recipient → List Out
none r = []

module _ {D : Type 0} (disk : DiskModel D) where
  pub record Ends (parts : List Part) (calls : List Call) (a b : DurableCore D) (j : History) : Type 0 where
    pub k : History
    pub stands : IsHistoryOf b.core none k
    pub goes_on : GoesBy parts calls j k
    pub proper : IsProper disk a → IsProper disk b
    pub keeps : IsProper disk a → LeavesOnly disk (device_of a) (device_of b) (Keeps j k)
    pub since : IsProper disk a → (first rest : List Part) → parts ≡ first ++ rest → KeepsSince disk first rest calls a b j k
    pub read : (begins : List Call) → IsPrefix begins calls → (q : Query) → SpeaksOf k (answer_to_query (core_at a.core begins) q)

  -- ---- none
  still : (calls : List Call) (j : History) → calls ≡ [] → GoesBy [] calls j j
  still calls j empty = record {
    only = λ i. record j {
      happened = sym (append-nil j.happened) i;
      given = λ r. (sym (append-nil (j.given r)) ∙ ap (λ (cs : List Call). j.given r ++ given_by r cs) (sym empty)) i;
      read = sym (append-nil j.read) i;
    };
    durable = omega arith;
  }

  -- since before the first of them
  since_first : (parts : List Part) (calls : List Call) (a b : DurableCore D) (j k : History) → AreParts disk parts calls a b → IsHistoryOf a.core none j → GoesBy parts calls j k
      → LeavesOnly disk (device_of a) (device_of b) (Keeps j k) → KeepsSince disk [] parts calls a b j k
  since_first parts calls a b j k are stands goes keeps = record {
    mid = a;
    logged = [];
    more = calls;
    all = refl;
    made = (refl, refl);
    others = are;
    between = j;
    stands = stands;
    before = still [] j refl;
    behind = goes;
    keeps = keeps;
  }

  empty_begins : (core : CoreState) (begins calls : List Call) → IsPrefix begins calls → calls ≡ [] → core_at core begins ≡ core
  empty_begins core [] calls prefix none = refl
  empty_begins core (c ∷ begins) calls prefix none = absurd (let wrong : c ∷ (begins ++ prefix.0) ≡ [] = prefix.1 ∙ none in cc)

  none_since : (first rest : List Part) (calls : List Call) (a b : DurableCore D) (j : History) → [] ≡ first ++ rest → KeepsSince disk [] [] calls a b j j → KeepsSince disk first rest calls a b j j
  none_since [] [] calls a b j e since = since
  none_since [] (p ∷ rest) calls a b j e since = absurd (let wrong : [] ≡ p ∷ rest = e in cc)
  none_since (p ∷ first) rest calls a b j e since = absurd (let wrong : [] ≡ p ∷ (first ++ rest) = e in cc)

  none_end : (calls : List Call) (a b : DurableCore D) (j : History) → calls ≡ [] → b ≡ a → IsSafe disk b b → IsHistoryOf a.core none j → Ends [] calls a b j
  none_end calls a b j empty same here stands =
      let safe : IsSafe disk a b = subst (λ (d : DurableCore D). IsSafe disk d b) same here in
      let goes = still calls j empty in
      let keeps = safe_keeps disk [] a b none j j safe stands refl refl (sym (append-nil j.happened)) in
      record {
        k = j;
        stands = subst (λ (d : DurableCore D). IsHistoryOf d.core none j) (sym same) stands;
        goes_on = goes;
        proper = safe.proper;
        keeps = keeps;
        since = λ p first rest e. none_since first rest calls a b j e (since_first [] calls a b j j (empty, same) stands goes (keeps p));
        read = λ begins prefix q. reads_now j a.core none stands (answer_to_query (core_at a.core begins) q)
            (q, ap (λ (s : CoreState). answer_to_query s q) (empty_begins a.core begins calls prefix empty));
      }

  -- ---- one, and then others
  module _ (part : Part) (parts : List Part) (logged rest calls : List Call) (a mid b : DurableCore D) (j : History) (stands : IsHistoryOf a.core none j) (made : IsPart disk part a mid) (safe : IsSafe disk a mid)
      (is : IsLogged part a.core mid.core logged) (split : calls ≡ logged ++ rest) (others : AreParts disk parts rest mid b)
      (es : List Happening) (m : LastHeard) (g : Recipient → List Out) (goes : Goes es g a.core mid.core) (heard : mid.core.heard ≡ m) where
    flows : (r : Recipient) → g r ++ none r ≡ none r ++ g r
    flows r = append-nil (g r)

    abbrev next : History
    next = later j a.core none stands es m g mid.core goes heard g none flows [] tt

    next_stands : IsHistoryOf mid.core none next
    next_stands = stands_later j a.core none stands es m g mid.core goes heard g none flows [] tt

    next_goes : GoesOn es m g [] j next
    next_goes = goes_later j a.core none stands es m g mid.core goes heard g none flows [] tt

    module _ (more : Ends parts rest mid b next) (gives : (r : Recipient) → g r ≡ handed_as r part) (accounts : (ps : List Part) → account_by j (part ∷ ps) ≡ behind es (account_by next ps)) where
      given_so : (cs : List Call) (r : Recipient) → g r ++ given_by r cs ≡ given_by r (logged ++ cs)
      given_so cs r = ap (λ os. os ++ given_by r cs) (gives r ∙ sym (is.1 r)) ∙ sym (given_by-append r logged cs)

      -- what goes on behind it goes on behind both
      joins : (ps : List Part) (cs : List Call) (k : History) → GoesBy ps cs next k → GoesBy (part ∷ ps) (logged ++ cs) j k
      joins ps cs k goes_on =
          let then = account_by next ps in
          let both = then_goes es then.happened m then.heard g (λ r. given_by r cs) [] [] j next k next_goes goes_on in
          subst (λ (z : Account). GoesOn z.happened z.heard (λ r. given_by r (logged ++ cs)) [] j k) (sym (accounts ps))
          (subst (λ (os : Recipient → List Out). GoesOn (es ++ then.happened) then.heard os [] j k) (λ i r. given_so cs r i) both)

      all_goes : GoesBy (part ∷ parts) calls j more.k
      all_goes = subst (λ (cs : List Call). GoesBy (part ∷ parts) cs j more.k) (sym split) (joins parts rest more.k more.goes_on)

      all_keeps : IsProper disk a → LeavesOnly disk (device_of a) (device_of b) (Keeps j more.k)
      all_keeps p =
          let d = device_of a in
          let e = device_of mid in
          let f = device_of b in
          then_run disk d e f (Keeps j more.k)
          (weaker disk d e (Keeps j next) (Keeps j more.k) (λ image. kept_later _ _ _ _ j next more.k image more.goes_on) (safe_keeps disk es a mid none j next safe stands refl refl refl p))
          (weaker disk e f (Keeps next more.k) (Keeps j more.k) (λ image. kept_since _ _ _ _ j next more.k image next_goes) (more.keeps (safe.proper p)))

      all_since : IsProper disk a → (first last : List Part) → part ∷ parts ≡ first ++ last → KeepsSince disk first last calls a b j more.k
      all_since p [] last e =
          subst (λ (ps : List Part). KeepsSince disk [] ps calls a b j more.k) e
          (since_first (part ∷ parts) calls a b j more.k (mid, logged, rest, made, is, split, others) stands all_goes (all_keeps p))
      all_since p (f ∷ first) last e =
          let same : part ≡ f = cc in
          let behind_it : parts ≡ first ++ last = cc in
          let s = more.since (safe.proper p) first last behind_it in
          subst (λ (x : Part). KeepsSince disk (x ∷ first) last calls a b j more.k) same (record {
            mid = s.mid;
            logged = logged ++ s.logged;
            more = s.more;
            all = split ∙ ap (λ (cs : List Call). logged ++ cs) s.all ∙ sym (append_assoc logged s.logged s.more);
            made = (mid, logged, s.logged, made, is, refl, s.made);
            others = s.others;
            between = s.between;
            stands = s.stands;
            before = joins first s.logged s.between s.before;
            behind = s.behind;
            keeps = s.keeps;
          })

      all_read : (begins : List Call) → IsPrefix begins calls → (q : Query) → SpeaksOf more.k (answer_to_query (core_at a.core begins) q)
      all_read begins prefix q = ⊎_elim
          (λ here. reads_later (account_by j (part ∷ parts)).happened (account_by j (part ∷ parts)).heard (λ r. given_by r calls) [] j more.k all_goes stands.history.durable
          (answer_to_query (core_at a.core begins) q) (reads_now j a.core none stands (answer_to_query (core_at a.core begins) q) (q, ap (λ (s : CoreState). answer_to_query s q) here)))
          (λ further. subst (λ (s : CoreState). SpeaksOf more.k (answer_to_query s q)) (sym further.2) (more.read further.0 further.1 q))
          (begins_or_goes_on a.core mid.core logged rest begins is.0 (subst (λ (cs : List Call). IsPrefix begins cs) split prefix))

      one_ends : Ends (part ∷ parts) calls a b j
      one_ends = record {
        k = more.k;
        stands = more.stands;
        goes_on = all_goes;
        proper = λ p. more.proper (safe.proper p);
        keeps = all_keeps;
        since = all_since;
        read = all_read;
      }

  -- what happened by further steps, behind what happened by one
  further : (xs : List Step) (ts : List Told) (j k : History) (es : List Happening) (m : LastHeard) → k ≡ record j { happened = j.happened ++ es; durable = k.durable; heard = m; given = k.given; read = k.read }
      → account j.confs xs ts (record { happened = es; state = run (run j.first j.confs j.happened) j.confs es; heard = m }) ≡ behind es (account_after k xs ts)
  further xs ts j k es m only =
      account_behind j.confs xs ts es (run (run j.first j.confs j.happened) j.confs es) m
      ∙ ap (behind es) ((λ i. account j.confs xs ts (record { happened = []; state = sym (run-append j.confs j.happened es j.first) i; heard = m })) ∙ ap (λ (z : History). account_after z xs ts) (sym only))

  pub all_end : (parts : List Part) (calls : List Call) (a b : DurableCore D) (j : History) → AreParts disk parts calls a b → IsSafe disk b b → IsHistoryOf a.core none j → Ends parts calls a b j
  all_end [] calls a b j h here stands = none_end calls a b j h.0 h.1 here stands
  all_end (OneStep x t ∷ parts) calls a b j h here stands =
      let mid = h.0 in
      let step = h.3.0 in
      let es = step_happenings j.confs j.heard x t in
      let m = heard_after j.confs (run j.first j.confs j.happened) j.heard x t in
      let g : Recipient → List Out = λ r. handed_outs r x t in
      let goes = step_goes j a.core none stands x t g mid.core step.goes in
      let heard = step_heard j a.core none stands x t mid.core.heard step.heard in
      let after_it = next (OneStep x t) parts h.1 h.2 calls a mid b j stands h.3 h.3.1.safe h.4 h.5 h.6 es m g goes heard in
      let stands_then = next_stands (OneStep x t) parts h.1 h.2 calls a mid b j stands h.3 h.3.1.safe h.4 h.5 h.6 es m g goes heard in
      let more = all_end parts h.2 mid b after_it h.6 here stands_then in
      one_ends (OneStep x t) parts h.1 h.2 calls a mid b j stands h.3 h.3.1.safe h.4 h.5 h.6 es m g goes heard more (λ r. refl)
      (λ ps. further (steps_of ps) (tolds_of ps) j after_it es m refl)
  all_end (Fail ∷ parts) calls a b j h here stands =
      let mid = h.0 in
      let s = a.core in
      let g : Recipient → List Out = λ r. [] in
      let goes : Goes [] g a.core mid.core = subst (λ (d : DurableCore D). Goes [] g a.core d.core) (sym h.3.0) (goes_beside s s.flight s.heard true) in
      let heard : mid.core.heard ≡ j.heard = ap (λ (d : DurableCore D). d.core.heard) h.3.0 ∙ stands.heard_so in
      let after_it = next Fail parts h.1 h.2 calls a mid b j stands h.3 h.3.1 h.4 h.5 h.6 [] j.heard g goes heard in
      let stands_then = next_stands Fail parts h.1 h.2 calls a mid b j stands h.3 h.3.1 h.4 h.5 h.6 [] j.heard g goes heard in
      let more = all_end parts h.2 mid b after_it h.6 here stands_then in
      one_ends Fail parts h.1 h.2 calls a mid b j stands h.3 h.3.1 h.4 h.5 h.6 [] j.heard g goes heard more (λ r. refl)
      (λ ps. further (steps_of ps) (tolds_of ps) j after_it [] j.heard refl)
