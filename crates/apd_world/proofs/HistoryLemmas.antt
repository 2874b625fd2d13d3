-- A world goes on, and so does the history that it stands for.
use Rattle.std.proofs.Common.{◌≡◌, ℕ, zero, suc, ◌+◌, List, [], ◌∷◌, ◌++◌, take, refl, sym, ap, subst, ◌∙◌, arith, length-append}
use Rattle.std.specs.List.{AllByRecursion}
use Rattle.std.proofs.lemmas.List.{append-nil}
use Rattle.apd_world.proofs.Words.{Account, Answer, Applied, Apply, AreMadeInTurn, Ask, Conf, Control, CoreState, DiskModel, DurableCore, Goes, Hand, Handed, Happening, IsSafe, IsStepMade, IsWorldStep, Joins, LastHeard, NoMemory, Nothing, Out, Queued, Radio, RadioModel, Recipient, Step, Tells, Told, World, account, applied_outs, device_of, durable_of, front_of, handed_outs, one_more, queue_of, run, LeadsSince}
use Rattle.apd_disk.proofs.Moments.{then_run, weaker}
use Rattle.apd_mlme.proofs.TrueOutsLemmas.{all_both}
use Rattle.apd_world.specs.History.{GoesOn, History, Keeps}
use Rattle.apd_world.specs.StandsFor.{LeadsOn, LeadsSafely, LeadsTo, StandsFor, all_answers, answers_in, outs_in_steps, account_of, account_after, waiting_outs}
use Rattle.apd_world.specs.declared.step.Told.TheVariants.{Answered as Read}
use Rattle.apd_world.proofs.Accounts.{account_append, account_behind, account_state, answered_append, behind, said_append}
use Rattle.apd_world.proofs.CoreHistories.{IsOf, front_is, kept_later, kept_since, later, safe_keeps, stands_later, then_goes}
use Rattle.apd_world.proofs.Goings.{run-append}
use Rattle.apd_world.proofs.Moving.{flows}

-- ---- what is told inside
module _ {D R : Type 0} (radio : RadioModel R) (old new : World D R) where
  -- the same happens by it, and control is given the same
  pub happens_alike : (confs : List Conf) (step : Step) (inside told : Told) (a : Account) → Joins radio step inside told old new → one_more confs step inside a ≡ one_more confs step told a
  happens_alike confs (Hand r) inside told a h = refl
  happens_alike confs (Apply b) inside told a h = refl
  happens_alike confs step inside told a h = ap (λ t. one_more confs step t a) (sym h.0)

  -- and the same is answered
  pub said_alike : (step : Step) (inside told : Told) → Joins radio step inside told old new → (handed_outs Control step inside ≡ handed_outs Control step told) × (answers_in inside ≡ answers_in told)
  said_alike (Hand (Radio b)) (Handed outs) (Queued count) h = (refl, refl)
  said_alike (Hand (Radio b)) NoMemory NoMemory h = (refl, refl)
  said_alike (Hand (Radio b)) Nothing Nothing h = (refl, refl)
  said_alike (Hand (Radio b)) inside told h = absurd h
  said_alike (Apply b) Nothing (Applied out answer) h = (refl, refl)
  said_alike (Apply b) Nothing NoMemory h = (refl, refl)
  said_alike (Apply b) Nothing Nothing h = (refl, refl)
  said_alike (Apply b) Nothing told h = absurd h.goes.first
  said_alike (Apply b) inside told h = absurd h
  said_alike step inside told h = (ap (handed_outs Control step) (sym h.0), ap answers_in (sym h.0))

-- ---- what is read
reads : {D : Type 0} (x : Step) (t : Told) (old new : DurableCore D) → Tells x t old new → AllByRecursion (IsOf old.core) (answers_in t)
reads (Ask q) (Read answer) old new tells = ((q, tells.answer_is), tt)
reads x (Read answer) old new tells = absurd tells
reads x t old new tells = tt

-- ---- steps of a world
-- none
pub none_leads : {D R : Type 0} (old new : World D R) (j : History) → StandsFor new j → LeadsTo [] [] old new j j
none_leads old new j stands = record {
  each = refl;
  stands = stands;
  goes_on = record {
    only = λ i. record j { happened = sym (append-nil j.happened) i; given = λ r. sym (append-nil (j.given r)) i; read = sym (append-nil j.read) i };
    durable = omega arith;
  };
}

-- some, and then others
pub then_leads : {D R : Type 0} (xs ys : List Step) (ts us : List Told) (a mid b : World D R) (j k l : History) → LeadsTo xs ts a mid j k → LeadsTo ys us mid b k l → LeadsTo (xs ++ ys) (ts ++ us) a b j l
then_leads xs ys ts us a mid b j k l past more = record {
  each = length-append ts us ∙ (λ i. past.each i + more.each i) ∙ sym (length-append xs ys);
  stands = more.stands;
  goes_on =
      let one = account_after j xs ts in
      let others = account_after k ys us in
      let all = account_after j (xs ++ ys) (ts ++ us) in
      let both = then_goes one.happened others.happened one.heard others.heard (λ r. outs_in_steps r xs ts) (λ r. outs_in_steps r ys us) (all_answers ts) (all_answers us) j k l past.goes_on more.goes_on in
      let state : run j.first j.confs (j.happened ++ one.happened) ≡ one.state =
      run-append j.confs j.happened one.happened j.first ∙ sym (account_state j.confs xs ts (run j.first j.confs j.happened) (account_of j) refl) in
      let from : account_of k ≡ record { happened = []; state = one.state; heard = one.heard } =
      ap account_of past.goes_on.only ∙ (λ i. record { happened = []; state = state i; heard = one.heard }) in
      let parts : all ≡ behind one.happened others =
      account_append j.confs xs ys ts us (account_of j) past.each ∙ account_behind j.confs ys us one.happened one.state one.heard
      ∙ ap (behind one.happened) (λ i. account (sym past.goes_on.only i).confs ys us (sym from i)) in
      subst (λ (z : Account). GoesOn z.happened z.heard (λ r. outs_in_steps r (xs ++ ys) (ts ++ us)) (all_answers (ts ++ us)) j l) (sym parts)
      (subst (λ (vs : List Answer). GoesOn (one.happened ++ others.happened) others.heard (λ r. outs_in_steps r (xs ++ ys) (ts ++ us)) vs j l) (answered_append ts us)
      (subst (λ (os : Recipient → List Out). GoesOn (one.happened ++ others.happened) others.heard os (all_answers ts ++ all_answers us) j l) (λ i r. said_append r xs ys ts us past.each i) both));
}

module _ {D R : Type 0} (disk : DiskModel D) where
  abbrev Safely : List Step → List Told → World D R → World D R → History → History → Type 0
  Safely xs ts a b j k = LeadsSafely disk xs ts a b j k

  -- nothing is made: the history stays
  pub still_leads : (a b : World D R) (j : History) → IsSafe disk (durable_of a) (durable_of b) → StandsFor a j → StandsFor b j → Safely [] [] a b j j
  still_leads a b j safe before after = record {
    leads = none_leads a b j after;
    proper = safe.proper;
    keeps = safe_keeps disk [] (durable_of a) (durable_of b) (λ r. waiting_outs r a) j j safe before refl refl (sym (append-nil j.happened));
  }

  pub then_safely : (xs ys : List Step) (ts us : List Told) (a mid b : World D R) (j k l : History) → Safely xs ts a mid j k → Safely ys us mid b k l → Safely (xs ++ ys) (ts ++ us) a b j l
  then_safely xs ys ts us a mid b j k l past more =
      let d = device_of (durable_of a) in
      let e = device_of (durable_of mid) in
      let f = device_of (durable_of b) in
      record {
        leads = then_leads xs ys ts us a mid b j k l past.leads more.leads;
        proper = λ p. more.proper (past.proper p);
        keeps = λ p. then_run disk d e f (Keeps j l)
            (weaker disk d e (Keeps j k) (Keeps j l) (λ image. kept_later _ _ _ _ j k l image more.leads.goes_on) (past.keeps p))
            (weaker disk e f (Keeps k l) (Keeps j l) (λ image. kept_since _ _ _ _ j k l image past.leads.goes_on) (more.keeps (past.proper p)));
      }

module _ {D R : Type 0} (disk : DiskModel D) (radio : RadioModel R) where
  -- one
  module _ (x : Step) (t : Told) (a b : World D R) (step : IsWorldStep radio x t a b) (made : IsStepMade disk t (durable_of a) (durable_of b)) (j : History) (stands : StandsFor a j) where
    abbrev before : CoreState
    before = (durable_of a).core

    -- what happens by what is told inside happens by what is told, from where the history stands
    one_happens : one_more before.confs x step.inside (record { happened = []; state = front_of before; heard = before.heard }) ≡ one_more j.confs x t (account_of j)
    one_happens =
        happens_alike radio a b before.confs x step.inside t (record { happened = []; state = front_of before; heard = before.heard }) step.joins
        ∙ (λ i. one_more (stands.confs i) x t (record { happened = []; state = front_is j before (λ r. waiting_outs r a) stands i; heard = stands.heard_so i }))

    abbrev es : List Happening
    es = (account_after j (x ∷ []) (t ∷ [])).happened

    abbrev heard : LastHeard
    heard = (account_after j (x ∷ []) (t ∷ [])).heard

    abbrev gives : Recipient → List Out
    gives r = handed_outs r x step.inside

    one_goes : Goes es gives before (durable_of b).core
    one_goes = subst (λ (zs : List Happening). Goes zs gives before (durable_of b).core) (ap (λ (z : Account). z.happened) one_happens) step.durable.goes

    one_heard : (durable_of b).core.heard ≡ heard
    one_heard = step.durable.heard ∙ ap (λ (z : Account). z.heard) one_happens

    one_flows : (r : Recipient) → outs_in_steps r (x ∷ []) (t ∷ []) ++ waiting_outs r b ≡ waiting_outs r a ++ gives r
    one_flows (Radio c) = ap (λ os. os ++ queue_of b c) (append-nil (applied_outs c x t)) ∙ flows radio a b c x step.inside t step.joins
    one_flows Control = append-nil (handed_outs Control x t ++ []) ∙ append-nil (handed_outs Control x t) ∙ sym (said_alike radio a b x step.inside t step.joins).0

    one_read : AllByRecursion (IsOf before) (all_answers (t ∷ []))
    one_read = all_both (IsOf before) (answers_in t) [] (subst (AllByRecursion (IsOf before)) (said_alike radio a b x step.inside t step.joins).1 (reads x step.inside (durable_of a) (durable_of b) step.durable.tells)) tt

    abbrev next : History
    next = later j before (λ r. waiting_outs r a) stands es heard gives (durable_of b).core one_goes one_heard (λ r. outs_in_steps r (x ∷ []) (t ∷ [])) (λ r. waiting_outs r b) one_flows (all_answers (t ∷ [])) one_read

    pub one_leads : LeadsOn disk (x ∷ []) (t ∷ []) a b j
    one_leads = record {
      later = next;
      safely = record {
        leads = record {
          each = refl;
          stands = stands_later j before (λ r. waiting_outs r a) stands es heard gives (durable_of b).core one_goes one_heard (λ r. outs_in_steps r (x ∷ []) (t ∷ [])) (λ r. waiting_outs r b) one_flows (all_answers (t ∷ [])) one_read;
          goes_on = record { only = refl; durable = omega arith };
        };
        proper = made.safe.proper;
        keeps = safe_keeps disk es (durable_of a) (durable_of b) (λ r. waiting_outs r a) j next made.safe stands refl refl refl;
      };
    }

  -- all
  pub all_lead : (xs : List Step) (ts : List Told) (a b : World D R) (j : History) → AreMadeInTurn disk radio xs ts a b → StandsFor a j → LeadsOn disk xs ts a b j
  all_lead [] [] a b j h stands = record { later = j; safely = subst (λ w. LeadsSafely disk [] [] a w j j) (sym h.0) (still_leads disk a a j h.1 stands stands) }
  all_lead (x ∷ xs) (t ∷ ts) a b j h stands =
      let first = one_leads x t a h.0 h.1 h.2 j stands in
      let rest = all_lead xs ts h.0 b first.later h.3 first.safely.leads.stands in
      record { later = rest.later; safely = then_safely disk (x ∷ []) xs (t ∷ []) ts a h.0 b j first.later rest.later first.safely rest.safely }
  all_lead xs ts a b j h stands = absurd h

  -- where they begin, a stop is safe
  safe_first : (xs : List Step) (ts : List Told) (a b : World D R) → AreMadeInTurn disk radio xs ts a b → IsSafe disk (durable_of a) (durable_of a)
  safe_first [] [] a b h = h.1
  safe_first (x ∷ xs) (t ∷ ts) a b h = h.4
  safe_first xs ts a b h = absurd h

  -- since so many of them
  pub lead_since : (n : ℕ) (xs : List Step) (ts : List Told) (a b : World D R) (j : History) → AreMadeInTurn disk radio xs ts a b → StandsFor a j → LeadsSince disk radio n xs ts a b j
  lead_since zero xs ts a b j h stands =
      let all = all_lead xs ts a b j h stands in
      let safe = safe_first xs ts a b h in
      record { mid = a; made = (refl, safe); others = h; between = j; later = all.later; first = still_leads disk a a j safe stands stands; rest = all.safely }
  lead_since (suc n) [] [] a b j h stands =
      let all = all_lead [] [] a b j h stands in
      record { mid = a; made = (refl, h.1); others = h; between = j; later = all.later; first = still_leads disk a a j h.1 stands stands; rest = all.safely }
  lead_since (suc n) (x ∷ xs) (t ∷ ts) a b j h stands =
      let one = one_leads x t a h.0 h.1 h.2 j stands in
      let more = lead_since n xs ts h.0 b one.later h.3 one.safely.leads.stands in
      record {
        mid = more.mid;
        made = (h.0, h.1, h.2, more.made, h.4);
        others = more.others;
        between = more.between;
        later = more.later;
        first = then_safely disk (x ∷ []) (take n xs) (t ∷ []) (take n ts) a h.0 more.mid j one.later more.between one.safely more.first;
        rest = more.rest;
      }
  lead_since (suc n) xs ts a b j h stands = absurd h
