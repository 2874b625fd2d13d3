-- The outs of a list of steps leave in order.
use Rattle.std.proofs.Common.{◌≡◌, List, [], ◌∷◌, ◌++◌, sym, ap, subst, ◌∙◌, append_assoc}
use Rattle.std.proofs.lemmas.List.{append-nil}
use Rattle.apd_world.proofs.Words.{Account, AreMadeInTurn, Control, CoreState, DiskModel, Goes, Happening, IsWorldStep, Out, Radio, RadioModel, Recipient, Step, Told, World, account, durable_of, front_of, handed_outs, held_for, one_more, outs_run}
use Rattle.apd_world.specs.Order.{KeepsOrder, account_here, happened_by, outs_to_come}
use Rattle.apd_world.specs.StandsFor.{outs_in_step, outs_in_steps, waiting_outs}
use Rattle.apd_world.proofs.Accounts.{account_behind}
use Rattle.apd_world.proofs.Goings.{outs_run-append}
use Rattle.apd_world.proofs.HistoryLemmas.{happens_alike, said_alike}
use Rattle.apd_world.proofs.Moving.{flows}

-- what was given, what waits and what is held; and the same, of the steps behind these
one_in_order : {A : Type 0} (said waits held given wait hold outs : List A) → said ++ wait ≡ waits ++ given → given ++ hold ≡ held ++ outs → said ++ (wait ++ hold) ≡ (waits ++ held) ++ outs
one_in_order said waits held given wait hold outs flow core =
    sym (append_assoc said wait hold) ∙ ap (λ os. os ++ hold) flow ∙ append_assoc waits given hold ∙ ap (λ os. waits ++ os) core ∙ sym (append_assoc waits held outs)

then_in_order : {A : Type 0} (said more old mid new outs others all : List A) → said ++ mid ≡ old ++ outs → more ++ new ≡ mid ++ others → all ≡ outs ++ others → (said ++ more) ++ new ≡ old ++ all
then_in_order said more old mid new outs others all first rest parts =
    append_assoc said more new ∙ ap (λ os. said ++ os) rest ∙ sym (append_assoc said mid others) ∙ ap (λ os. os ++ others) first ∙ append_assoc old outs others ∙ ap (λ os. old ++ os) (sym parts)

module _ {D R : Type 0} (radio : RadioModel R) (x : Step) (t : Told) (a b : World D R) (step : IsWorldStep radio x t a b) where
  abbrev before : CoreState
  before = (durable_of a).core

  abbrev next : Account
  next = one_more before.confs x t (account_here a)

  abbrev gives : Recipient → List Out
  gives r = handed_outs r x step.inside

  alike : one_more before.confs x step.inside (account_here a) ≡ next
  alike = happens_alike radio a b before.confs x step.inside t (account_here a) step.joins

  goes : Goes next.happened gives before (durable_of b).core
  goes = subst (λ (zs : List Happening). Goes zs gives before (durable_of b).core) (ap (λ (z : Account). z.happened) alike) step.durable.goes

  one_flows : (r : Recipient) → outs_in_step r x t ++ waiting_outs r b ≡ waiting_outs r a ++ gives r
  one_flows (Radio c) = flows radio a b c x step.inside t step.joins
  one_flows Control = append-nil (handed_outs Control x t) ∙ sym (said_alike radio a b x step.inside t step.joins).0

  one_ordered : (r : Recipient) → outs_in_step r x t ++ outs_to_come r b ≡ outs_to_come r a ++ outs_run r (front_of before) before.confs next.happened
  one_ordered r =
      one_in_order (outs_in_step r x t) (waiting_outs r a) (held_for r before) (gives r) (waiting_outs r b) (held_for r (durable_of b).core) (outs_run r (front_of before) before.confs next.happened)
      (one_flows r) (goes.outs r)

  -- the next world stands where this one's account does then
  here : account_here b ≡ record { happened = []; state = next.state; heard = next.heard }
  here = (λ i. record { happened = []; state = goes.front i; heard = (step.durable.heard ∙ ap (λ (z : Account). z.heard) alike) i })

  module _ (xs : List Step) (ts : List Told) where
    parts : happened_by (x ∷ xs) (t ∷ ts) a ≡ next.happened ++ happened_by xs ts b
    parts =
        ap (λ (z : Account). z.happened) (account_behind before.confs xs ts next.happened next.state next.heard)
        ∙ (λ i. next.happened ++ (account (sym goes.confs i) xs ts (sym here i)).happened)

    all_outs : (r : Recipient) → outs_run r (front_of before) before.confs (happened_by (x ∷ xs) (t ∷ ts) a)
        ≡ outs_run r (front_of before) before.confs next.happened ++ outs_run r (front_of (durable_of b).core) (durable_of b).core.confs (happened_by xs ts b)
    all_outs r =
        ap (outs_run r (front_of before) before.confs) parts ∙ outs_run-append r before.confs next.happened (happened_by xs ts b) (front_of before)
        ∙ (λ i. outs_run r (front_of before) before.confs next.happened ++ outs_run r (sym goes.front i) (sym goes.confs i) (happened_by xs ts b))

module _ {D R : Type 0} (disk : DiskModel D) (radio : RadioModel R) where
  pub in_order : (xs : List Step) (ts : List Told) (a b : World D R) → AreMadeInTurn disk radio xs ts a b → KeepsOrder xs ts a b
  in_order [] [] a b h = λ r. ap (outs_to_come r) h.0 ∙ sym (append-nil (outs_to_come r a))
  in_order (x ∷ xs) (t ∷ ts) a b h = λ r.
      let mid = h.0 in
      then_in_order (outs_in_step r x t) (outs_in_steps r xs ts) (outs_to_come r a) (outs_to_come r mid) (outs_to_come r b)
      (outs_run r (front_of (durable_of a).core) (durable_of a).core.confs (one_more (durable_of a).core.confs x t (account_here a)).happened)
      (outs_run r (front_of (durable_of mid).core) (durable_of mid).core.confs (happened_by xs ts mid))
      (outs_run r (front_of (durable_of a).core) (durable_of a).core.confs (happened_by (x ∷ xs) (t ∷ ts) a))
      (one_ordered radio x t a mid h.1 r) (in_order xs ts mid b h.3 r) (all_outs radio x t a mid h.1 xs ts r)
  in_order xs ts a b h = absurd h
