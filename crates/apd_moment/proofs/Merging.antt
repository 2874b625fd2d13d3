-- The committing worker's steps, and the calls that others made in between, are one list of parts.
use Rattle.std.proofs.Common.{◌≡◌, true, List, [], ◌∷◌, ◌++◌, length, refl, sym, ap, subst, ◌∙◌, arith, append_assoc, length-append}
use Rattle.std.proofs.lemmas.List.{append-nil}
use mathlib.Core.List.{IsPrefix}
use Rattle.apd_core.specs.Core.{CoreState, held_for, ready_for}
use Rattle.apd_disk.specs.Disk.{DiskModel}
use Rattle.apd_flusher.specs.Outside.{flusher_device, flusher_of}
use Rattle.apd_flusher.specs.declared.committer.Committer.{Committer}
use Rattle.apd_history.specs.Calling.{AreLogged, by_committer}
use Rattle.apd_history.specs.Chain.{AreCalls, Call, IsCall, commits_by, commits_of, core_at, given_as, given_by}
use Rattle.apd_history.specs.declared.entry.Kind.{Kind}
use Rattle.apd_history.specs.declared.entry.Kind.TheVariants as kind
use Rattle.apd_mlme.specs.declared.decision.Recipient.{Recipient}
use Rattle.apd_steps.specs.Calls.{exactly}
use Rattle.apd_steps.specs.Run as worker
use Rattle.apd_world.specs.CoreRun.{Goes}
use Rattle.apd_world.specs.Proper.{IsSafe}
use Rattle.apd_world.specs.Shown.{flight_of}
use Rattle.apd_world.specs.Telling.{reception_of}
use Rattle.apd_world.specs.declared.durable_core.DurableCore.{DurableCore}
use Rattle.apd_world.specs.declared.step.Step.TheVariants.{Accept, Hand}
use Rattle.apd_world.specs.declared.step.Told.TheVariants.{Accepted, Handed}
use Rattle.apd_world.proofs.DurableSteps.{made_beside}
use Rattle.apd_world.proofs.FromSteps.{accepts, calls, fails, gives_out, publishes_made, takes_made}
use Rattle.apd_world.proofs.Goings.{goes_beside, goes_handed}
use Rattle.apd_moment.specs.Parts.{AreParts, IsPart, OneStep, Fail, Part, handed_as, of_committer, part_of, parts_of}
use Rattle.apd_moment.proofs.Calls.{calls_split, commits_of-append, core_at-append}
use Rattle.apd_moment.proofs.Runs.{went_behind}

of_committer-append : (ps qs : List Part) → of_committer (ps ++ qs) ≡ of_committer ps ++ of_committer qs
of_committer-append [] qs = refl
of_committer-append (OneStep (Accept i m) told ∷ ps) qs = of_committer-append ps qs
of_committer-append (OneStep (Hand to) told ∷ ps) qs = of_committer-append ps qs
of_committer-append (p ∷ ps) qs = ap (λ os. p ∷ os) (of_committer-append ps qs)

-- ---- a call by which nothing happens, and nothing is given
no_more : {A : Type 0} (xs ys : List A) → xs ++ ys ≡ ys → xs ≡ []
no_more [] ys e = refl
no_more (x ∷ xs) ys e = let long = ap length e in let both = length-append xs ys in absurd (omega (arith, long, both))

none_handed : (r to : Recipient) (old new : CoreState) → IsCall (kind.Hand to) old new → Goes [] (λ _. []) old new → given_as r (kind.Hand to) old ≡ []
none_handed r to old new called goes =
    let by_call : Goes [] (λ (q : Recipient). given_as q (kind.Hand to) old) old new =
    subst (λ (s : CoreState). Goes [] (λ (q : Recipient). given_as q (kind.Hand to) old) old s) (sym called.1.1) (goes_handed to old called.0) in
    no_more (given_as r (kind.Hand to) old) (held_for r new) (by_call.outs r ∙ sym (goes.outs r))

none_given : (r : Recipient) (k : Kind) (old new : CoreState) → IsCall k old new → Goes [] (λ _. []) old new → given_as r k old ≡ []
none_given r (kind.Hand to) old new called goes = none_handed r to old new called goes
none_given r kind.Submit old new called goes = refl
none_given r kind.Take old new called goes = refl
none_given r kind.Publish old new called goes = refl
none_given r kind.Fail old new called goes = refl

none_logged : (r : Recipient) (old new : CoreState) (logged : List Call) → AreLogged old new logged → AreCalls old logged → Goes [] (λ _. []) old new
    → [] ≡ given_by r logged
none_logged r old new [] is are goes = refl
none_logged r old new (c ∷ []) is are goes =
    let here : Goes [] (λ (_ : Recipient). []) c.before c.after = subst (λ X. X) (λ i. Goes [] (λ (_ : Recipient). []) (sym is.0 i) (sym is.1 i)) goes in
    sym (append-nil (given_as r c.kind c.before) ∙ none_given r c.kind c.before c.after are.1 here)
none_logged r old new (c ∷ d ∷ cs) is are goes = absurd is

module _ {D : Type 0} (disk : DiskModel D) where
  -- ---- parts
  parts_then : (ps qs : List Part) (cs ds : List Call) (a b c : DurableCore D) → AreParts disk ps cs a b → AreParts disk qs ds b c → AreParts disk (ps ++ qs) (cs ++ ds) a c
  parts_then [] qs cs ds a b c past more =
      subst (λ (ls : List Call). AreParts disk qs (ls ++ ds) a c) (sym past.0) (subst (λ (x : DurableCore D). AreParts disk qs ds x c) past.1 more)
  parts_then (p ∷ ps) qs cs ds a b c past more = (
    past.0,
    past.1,
    past.2 ++ ds,
    past.3,
    past.4,
    ap (λ ls. ls ++ ds) past.5 ∙ append_assoc past.1 past.2 ds,
    parts_then ps qs past.2 ds past.0 b c past.6 more,
  )

  -- they lead there: so many of the worker's, and with these calls
  pub record Leads (own : List Part) (calls : List Call) (a b : DurableCore D) : Type 0 where
    pub parts : List Part
    pub are : AreParts disk parts calls a b
    pub own_are : of_committer parts ≡ own

  none_leads : (a : DurableCore D) → Leads [] [] a a
  none_leads a = record { parts = []; are = (refl, refl); own_are = refl }

  then_leads : (own more : List Part) (cs ds : List Call) (a b c : DurableCore D) → Leads own cs a b → Leads more ds b c → Leads (own ++ more) (cs ++ ds) a c
  then_leads own more cs ds a b c first second = record {
    parts = first.parts ++ second.parts;
    are = parts_then first.parts second.parts cs ds a b c first.are second.are;
    own_are = of_committer-append first.parts second.parts ∙ (λ i. first.own_are i ++ second.own_are i);
  }

  -- ---- others' calls, beside a committer
  -- a stop leaves now what it may, whatever the core
  abbrev pub Stops : Committer D → Type 0
  Stops c = worker.StopsSafely disk c (flusher_device (flusher_of c))

  pub safe_here : (d : DurableCore D) → Stops d.committer → IsSafe disk d d
  safe_here d stops = record { whole = λ h. h; proper = λ p. p; inside = λ p. stops d.core.settled (flight_of d.core) d.core.failed p.whole p.imaged }

  other_leads : (k : Kind) (d : DurableCore D) (core : CoreState) → IsCall k d.core core → commits_by k ≡ 0 → Stops d.committer
      → Leads [] (record { kind = k; before = d.core; after = core } ∷ []) d (record d { core = core })
  other_leads kind.Submit d core called quiet stops =
      let call : Call = record { kind = kind.Submit; before = d.core; after = core } in
      let told = Accepted (reception_of called.2) in
      let next = record d { core = core } in
      let both = accepts disk d core (safe_here d stops) called.0 called.1 (reception_of called.2) called.2 refl called.3 in
      record {
        parts = OneStep (Accept called.0 called.1) told ∷ [];
        are = (next, call ∷ [], [], (both.0, made_beside disk told d next refl (λ is. cc) both.1), ((refl, refl), λ r. append-nil (given_as r call.kind d.core)), refl, (refl, refl));
        own_are = refl;
      }
  other_leads (kind.Hand to) d core called quiet stops =
      let call : Call = record { kind = kind.Hand to; before = d.core; after = core } in
      let told = Handed (ready_for to d.core) in
      let next = record d { core = core } in
      let both = gives_out disk d core (safe_here d stops) to (ready_for to d.core) (ready_for to d.core) refl called in
      record {
        parts = OneStep (Hand to) told ∷ [];
        are = (next, call ∷ [], [], (both.0, made_beside disk told d next refl (λ is. cc) both.1), ((refl, refl), λ r. append-nil (given_as r call.kind d.core)), refl, (refl, refl));
        own_are = refl;
      }
  other_leads kind.Take d core called quiet stops = absurd (omega (arith, quiet))
  other_leads kind.Publish d core called quiet stops = absurd (omega (arith, quiet))
  other_leads kind.Fail d core called quiet stops = absurd (omega (arith, quiet))

  others_lead : (cs : List Call) (d : DurableCore D) → AreCalls d.core cs → commits_of cs ≡ 0 → Stops d.committer → Leads [] cs d (record d { core = core_at d.core cs })
  others_lead [] d are quiet stops = none_leads d
  others_lead (c ∷ cs) d are quiet stops =
      let next = record d { core = c.after } in
      let called : IsCall c.kind d.core c.after = subst (λ (s : CoreState). IsCall c.kind s c.after) are.0 are.1 in
      let one = other_leads c.kind d c.after called (omega (arith, quiet)) stops in
      let first : Leads [] (c ∷ []) d next = subst (λ (s : CoreState). Leads [] (record { kind = c.kind; before = s; after = c.after } ∷ []) d next) (sym are.0) one in
      then_leads [] [] (c ∷ []) cs d next (record d { core = core_at c.after cs }) first (others_lead cs next are.2 (omega (arith, quiet)) stops)

  -- ---- a step of the worker
  module _ (old new : DurableCore D) (logged : List Call) (is : AreLogged old.core new.core logged) (are : AreCalls old.core logged) where
    one_leads : (part : Part) → IsPart disk part old new → of_committer (part ∷ []) ≡ part ∷ [] → ((r : Recipient) → handed_as r part ≡ []) → Goes [] (λ _. []) old.core new.core
        → Leads (part ∷ []) logged old new
    one_leads part made own none goes = record {
      parts = part ∷ [];
      are = (new, logged, [], made, (is, λ r. sym (none_logged r old.core new.core logged is are goes) ∙ sym (none r)), sym (append-nil logged), (refl, refl));
      own_are = own;
    }

    own_leads : (step : worker.Step) → worker.IsStep disk exactly step old.core new.core old.committer new.committer → Leads (part_of step ∷ []) logged old new
    own_leads (worker.Take given told) h =
        let both = takes_made disk old new given told h in
        one_leads (part_of (worker.Take given told)) both refl (λ r. refl) both.0.goes
    own_leads (worker.Call told) h =
        let both = calls disk old new told h in
        one_leads (part_of (worker.Call told)) both refl (λ r. refl) both.0.goes
    own_leads (worker.Publish receipt told) h =
        let both = publishes_made disk old new receipt told h in
        one_leads (part_of (worker.Publish receipt told)) both refl (λ r. refl) both.0.goes
    own_leads worker.Fail h =
        let both = fails disk old new h in
        let s = old.core in
        one_leads Fail both refl (λ r. refl)
        (subst (λ (d : DurableCore D). Goes [] (λ (_ : Recipient). []) old.core d.core) (sym both.0) (goes_beside s s.flight s.heard true))

  -- ---- a run
  module _ (begun : DurableCore D) where
    abbrev at : List Call → Committer D → DurableCore D
    at calls c = record { core = core_at begun.core calls; committer = c }

    others_at : (front others : List Call) (c : Committer D) → AreCalls begun.core (front ++ others) → commits_of others ≡ 0 → Stops c → Leads [] others (at front c) (at (front ++ others) c)
    others_at front others c are quiet stops =
        subst (λ (s : CoreState). Leads [] others (at front c) (record { core = s; committer = c })) (sym (core_at-append begun.core front others))
        (others_lead others (at front c) (calls_split begun.core front others are).1 quiet stops)

    step_leads : (step : worker.Step) (before : List Part) (front then : List Call) (b c : Committer D) → Leads before front begun (at front b) → AreCalls begun.core then
        → worker.IsStep disk (by_committer begun.core) step front then b c → Leads (before ++ part_of step ∷ []) then begun (at then c)
    step_leads step before front then b c past are h =
        let went = went_behind begun.core front then b c step h.does in
        let behind = went.behind in
        let others = behind.others in
        let parts : AreCalls begun.core (front ++ others) × AreCalls (core_at begun.core (front ++ others)) behind.logged =
        calls_split begun.core (front ++ others) behind.logged (subst (λ (cs : List Call). AreCalls begun.core cs) behind.all are) in
        let exact : worker.IsStep disk exactly step (core_at begun.core (front ++ others)) (core_at begun.core then) b c =
        record { does = went.does; whole = h.whole; keeps = h.keeps; before = h.before; since = h.since } in
        let between = others_at front others b parts.0 behind.quiet h.before in
        let own = own_leads (at (front ++ others) b) (at then c) behind.logged behind.is parts.1 step exact in
        let so_far = then_leads before [] front others begun (at front b) (at (front ++ others) b) past between in
        let all = then_leads (before ++ []) (part_of step ∷ []) (front ++ others) behind.logged begun (at (front ++ others) b) (at then c) so_far own in
        subst (λ X. X) (λ i. Leads (append-nil before i ++ part_of step ∷ []) (sym behind.all i) begun (at then c)) all

    run_leads : (steps : List worker.Step) (front : List Call) (c : Committer D) → worker.AreSteps disk (by_committer begun.core) steps [] front begun.committer c → AreCalls begun.core front
        → Leads (parts_of steps) front begun (at front c)
    run_leads [] front c h are = subst (λ X. X) (λ i. Leads [] (sym h.0 i) begun (at (sym h.0 i) (sym h.1 i))) (none_leads begun)
    run_leads (step ∷ steps) front c h are =
        let made = h.3 in
        let went = went_behind begun.core h.0 front h.1 c step made.does in
        let whole : AreCalls begun.core ((h.0 ++ went.behind.others) ++ went.behind.logged) = subst (λ (cs : List Call). AreCalls begun.core cs) went.behind.all are in
        let first = (calls_split begun.core h.0 went.behind.others (calls_split begun.core (h.0 ++ went.behind.others) went.behind.logged whole).0).0 in
        step_leads step (parts_of steps) h.0 front h.1 c (run_leads steps h.0 h.1 h.2 first) are made

    -- and what others did since
    pub all_lead : (steps : List worker.Step) (front all : List Call) (c : Committer D) → worker.AreSteps disk (by_committer begun.core) steps [] front begun.committer c → AreCalls begun.core all
        → IsPrefix front all → commits_of all ≡ commits_of front → Stops c → Leads (parts_of steps) all begun (at all c)
    all_lead steps front all c run are prefix alone stops =
        let rest = prefix.0 in
        let whole : AreCalls begun.core (front ++ rest) = subst (λ (cs : List Call). AreCalls begun.core cs) (sym prefix.1) are in
        let count = commits_of-append front rest in
        let same = ap commits_of prefix.1 in
        let quiet : commits_of rest ≡ 0 = omega (arith, count, same, alone) in
        let past = run_leads steps front c run (calls_split begun.core front rest whole).0 in
        let more = others_at front rest c whole quiet stops in
        subst (λ X. X) (λ i. Leads (append-nil (parts_of steps) i) (prefix.1 i) begun (at (prefix.1 i) c))
        (then_leads (parts_of steps) [] front rest begun (at front c) (at (front ++ rest) c) past more)
