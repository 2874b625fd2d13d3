-- Runs, one after another, and what is safely made by them.
use Rattle.std.proofs.Common.{false, Option, Some, inl, inr, ⊎_elim, Result, Ok, Err, ◌≡◌, ◌≢◌, ◌⊎◌, ℕ, zero, suc, ◌+◌, ◌<◌, ◌≤◌, ◌^◌, List, [], ◌∷◌, ◌++◌, length, take, get_or, add-one, refl, sym, ap, subst, ◌∙◌, arith, append_assoc, length-append}
use Rattle.std.specs.Option.{unwrap_or}
use Rattle.std.specs.Prelude.{⊤, OnErr, map, replicate}
use Rattle.std.specs.List.{All, AllByRecursion, Contains}
use Rattle.std.proofs.lemmas.Bool.{cases_lt}
use Rattle.std.proofs.lemmas.List.{append-nil, map-append, replicate_more}
use Rattle.std.proofs.lemmas.List.Elements.{All-append, All-cons, All-head, All-map, All-nil, All-push, All-tail, All-weaker}
use Rattle.std.proofs.lemmas.Grind.{flat_map-append}
use Rattle.std.proofs.Math.Seq.{take-append_seam, take-suc}
use Rattle.apd_world.proofs.Words.{Accept, Accepted, Applied, Apply, AreAccepted, AreAllApplied, AreAnswered, AreExact, AreFollowing, AreMadeInTurn, AreSafelyMade, Ask, Bssid, Call, Called, Commit, Conf, Configure, Control, CoreState, Device, DiskModel, DurableCore, GoesQuietly, Hand, Handed, Happening, HasGoneOn, HasMetNoRefusal, HasRisen, HoldsReplies, IsAtRest, IsFlushed, IsForRadio, IsGiven, IsHandedOut, IsHanding, IsNoRefusal, IsProper, IsRound, IsSafe, IsSafeAtBoth, IsStepMade, IsWhole, IsWorldStep, Joins, Loaded, NoMemory, Nothing, OnlyHands, Out, Publish, Published, Queued, QuietReason, Radio, RadioModel, Recipient, Step, Take, Tells, Told, World, after_handing_out, answer_of, applied_outs, applies, commit_of, device_of, durable_of, hands, held_for, last_of, queue_if, queue_of, radio_hands, ready_for, recipient_of, round, rounds, slot_at, slots_of, up_to}
use Rattle.apd_core.specs.Held.{HeldOuts}
use Rattle.apd_core.proofs.CoreLemmas.{hand_others}
use Rattle.apd_core.proofs.HeldLemmas.{queue_of-after_hand_other}
use Rattle.apd_core.specs.declared.publish_fault.PublishFault.{PublishFault}
use Rattle.apd_core.specs.declared.publish_fault.PublishFault.TheVariants as publish_fault
use Rattle.apd_world.specs.Starting.{AreConfiguring, IsStarted, request_of}
use Rattle.apd_world.specs.declared.step.Commit.TheVariants as commit
use Rattle.apd_world.specs.declared.step.Told.TheVariants.{Answered as Read}
use Rattle.apd_world.proofs.FollowLemmas.{following}
use Rattle.apd_world.proofs.Goings.{is_or_not, ready_none, turned}
use Rattle.apd_world.proofs.HistoryLemmas.{lead_since}
use Rattle.apd_world.proofs.Moving.{exact, flows, no_slot}
use Rattle.apd_world.proofs.DurableSteps.{none_some}

-- ---- what is told more
more_told : {X : Type 0} (t : X) (ts : List X) (x : X) → Contains (t ∷ ts) x → (t ≡ x) ⊎ Contains ts x
more_told t ts x (zero, lt, is) = inl is
more_told t ts x (suc k, lt, is) = inr (k, omega (arith, lt), is)

-- a count that rose has risen since before, and later
pub risen_since : (first mid last : ℕ) → HasRisen mid last → first ≤ mid → mid ≤ last → HasRisen first last
risen_since first mid last risen before later below = elim (cases_lt (mid + 1) (2 ^ 64)) [
  | inl room ↦ (let more = risen room in omega (arith, more, before))
  | inr top ↦ omega (arith, top, below, later)
]

-- ---- one step after the other
module _ {D R : Type 0} (disk : DiskModel D) (radio : RadioModel R) where
  abbrev In_turn : List Step → List Told → World D R → World D R → Type 0
  In_turn xs ts a b = AreMadeInTurn disk radio xs ts a b

  abbrev pub failures : World D R → ℕ
  failures w = disk.failed (device_of (durable_of w))

  turn_then : (xs ys : List Step) (ts us : List Told) (a b c : World D R) → In_turn xs ts a b → In_turn ys us b c → In_turn (xs ++ ys) (ts ++ us) a c
  turn_then [] ys [] us a b c past more = subst (λ w. In_turn ys us w c) past.0 more
  turn_then (x ∷ xs) ys (t ∷ ts) us a b c past more = (past.0, past.1, past.2, turn_then xs ys ts us past.0 b c past.3 more, past.4)
  turn_then xs ys ts us a b c past more = absurd past

  -- what each step keeps
  pub kept : (P : World D R → Type 0) → ((x : Step) (t : Told) (a b : World D R) → IsWorldStep radio x t a b → IsStepMade disk t (durable_of a) (durable_of b) → P a → P b)
      → (xs : List Step) (ts : List Told) (a b : World D R) → In_turn xs ts a b → P a → P b
  kept P each [] [] a b h was = subst P (sym h.0) was
  kept P each (x ∷ xs) (t ∷ ts) a b h was = kept P each xs ts h.0 b h.3 (each x t a h.0 h.1 h.2 was)
  kept P each xs ts a b h was = absurd h

  pub turn_length : (xs : List Step) (ts : List Told) (a b : World D R) → In_turn xs ts a b → length ts ≡ length xs
  turn_length [] [] a b h = refl
  turn_length (x ∷ xs) (t ∷ ts) a b h = ap suc (turn_length xs ts h.0 b h.3)
  turn_length xs ts a b h = absurd h

  pub same_confs : (xs : List Step) (ts : List Told) (a b : World D R) → In_turn xs ts a b → (durable_of b).core.confs ≡ (durable_of a).core.confs
  same_confs xs ts a b h = kept (λ w. (durable_of w).core.confs ≡ (durable_of a).core.confs) (λ x t v w step made same. step.durable.goes.confs ∙ same) xs ts a b h refl

  later_count : (xs : List Step) (ts : List Told) (a b : World D R) → In_turn xs ts a b → failures a ≤ failures b
  later_count xs ts a b h = kept (λ w. failures a ≤ failures w) (λ x t v w step made before. let more = made.count in omega (arith, before, more)) xs ts a b h (omega arith)

  risen_in_turn : (xs : List Step) (ts : List Told) (a b : World D R) → In_turn xs ts a b → Contains ts (Called (Err Device)) → HasRisen (failures a) (failures b)
  risen_in_turn [] [] a b h (k, lt, is) = absurd (omega (arith, lt))
  risen_in_turn (x ∷ xs) (t ∷ ts) a b h some = ⊎_elim
      (λ one. λ below. let now = h.2.fault one below in let later = later_count xs ts h.0 b h.3 in omega (arith, now, later))
      (λ more. risen_since (failures a) (failures h.0) (failures b) (risen_in_turn xs ts h.0 b h.3 more) h.2.count (later_count xs ts h.0 b h.3))
      (more_told t ts (Called (Err Device)) some)
  risen_in_turn xs ts a b h some = absurd h

  all_made : (xs : List Step) (ts : List Told) (a b : World D R) → In_turn xs ts a b → AreSafelyMade disk radio xs ts a b
  all_made xs ts a b h = record {
    in_turn = h;
    whole = kept (λ w. IsWhole disk (durable_of w)) (λ x t v w step made. made.safe.whole) xs ts a b h;
    proper = kept (λ w. IsProper disk (durable_of w)) (λ x t v w step made. made.safe.proper) xs ts a b h;
    leads = λ j stands n. lead_since disk radio n xs ts a b j h stands;
    exact = kept (λ w. AreExact radio (slots_of w)) (λ x t v w step made. exact radio v w x step.inside t step.joins) xs ts a b h;
    following = kept AreFollowing (λ x t v w step made. following radio v w x t step) xs ts a b h;
    count = later_count xs ts a b h;
    risen = risen_in_turn xs ts a b h;
  }

-- ---- what is refused
-- a step that is not the store's
abbrev pub IsBeside : Step → Type 0
IsBeside Take = ⊥
IsBeside Call = ⊥
IsBeside Publish = ⊥
IsBeside step = ⊤

pub handing_beside : (x : Step) → IsHanding x → IsBeside x
handing_beside (Hand r) h = tt
handing_beside (Apply b) h = tt
handing_beside x h = absurd h

pub asked_beside : (x : Step) (o : Option (Result Happening QuietReason)) → request_of x ≡ Some o → IsBeside x
asked_beside Take o is = none_some (request_of Take) o refl is
asked_beside Call o is = none_some (request_of Call) o refl is
asked_beside Publish o is = none_some (request_of Publish) o refl is
asked_beside x o is = tt

-- a round in which none is told comes to one of these
abbrev pub IsUnrefused : Commit → Type 0
IsUnrefused commit.Settled = ⊤
IsUnrefused commit.Nothing = ⊤
IsUnrefused answer = ⊥

first_unrefused : (t : Told) (rest : Commit) → IsUnrefused (unwrap_or (commit_of t) rest) → IsNoRefusal t
first_unrefused (Loaded (Err f)) rest h = h
first_unrefused (Called (Err f)) rest h = h
first_unrefused (Published (Err publish_fault.Foreign)) rest h = h
first_unrefused (Published (Err publish_fault.NoMemory)) rest h = h
first_unrefused t rest h = tt

rest_unrefused : (t : Told) (rest : Commit) → ((r : Result (Unit {0}) PublishFault) → t ≡ Published r → ⊥) → IsUnrefused (unwrap_or (commit_of t) rest) → IsUnrefused rest
rest_unrefused (Published r) rest other h = absurd (other r refl)
rest_unrefused (Loaded (Err f)) rest other h = absurd h
rest_unrefused (Called (Err f)) rest other h = absurd h
rest_unrefused NoMemory rest other h = absurd h
rest_unrefused t rest other h = h

module _ {D R : Type 0} (disk : DiskModel D) (radio : RadioModel R) where
  -- a step that is not the store's is told no refusal
  beside_none : (x : Step) (i t : Told) (a b : World D R) → IsBeside x → Tells x i (durable_of a) (durable_of b) → Joins radio x i t a b → IsNoRefusal t
  beside_none (Accept m h) (Accepted answer) t a b beside tells joins = subst IsNoRefusal (sym joins.0) tt
  beside_none (Accept m h) NoMemory t a b beside tells joins = subst IsNoRefusal (sym joins.0) tt
  beside_none (Ask q) (Read answer) t a b beside tells joins = subst IsNoRefusal (sym joins.0) tt
  beside_none (Ask q) NoMemory t a b beside tells joins = subst IsNoRefusal (sym joins.0) tt
  beside_none (Hand Control) (Handed outs) t a b beside tells joins = subst IsNoRefusal (sym joins.0) tt
  beside_none (Hand Control) NoMemory t a b beside tells joins = subst IsNoRefusal (sym joins.0) tt
  beside_none (Hand (Radio r)) (Handed outs) (Queued count) a b beside tells joins = tt
  beside_none (Hand (Radio r)) NoMemory NoMemory a b beside tells joins = tt
  beside_none (Hand (Radio r)) Nothing Nothing a b beside tells joins = tt
  beside_none (Hand (Radio r)) i t a b beside tells joins = absurd joins
  beside_none (Apply r) Nothing (Applied out answer) a b beside tells joins = tt
  beside_none (Apply r) Nothing NoMemory a b beside tells joins = tt
  beside_none (Apply r) Nothing Nothing a b beside tells joins = tt
  beside_none (Apply r) Nothing t a b beside tells joins = absurd joins.goes.first
  beside_none Take i t a b beside tells joins = absurd beside
  beside_none Call i t a b beside tells joins = absurd beside
  beside_none Publish i t a b beside tells joins = absurd beside
  beside_none x i t a b beside tells joins = absurd tells

  pub one_unrefused : (x : Step) (t : Told) (a b : World D R) → IsBeside x → IsWorldStep radio x t a b → All IsNoRefusal (t ∷ [])
  one_unrefused x t a b beside step = All-cons IsNoRefusal t [] (beside_none x step.inside t a b beside step.durable.tells step.joins) (All-nil IsNoRefusal)

  calls_unrefused : (n : ℕ) (ts : List Told) (a b : World D R) → AreMadeInTurn disk radio (replicate n Call ++ Publish ∷ []) ts a b → IsUnrefused (answer_of ts) → All IsNoRefusal ts
  calls_unrefused zero (t ∷ []) a b h u = All-cons IsNoRefusal t [] (first_unrefused t commit.Nothing u) (All-nil IsNoRefusal)
  calls_unrefused (suc n) (t ∷ ts) a b h u =
      All-cons IsNoRefusal t ts (first_unrefused t (answer_of ts) u) (calls_unrefused n ts h.0 b h.3
      (rest_unrefused t (answer_of ts) (λ r is. subst (λ z. Tells Call z (durable_of a) (durable_of h.0)) (sym h.1.joins.0 ∙ is) h.1.durable.tells) u))
  calls_unrefused zero (t ∷ ts) a b h u = absurd h.3
  calls_unrefused n ts a b h u = absurd h

  round_unrefused : (n : ℕ) (ts : List Told) (a b : World D R) → AreMadeInTurn disk radio (round n) ts a b → IsUnrefused (answer_of ts) → All IsNoRefusal ts
  round_unrefused n (t ∷ ts) a b h u =
      All-cons IsNoRefusal t ts (first_unrefused t (answer_of ts) u) (calls_unrefused n ts h.0 b h.3
      (rest_unrefused t (answer_of ts) (λ r is. subst (λ z. Tells Take z (durable_of a) (durable_of h.0)) (sym h.1.joins.0 ∙ is) h.1.durable.tells) u))
  round_unrefused n ts a b h u = absurd h

-- ---- what is safely made
module _ {D R : Type 0} (disk : DiskModel D) (radio : RadioModel R) where
  abbrev Safe : List Step → List Told → World D R → World D R → Type 0
  Safe xs ts a b = AreSafelyMade disk radio xs ts a b

  pub none_made : (w : World D R) → IsSafe disk (durable_of w) (durable_of w) → Safe [] [] w w
  none_made w here = all_made disk radio [] [] w w (refl, here)

  pub one_made : (x : Step) (t : Told) (a b : World D R) → IsWorldStep radio x t a b → IsStepMade disk t (durable_of a) (durable_of b)
      → IsSafeAtBoth disk (durable_of a) (durable_of b) → Safe (x ∷ []) (t ∷ []) a b
  one_made x t a b step made here = all_made disk radio (x ∷ []) (t ∷ []) a b (b, step, made, (refl, here.1), here.0)

  pub made_then : (xs ys : List Step) (ts us : List Told) (a b c : World D R) → Safe xs ts a b → Safe ys us b c → Safe (xs ++ ys) (ts ++ us) a c
  made_then xs ys ts us a b c past more = all_made disk radio (xs ++ ys) (ts ++ us) a c (turn_then disk radio xs ys ts us a b c past.in_turn more.in_turn)

  -- the next of these steps
  pub next_made : (steps : List Step) (i : ℕ) (ts us : List Told) (d : Step) (t : Told) (a b c : World D R) → Safe (take i steps) ts a b → i < length steps
      → IsWorldStep radio (get_or steps i d) t b c → IsStepMade disk t (durable_of b) (durable_of c) → IsSafeAtBoth disk (durable_of b) (durable_of c) → us ≡ ts ++ t ∷ []
      → Safe (take (i + 1) steps) us a c
  next_made steps i ts us d t a b c past lt step made here now =
      let x = get_or steps i d in
      let more : take (i + 1) steps ≡ take i steps ++ x ∷ [] = ap (λ n. take n steps) (add-one i) ∙ take-suc steps i d lt in
      subst (λ vs. Safe (take (i + 1) steps) vs a c) (sym now) (subst (λ ys. Safe ys (ts ++ t ∷ []) a c) (sym more) (made_then (take i steps) (x ∷ []) ts (t ∷ []) a b c past (one_made x t b c step made here)))

  -- some are, and none told a refusal
  abbrev Unrefused : World D R → World D R → Type 0
  Unrefused a b = HasMetNoRefusal disk radio a b

  pub none_gone : (w : World D R) → Safe [] [] w w → Unrefused w w
  none_gone w made = record { gone_on = record { steps = []; tolds = []; made = made }; none = All-nil IsNoRefusal }

  pub one_gone : (x : Step) (t : Told) (a b : World D R) → IsBeside x → IsWorldStep radio x t a b → IsStepMade disk t (durable_of a) (durable_of b) → IsSafeAtBoth disk (durable_of a) (durable_of b) → Unrefused a b
  one_gone x t a b beside step made here = record { gone_on = record { steps = x ∷ []; tolds = t ∷ []; made = one_made x t a b step made here }; none = one_unrefused disk radio x t a b beside step }

  pub gone_then : (xs : List Step) (ts : List Told) (a b c : World D R) → Safe xs ts a b → HasGoneOn disk radio b c → HasGoneOn disk radio a c
  gone_then xs ts a b c past g = record { steps = xs ++ g.steps; tolds = ts ++ g.tolds; made = made_then xs g.steps ts g.tolds a b c past g.made }

  pub unrefused_then : (xs : List Step) (ts : List Told) (a b c : World D R) → Safe xs ts a b → All IsNoRefusal ts → Unrefused b c → Unrefused a c
  unfolding gone_then
  unrefused_then xs ts a b c past none h = record { gone_on = gone_then xs ts a b c past h.gone_on; none = All-append IsNoRefusal ts h.gone_on.tolds none h.none }

  -- ---- what is answered
  abbrev Answered : List Step → List (Recipient × Told) → List (Recipient × Told) → World D R → World D R → Type 0
  Answered xs before after a b = AreAnswered disk radio xs before after a b

  pub none_answered : (answers : List (Recipient × Told)) (w : World D R) → Safe [] [] w w → Answered [] answers answers w w
  none_answered answers w made = record { more = []; all = sym (append-nil answers); recipients = refl; told = All-nil (λ (a : Recipient × Told). a.1 ≢ NoMemory); none = All-nil IsNoRefusal; made = made }

  pub answered_then : (xs ys : List Step) (before mid after : List (Recipient × Told)) (a b c : World D R) → Answered xs before mid a b → Answered ys mid after b c → Answered (xs ++ ys) before after a c
  answered_then xs ys before mid after a b c past step = record {
    more = past.more ++ step.more;
    all = step.all ∙ ap (λ xs. xs ++ step.more) past.all ∙ append_assoc before past.more step.more;
    recipients = map-append (λ (x : Recipient × Told). x.0) past.more step.more ∙ (λ i. past.recipients i ++ step.recipients i) ∙ sym (map-append recipient_of xs ys);
    told = All-append (λ (a : Recipient × Told). a.1 ≢ NoMemory) past.more step.more past.told step.told;
    none = subst (All IsNoRefusal) (sym (map-append (λ (x : Recipient × Told). x.1) past.more step.more)) (All-append IsNoRefusal (map (λ x. x.1) past.more) (map (λ x. x.1) step.more) past.none step.none);
    made = subst (λ ts. Safe (xs ++ ys) ts a c) (sym (map-append (λ (x : Recipient × Told). x.1) past.more step.more))
        (made_then xs ys (map (λ x. x.1) past.more) (map (λ x. x.1) step.more) a b c past.made step.made);
  }

  pub one_answered : (x : Step) (t : Told) (r : Recipient) (before after : List (Recipient × Told)) (a b : World D R) → IsHanding x → r ≡ recipient_of x → IsWorldStep radio x t a b
      → IsStepMade disk t (durable_of a) (durable_of b) → IsSafeAtBoth disk (durable_of a) (durable_of b) → (t ≡ NoMemory → ⊥) → after ≡ before ++ (r, t) ∷ [] → Answered (x ∷ []) before after a b
  one_answered x t r before after a b hands is step made here told all = record {
    more = (r, t) ∷ [];
    all = all;
    recipients = ap (λ (z : Recipient). z ∷ []) is;
    told = All-push (λ (a : Recipient × Told). a.1 ≢ NoMemory) [] (r, t) (All-nil (λ (a : Recipient × Told). a.1 ≢ NoMemory)) told;
    none = one_unrefused disk radio x t a b (handing_beside x hands) step;
    made = one_made x t a b step made here;
  }

-- ---- what a step that hands out or applies leaves
nothing_left : (os qs : List Out) → os ++ qs ≡ [] → qs ≡ []
nothing_left [] qs e = e
nothing_left (o ∷ os) qs e = absurd (let wrong : o ∷ (os ++ qs) ≡ [] = e in cc)

same_hands : {D : Type 0} (d e : DurableCore D) → e ≡ d → OnlyHands d e
same_hands d e is = is ∙ ap (λ (w : DurableCore _). record d { core = record d.core { held = w.core.held } }) (sym is)

pub hands_then : {D : Type 0} (d e f : DurableCore D) → OnlyHands d e → OnlyHands e f → OnlyHands d f
hands_then d e f past step = step ∙ ap (λ (w : DurableCore _). record w { core = record w.core { held = f.core.held } }) past

tells_only : {D : Type 0} (x : Step) (i : Told) (d e : DurableCore D) → IsHanding x → Tells x i d e → OnlyHands d e
tells_only (Hand r) (Handed outs) d e hands h = h.only ∙ ap (λ (held : HeldOuts). record d { core = record d.core { held = held } }) (sym (ap (λ (w : DurableCore _). w.core.held) h.only))
tells_only (Hand r) NoMemory d e hands h = same_hands d e h.1
tells_only (Hand (Radio b)) Nothing d e hands h = same_hands d e h
tells_only (Hand r) told d e hands h = absurd h
tells_only (Apply b) Nothing d e hands h = same_hands d e h
tells_only (Apply b) told d e hands h = absurd h
tells_only x told d e hands h = absurd hands

module _ {D R : Type 0} (radio : RadioModel R) where
  pub only_hands : (x : Step) (t : Told) (a b : World D R) → IsHanding x → IsWorldStep radio x t a b → OnlyHands (durable_of a) (durable_of b)
  only_hands x t a b hands step = tells_only x step.inside (durable_of a) (durable_of b) hands step.durable.tells

-- what goes to a radio leaves the replies
abbrev replies_in : {D : Type 0} → DurableCore D → List Out
replies_in w = held_for Control w.core

tells_replies : {D : Type 0} (x : Step) (i : Told) (d e : DurableCore D) → IsForRadio x → Tells x i d e → HoldsReplies d e
tells_replies (Hand (Radio b)) (Handed outs) d e radio h = ap replies_in h.only ∙ hand_others d.core (Radio b) Control refl
tells_replies (Hand (Radio b)) NoMemory d e radio h = ap replies_in h.1
tells_replies (Hand (Radio b)) Nothing d e radio h = ap replies_in h
tells_replies (Hand (Radio b)) told d e radio h = absurd h
tells_replies (Apply b) Nothing d e radio h = ap replies_in h
tells_replies (Apply b) told d e radio h = absurd h
tells_replies x told d e radio h = absurd radio

module _ {D R : Type 0} (radio : RadioModel R) where
  pub holds_replies : (x : Step) (t : Told) (a b : World D R) → IsForRadio x → IsWorldStep radio x t a b → HoldsReplies (durable_of a) (durable_of b)
  holds_replies x t a b for_radio step = tells_replies x step.inside (durable_of a) (durable_of b) for_radio step.durable.tells

  -- and so does what meets want of memory
  pub none_handed : (x : Step) (a b : World D R) → IsHanding x → IsWorldStep radio x NoMemory a b → HoldsReplies (durable_of a) (durable_of b)
  none_handed (Hand (Radio r)) a b hands step = holds_replies (Hand (Radio r)) NoMemory a b tt step
  none_handed (Apply r) a b hands step = holds_replies (Apply r) NoMemory a b tt step
  none_handed (Hand Control) a b hands step = ap replies_in (subst (λ (i : Told). Tells (Hand Control) i (durable_of a) (durable_of b)) (sym step.joins.0) step.durable.tells).1
  none_handed x a b hands step = absurd hands

-- and where nothing happens and nothing is given, control's stay
pub quiet_replies : {D : Type 0} (d e : DurableCore D) → GoesQuietly d.core e.core → HoldsReplies d e
quiet_replies d e quiet = quiet.goes.outs Control ∙ append-nil (held_for Control d.core)

-- no out comes to an empty queue by applying
module _ {D R : Type 0} (disk : DiskModel D) (radio : RadioModel R) where
  pub all_stay_empty : (b : Bssid) (ts : List Told) (a c : World D R) → AreMadeInTurn disk radio (Apply b ∷ []) ts a c → (r : Bssid) → queue_of a r ≡ [] → queue_of c r ≡ []
  all_stay_empty b (t ∷ []) a c h r none =
      nothing_left (applied_outs r (Apply b) t) (queue_of c r)
      (ap (λ (w : World D R). applied_outs r (Apply b) t ++ queue_of w r) h.3.0 ∙ flows radio a h.0 r (Apply b) h.1.inside t h.1.joins ∙ ap (λ os. os ++ []) none)
  all_stay_empty b (t ∷ ts) a c h r none = absurd h.3
  all_stay_empty b [] a c h r none = absurd h

-- ---- what is said of an error
pub on_err : {A E P : Type 0} (r : Result A E) → P → OnErr r P
on_err (Ok x) p = tt
on_err (Err e) p = p

-- ---- what is settled is given
ready_kept : (r q : Recipient) (s : CoreState) → ready_for r s ≡ [] → ready_for r (after_handing_out q s) ≡ []
ready_kept r q s none = elim (is_or_not r q) [
  | inl same ↦ subst (λ (z : Recipient). ready_for z (after_handing_out q s) ≡ []) (sym same) (ready_none q s)
  | inr apart ↦ ap (λ p. map (λ (x : ℕ × Out). x.1) (up_to s.number p)) (queue_of-after_hand_other s.confs s.number q r s.held (turned r q apart)) ∙ none
]

-- by one step that hands out
keeps_ready : {D : Type 0} (r q : Recipient) (i : Told) (d e : DurableCore D) → Tells (Hand q) i d e → ready_for r d.core ≡ [] → ready_for r e.core ≡ []
keeps_ready r q (Handed outs) d e h none = ap (λ (w : DurableCore _). ready_for r w.core) h.only ∙ ready_kept r q d.core none
keeps_ready r q NoMemory d e h none = ap (λ (w : DurableCore _). ready_for r w.core) h.1 ∙ none
keeps_ready r (Radio b) Nothing d e h none = ap (λ (w : DurableCore _). ready_for r w.core) h ∙ none
keeps_ready r q told d e h none = absurd h

abbrev pub IsOfSlot : Step → Type 0
IsOfSlot (Apply b) = ⊤
IsOfSlot step = ⊥

more_of_slot : (n : ℕ) (b : Bssid) (xs : List Step) → AllByRecursion IsOfSlot xs → AllByRecursion IsOfSlot (replicate n (Apply b) ++ xs)
more_of_slot zero b xs all = all
more_of_slot (suc n) b xs all = (tt, more_of_slot n b xs all)

applies_of_slot : (confs : List Conf) (counts : List ℕ) → AllByRecursion IsOfSlot (applies confs counts)
applies_of_slot [] counts = tt
applies_of_slot (c ∷ confs) [] = tt
applies_of_slot (c ∷ confs) (n ∷ counts) = more_of_slot n c.bssid (applies confs counts) (applies_of_slot confs counts)

module _ {D R : Type 0} (disk : DiskModel D) (radio : RadioModel R) where
  gives : (q : Recipient) (i t : Told) (a b : World D R) → Tells (Hand q) i (durable_of a) (durable_of b) → Joins radio (Hand q) i t a b → (t ≡ NoMemory → ⊥) → IsGiven q b
  gives (Radio r) (Handed outs) (Queued count) a b h joins told = inr (ap (λ (w : DurableCore D). ready_for (Radio r) w.core) h.only ∙ ready_none (Radio r) (durable_of a).core)
  gives (Radio r) NoMemory NoMemory a b h joins told = absurd (told refl)
  gives (Radio r) Nothing Nothing a b h joins told = inl (no_slot radio a b r (Hand (Radio r)) Nothing Nothing joins joins.0)
  gives (Radio r) i t a b h joins told = absurd joins
  gives Control (Handed outs) t a b h joins told = ap (λ (w : DurableCore D). ready_for Control w.core) h.only ∙ ready_none Control (durable_of a).core
  gives Control NoMemory t a b h joins told = absurd (told joins.0)
  gives Control i t a b h joins told = absurd h

  stays_given : (r q : Recipient) (i t : Told) (a b : World D R) → Tells (Hand q) i (durable_of a) (durable_of b) → Joins radio (Hand q) i t a b → IsGiven r a → IsGiven r b
  stays_given (Radio r) q i t a b h joins (inl none) = inl (no_slot radio a b r (Hand q) i t joins none)
  stays_given (Radio r) q i t a b h joins (inr none) = inr (keeps_ready (Radio r) q i (durable_of a) (durable_of b) h none)
  stays_given Control q i t a b h joins none = keeps_ready Control q i (durable_of a) (durable_of b) h none

  all_stay_given : (r : Recipient) (confs : List Conf) (ts : List Told) (a b : World D R) → AreMadeInTurn disk radio (radio_hands confs) ts a b → IsGiven r a → IsGiven r b
  all_stay_given r [] [] a b h g = subst (IsGiven r) (sym h.0) g
  all_stay_given r (c ∷ confs) (t ∷ ts) a b h g = all_stay_given r confs ts h.0 b h.3 (stays_given r (Radio c.bssid) h.1.inside t a h.0 h.1.durable.tells h.1.joins g)
  all_stay_given r confs ts a b h g = absurd h

  hands_give : (confs : List Conf) (ts : List Told) (a b : World D R) → AreMadeInTurn disk radio (radio_hands confs) ts a b → All (λ told. told ≢ NoMemory) ts
      → All (λ conf. IsGiven (Radio conf.bssid) b) confs
  hands_give [] [] a b h told = All-nil (λ conf. IsGiven (Radio conf.bssid) b)
  hands_give (c ∷ confs) (t ∷ ts) a b h told =
      let more = hands_give confs ts h.0 b h.3 (All-tail (λ told. told ≢ NoMemory) t ts told) in
      let one : IsGiven (Radio c.bssid) b = all_stay_given (Radio c.bssid) confs ts h.0 b h.3 (gives (Radio c.bssid) h.1.inside t a h.0 h.1.durable.tells h.1.joins (All-head (λ told. told ≢ NoMemory) t ts told)) in
      All-cons (λ conf. IsGiven (Radio conf.bssid) b) c confs one more
  hands_give confs ts a b h told = absurd h

  -- and then control is
  pub record IsControlGiven (a b : World D R) : Type 0 where
    pub control : IsGiven Control b
    pub others : (r : Recipient) → IsGiven r a → IsGiven r b
    pub queues : (c : Bssid) → queue_of b c ≡ queue_of a c

  control_given : (ts : List Told) (a b : World D R) → AreMadeInTurn disk radio (Hand Control ∷ []) ts a b → All (λ told. told ≢ NoMemory) ts → IsControlGiven a b
  control_given (t ∷ []) a b h told = subst (IsControlGiven a) (sym h.3.0) (record {
    control = gives Control h.1.inside t a h.0 h.1.durable.tells h.1.joins (All-head (λ told. told ≢ NoMemory) t [] told);
    others = λ r. stays_given r Control h.1.inside t a h.0 h.1.durable.tells h.1.joins;
    queues = λ c. ap (λ slots. queue_if (slot_at slots c)) h.1.joins.1;
  })
  control_given (t ∷ ts) a b h told = absurd h.3
  control_given ts a b h told = absurd h

  -- applying leaves what was given
  apply_core : (c : Bssid) (i : Told) (a b : World D R) → Tells (Apply c) i (durable_of a) (durable_of b) → durable_of b ≡ durable_of a
  apply_core c Nothing a b h = h
  apply_core c i a b h = absurd h

  apply_given : (r : Recipient) (c : Bssid) (i t : Told) (a b : World D R) → Tells (Apply c) i (durable_of a) (durable_of b) → Joins radio (Apply c) i t a b → IsGiven r a → IsGiven r b
  apply_given (Radio r) c i t a b h joins (inl none) = inl (no_slot radio a b r (Apply c) i t joins none)
  apply_given (Radio r) c i t a b h joins (inr none) = inr (ap (λ (w : DurableCore D). ready_for (Radio r) w.core) (apply_core c i a b h) ∙ none)
  apply_given Control c i t a b h joins none = ap (λ (w : DurableCore D). ready_for Control w.core) (apply_core c i a b h) ∙ none

  applies_given : (r : Recipient) (xs : List Step) (ts : List Told) (a b : World D R) → AllByRecursion IsOfSlot xs → AreMadeInTurn disk radio xs ts a b → IsGiven r a → IsGiven r b
  applies_given r [] [] a b all h g = subst (IsGiven r) (sym h.0) g
  applies_given r (Apply c ∷ xs) (t ∷ ts) a b all h g = applies_given r xs ts h.0 b all.1 h.3 (apply_given r c h.1.inside t a h.0 h.1.durable.tells h.1.joins g)
  applies_given r [] ts a b all h g = absurd h
  applies_given r (Apply c ∷ xs) ts a b all h g = absurd h
  applies_given r (x ∷ xs) ts a b all h g = absurd all.0

-- ---- handing out, from one interface to the next
pub radio_hands_more : (confs : List Conf) (i : ℕ) (d : Conf) → i < length confs → radio_hands (take (i + 1) confs) ≡ radio_hands (take i confs) ++ Hand (Radio (get_or confs i d).bssid) ∷ []
radio_hands_more confs i d lt =
    ap (λ n. radio_hands (take n confs)) (add-one i) ∙ ap radio_hands (take-suc confs i d lt) ∙ map-append (λ (conf : Conf). Hand (Radio conf.bssid)) (take i confs) (get_or confs i d ∷ [])

pub applies_push : (confs : List Conf) (counts : List ℕ) (conf : Conf) (n : ℕ) → length counts ≡ length confs → applies (confs ++ conf ∷ []) (counts ++ n ∷ []) ≡ applies confs counts ++ replicate n (Apply conf.bssid)
applies_push [] [] conf n e = append-nil (replicate n (Apply conf.bssid))
applies_push (c ∷ confs) (k ∷ counts) conf n e =
    ap (λ xs. replicate k (Apply c.bssid) ++ xs) (applies_push confs counts conf n (omega (arith, e))) ∙ sym (append_assoc (replicate k (Apply c.bssid)) (applies confs counts) (replicate n (Apply conf.bssid)))
applies_push confs counts conf n e = absurd (omega (arith, e))

module _ {D R : Type 0} (disk : DiskModel D) (radio : RadioModel R) where
  abbrev Applied_at : List Conf → List (Recipient × Told) → List (Recipient × Told) → World D R → World D R → Type 0
  Applied_at confs before after a b = AreAllApplied disk radio confs before after a b

  -- so many outs were applied at the next interface
  pub record IsApplying (confs : List Conf) (b : Bssid) (before after : List (Recipient × Told)) (old new : World D R) : Type 0 where
    pub counts : List ℕ
    pub count : ℕ
    pub each : length counts ≡ length confs
    pub answered : AreAnswered disk radio (applies confs counts ++ replicate count (Apply b)) before after old new
    pub empty : All (λ conf. queue_of new conf.bssid ≡ []) confs

  pub none_applied : (answers : List (Recipient × Told)) (w : World D R) → AreSafelyMade disk radio [] [] w w → Applied_at [] answers answers w w
  none_applied answers w made = record { counts = []; each = refl; answered = none_answered disk radio answers w made; empty = All-nil (λ conf. queue_of w conf.bssid ≡ []) }

  pub applying_begun : (confs : List Conf) (b : Bssid) (before after : List (Recipient × Told)) (a c : World D R) → Applied_at confs before after a c → IsApplying confs b before after a c
  applying_begun confs b before after a c h = record {
    counts = h.counts;
    count = 0;
    each = h.each;
    answered = subst (λ (xs : List Step). AreAnswered disk radio xs before after a c) (sym (append-nil (applies confs h.counts))) h.answered;
    empty = h.empty;
  }

  pub applying_on : (confs : List Conf) (b : Bssid) (before mid after : List (Recipient × Told)) (a w c : World D R) → IsApplying confs b before mid a w
      → AreAnswered disk radio (Apply b ∷ []) mid after w c → IsApplying confs b before after a c
  applying_on confs b before mid after a w c k step = record {
    counts = k.counts;
    count = k.count + 1;
    each = k.each;
    answered = subst (λ (xs : List Step). AreAnswered disk radio xs before after a c)
        (append_assoc (applies confs k.counts) (replicate k.count (Apply b)) (Apply b ∷ []) ∙ ap (λ xs. applies confs k.counts ++ xs) (replicate_more k.count (Apply b)))
        (answered_then disk radio (applies confs k.counts ++ replicate k.count (Apply b)) (Apply b ∷ []) before mid after a w c k.answered step);
    empty = All-weaker (λ conf. queue_of w conf.bssid ≡ []) (λ conf. queue_of c conf.bssid ≡ [])
        (λ conf none. all_stay_empty disk radio b (map (λ x. x.1) step.more) w c step.made.in_turn conf.bssid none) confs k.empty;
  }

  pub applying_done : (confs : List Conf) (i : ℕ) (conf : Conf) (before after : List (Recipient × Told)) (a c : World D R) → i < length confs
      → conf ≡ get_or confs i conf → IsApplying (take i confs) conf.bssid before after a c → queue_of c conf.bssid ≡ [] → Applied_at (take (i + 1) confs) before after a c
  applying_done confs i conf before after a c lt is k none =
      let front = take i confs in
      let more : take (i + 1) confs ≡ front ++ conf ∷ [] = ap (λ n. take n confs) (add-one i) ∙ take-suc confs i conf lt ∙ ap (λ z. front ++ z ∷ []) (sym is) in
      let one = length-append k.counts (k.count ∷ []) in
      let two = length-append front (conf ∷ []) in
      let each = k.each in
      subst (λ cs. Applied_at cs before after a c) (sym more)
      (record {
        counts = k.counts ++ k.count ∷ [];
        each = omega (arith, one, two, each);
        answered = subst (λ (xs : List Step). AreAnswered disk radio xs before after a c) (sym (applies_push front k.counts conf k.count k.each)) k.answered;
        empty = All-push (λ z. queue_of c z.bssid ≡ []) front conf k.empty none;
      })

  -- ---- the whole of it
  pub handed_out : (mid next after : List (Recipient × Told)) (a b c d : World D R) → AreAnswered disk radio (radio_hands (durable_of a).core.confs) [] mid a b
      → Applied_at (durable_of b).core.confs mid next b c → AreAnswered disk radio (Hand Control ∷ []) next after c d → IsHandedOut disk radio [] after a d
  handed_out mid next after a b c d first applied last =
      let confs = (durable_of a).core.confs in
      let second = subst (λ (cs : List Conf). Applied_at cs mid next b c) (same_confs disk radio (radio_hands confs) (map (λ x. x.1) first.more) a b first.made.in_turn) applied in
      let both = answered_then disk radio (radio_hands confs) (applies confs second.counts) [] mid next a b c first second.answered in
      let all = answered_then disk radio (radio_hands confs ++ applies confs second.counts) (Hand Control ∷ []) [] next after a c d both last in
      let given = hands_give disk radio confs (map (λ x. x.1) first.more) a b first.made.in_turn (All-map (λ told. told ≢ NoMemory) (λ (x : Recipient × Told). x.1) first.more first.told) in
      let control = control_given disk radio (map (λ x. x.1) last.more) c d last.made.in_turn (All-map (λ told. told ≢ NoMemory) (λ (x : Recipient × Told). x.1) last.more last.told) in
      let later : (r : Recipient) → IsGiven r b → IsGiven r d =
      λ r g. control.others r (applies_given disk radio r (applies confs second.counts) (map (λ x. x.1) second.answered.more) b c (applies_of_slot confs second.counts) second.answered.made.in_turn g) in
      subst (λ (xs : List (Recipient × Told)). IsHandedOut disk radio [] xs a d) (sym all.all)
      (record {
        counts = second.counts;
        tolds = [];
        made = all.made;
        recipients = all.recipients;
        told = all.told;
        each = second.each;
        empty = All-weaker (λ conf. queue_of c conf.bssid ≡ []) (λ conf. queue_of d conf.bssid ≡ []) (λ conf none. control.queues conf.bssid ∙ none) confs second.empty;
        radios = All-weaker (λ conf. IsGiven (Radio conf.bssid) b) (λ conf. IsGiven (Radio conf.bssid) d) (λ conf. later (Radio conf.bssid)) confs given;
        control = control.control;
      })

-- ---- from one call to the next
module _ {D R : Type 0} (disk : DiskModel D) (radio : RadioModel R) where
  abbrev Made : List Step → List Told → World D R → World D R → Type 0
  Made xs ts a b = AreSafelyMade disk radio xs ts a b

  abbrev Handed_out : List Step → List (Recipient × Told) → World D R → World D R → Type 0
  Handed_out xs answers a b = IsHandedOut disk radio xs answers a b

  pub handed_after : (xs fs : List Step) (ts : List Told) (answers : List (Recipient × Told)) (a b c : World D R) → Made xs ts a b → Handed_out fs answers b c → Handed_out (xs ++ fs) answers a c
  handed_after xs fs ts answers a b c past h =
      let confs : (durable_of b).core.confs ≡ (durable_of a).core.confs = same_confs disk radio xs ts a b past.in_turn in
      let last = λ (cs : List Conf). hands cs h.counts in
      let both = made_then disk radio xs (fs ++ last (durable_of b).core.confs) ts (h.tolds ++ map (λ x. x.1) answers) a b c past h.made in
      record {
        counts = h.counts;
        tolds = ts ++ h.tolds;
        made =
            subst (λ (us : List Told). Made ((xs ++ fs) ++ last (durable_of a).core.confs) us a c) (sym (append_assoc ts h.tolds (map (λ x. x.1) answers)))
            (subst (λ (ys : List Step). Made ys (ts ++ (h.tolds ++ map (λ x. x.1) answers)) a c)
            (ap (λ cs. xs ++ (fs ++ last cs)) confs ∙ sym (append_assoc xs fs (last (durable_of a).core.confs))) both);
        recipients = h.recipients ∙ ap (λ cs. map recipient_of (last cs)) confs;
        told = h.told;
        each = h.each ∙ ap length confs;
        empty = subst (λ (cs : List Conf). All (λ conf. queue_of c conf.bssid ≡ []) cs) confs h.empty;
        radios = subst (λ (cs : List Conf). All (λ conf. IsGiven (Radio conf.bssid) c) cs) confs h.radios;
        control = h.control;
      }

  pub gone_by_handing : (answers : List (Recipient × Told)) (a b : World D R) → Handed_out [] answers a b → HasGoneOn disk radio a b
  gone_by_handing answers a b h = record {
    steps = hands (durable_of a).core.confs h.counts;
    tolds = h.tolds ++ map (λ x. x.1) answers;
    made = h.made;
  }

  pub gone_by_flushing : (answers : List (Recipient × Told)) (a b : World D R) → IsFlushed disk radio [] answers a b → HasGoneOn disk radio a b
  gone_by_flushing answers a b h = record {
    steps = rounds h.calls ++ hands (durable_of a).core.confs h.handed.counts;
    tolds = h.handed.tolds ++ map (λ x. x.1) answers;
    made = h.handed.made;
  }

  -- nothing is left to do for the store by handing out
  rests_after : (d e : DurableCore D) → OnlyHands d e → IsAtRest d → IsAtRest e
  rests_after d e only rests = subst IsAtRest (sym only) (record { batch = rests.batch; call = rests.call; receipt = rests.receipt })

  pub last_stays : (d e : DurableCore D) → OnlyHands d e → last_of e.core ≡ last_of d.core
  last_stays d e only = ap (λ (w : DurableCore D). last_of w.core) only

  pub flushed_from : (calls : List ℕ) (ts : List Told) (answers : List (Recipient × Told)) (a b c : World D R) → Made (rounds calls) ts a b → (durable_of b).core.unsettled ≡ [] → (durable_of b).core.failed ≡ false → IsAtRest (durable_of b)
      → OnlyHands (durable_of b) (durable_of c) → Handed_out [] answers b c → IsFlushed disk radio [] answers a c
  flushed_from calls ts answers a b c made settled works rests only h = record {
    calls = calls;
    handed = subst (λ (xs : List Step). Handed_out xs answers a c) (append-nil (rounds calls)) (handed_after (rounds calls) [] ts answers a b c made h);
    settled = ap (λ (w : DurableCore D). w.core.unsettled) only ∙ settled;
    works = ap (λ (w : DurableCore D). w.core.failed) only ∙ works;
    rests = rests_after (durable_of b) (durable_of c) only rests;
  }

  pub started_from : (first : List Step) (ts : List Told) (answers : List (Recipient × Told)) (a b c : World D R) → AreConfiguring (durable_of a).core.confs first → All (λ told. told ≢ NoMemory) ts → Made first ts a b
      → IsFlushed disk radio [] answers b c → IsStarted disk radio answers a c
  unfolding handed_after
  started_from first ts answers a b c configuring told made h =
      let same = turn_length disk radio first ts a b made.in_turn in
      let is : take (length first) (ts ++ h.handed.tolds) ≡ ts = ap (λ n. take n (ts ++ h.handed.tolds)) (sym same) ∙ take-append_seam ts h.handed.tolds in
      record {
        first = first;
        configuring = configuring;
        flushed = record { calls = h.calls; handed = handed_after first (rounds h.calls) ts answers a b c made h.handed; settled = h.settled; works = h.works; rests = h.rests };
        accepted = subst (All (λ told. told ≢ NoMemory)) (sym is) told;
      }

pub rounds_more : (calls : List ℕ) (n : ℕ) → rounds (calls ++ n ∷ []) ≡ rounds calls ++ round n
rounds_more calls n = flat_map-append round calls (n ∷ []) ∙ ap (λ xs. rounds calls ++ xs) (append-nil (round n))

module _ {D R : Type 0} (disk : DiskModel D) (radio : RadioModel R) where
  -- so many rounds were made, none told a refusal, and no entry was made
  pub record AreRounds (old new : World D R) : Type 0 where
    pub calls : List ℕ
    pub tolds : List Told
    pub none : All IsNoRefusal tolds
    pub made : AreSafelyMade disk radio (rounds calls) tolds old new
    pub last : last_of (durable_of new).core ≡ last_of (durable_of old).core
    pub replies : HoldsReplies (durable_of old) (durable_of new)

  pub no_round : (w : World D R) → AreSafelyMade disk radio [] [] w w → AreRounds w w
  no_round w made = record { calls = []; tolds = []; none = All-nil IsNoRefusal; made = made; last = refl; replies = refl }

  pub last_more : (s : CoreState) (a b : World D R) → last_of (durable_of a).core ≡ last_of s → GoesQuietly (durable_of a).core (durable_of b).core → last_of (durable_of b).core ≡ last_of s
  last_more s a b same quiet = let last = quiet.goes.last in omega (arith, same, last)

  -- one more
  pub round_more : (answer : Commit) (a b c : World D R) → AreRounds a b → IsRound disk radio answer b c → GoesQuietly (durable_of b).core (durable_of c).core → IsUnrefused answer → AreRounds a c
  round_more answer a b c past one quiet u = record {
    calls = past.calls ++ one.calls ∷ [];
    tolds = past.tolds ++ one.tolds;
    none = All-append IsNoRefusal past.tolds one.tolds past.none (round_unrefused disk radio one.calls one.tolds b c one.made.in_turn (subst IsUnrefused one.answer_is u));
    made = subst (λ (xs : List Step). AreSafelyMade disk radio xs (past.tolds ++ one.tolds) a c) (sym (rounds_more past.calls one.calls))
        (made_then disk radio (rounds past.calls) (round one.calls) past.tolds one.tolds a b c past.made one.made);
    last = last_more (durable_of a).core b c past.last quiet;
    replies = quiet_replies (durable_of b) (durable_of c) quiet ∙ past.replies;
  }

  pub gone_rounds : (a b : World D R) → AreRounds a b → HasMetNoRefusal disk radio a b
  gone_rounds a b k = record { gone_on = record { steps = rounds k.calls; tolds = k.tolds; made = k.made }; none = k.none }

-- ---- the next interface is configured
abbrev pub asked_of : Conf → Option (Option (Result Happening QuietReason))
asked_of conf = Some (Some (Ok (Configure conf.bssid conf.accept conf.deny)))

pub configuring_more : (confs : List Conf) (i : ℕ) (d : Conf) (steps : List Step) (x : Step) → i < length confs → AreConfiguring (take i confs) steps → request_of x ≡ asked_of (get_or confs i d)
    → AreConfiguring (take (i + 1) confs) (steps ++ x ∷ [])
configuring_more confs i d steps x lt past is =
    map-append request_of steps (x ∷ []) ∙ (λ j. past j ++ is j ∷ []) ∙ sym (map-append asked_of (take i confs) (get_or confs i d ∷ []))
    ∙ sym (ap (λ n. map asked_of (take n confs)) (add-one i) ∙ ap (map asked_of) (take-suc confs i d lt))

module _ {D R : Type 0} (disk : DiskModel D) (radio : RadioModel R) where
  pub none_accepted : (w : World D R) → AreSafelyMade disk radio [] [] w w → AreAccepted disk radio [] w w
  none_accepted w made = record { steps = []; tolds = []; configuring = refl; told = All-nil (λ told. told ≢ NoMemory); none = All-nil IsNoRefusal; made = made }

  pub accepted_more : (confs : List Conf) (i : ℕ) (d : Conf) (x : Step) (t : Told) (a b c : World D R) → i < length confs → AreAccepted disk radio (take i confs) a b
      → request_of x ≡ asked_of (get_or confs i d) → (t ≡ NoMemory → ⊥) → IsWorldStep radio x t b c → IsStepMade disk t (durable_of b) (durable_of c)
      → IsSafeAtBoth disk (durable_of b) (durable_of c) → AreAccepted disk radio (take (i + 1) confs) a c
  accepted_more confs i d x t a b c lt past is told step made here = record {
    steps = past.steps ++ x ∷ [];
    tolds = past.tolds ++ t ∷ [];
    configuring = configuring_more confs i d past.steps x lt past.configuring is;
    told = All-push (λ z. z ≢ NoMemory) past.tolds t past.told told;
    none = All-append IsNoRefusal past.tolds (t ∷ []) past.none (one_unrefused disk radio x t b c (asked_beside x _ is) step);
    made = made_then disk radio past.steps (x ∷ []) past.tolds (t ∷ []) a b c past.made
        (one_made disk radio x t b c step made here);
  }
