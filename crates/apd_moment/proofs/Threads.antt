-- What a thread knows of the core by the calls that it has seen.
use Rattle.std.proofs.Common.{◌≡◌, List, [], ◌∷◌, ◌++◌, true, refl, sym, subst, arith}
use Rattle.std.proofs.lemmas.List.{append-nil}
use Rattle.apd_core.specs.Core.{CoreState, answer_to_query}
use Rattle.apd_core.specs.Heard.{LastHeard}
use Rattle.apd_core.specs.Requests.{happening_of}
use Rattle.apd_event.specs.Happening.{Happening}
use Rattle.apd_history.specs.Chain.{AreCalls, Call, IsCall, given_as, given_by}
use Rattle.apd_history.specs.declared.entry.Kind.{Kind}
use Rattle.apd_history.specs.declared.entry.Kind.TheVariants as kind
use Rattle.apd_mlme.specs.declared.decision.Out.{Out}
use Rattle.apd_mlme.specs.declared.decision.Recipient.{Recipient}
use Rattle.apd_world.specs.CoreRun.{Goes}
use Rattle.apd_world.specs.History.{History}
use Rattle.apd_world.specs.StandsFor.{IsHistoryOf}
use Rattle.apd_world.specs.Steps.{reception_happenings}
use Rattle.apd_world.specs.Telling.{reception_of}
use Rattle.apd_world.proofs.CoreHistories.{goes_later, later, reads_now, stands_later, then_goes}
use Rattle.apd_world.proofs.Goings.{goes_beside, goes_handed, goes_published}
use Rattle.apd_world.proofs.StepLemmas.{request_goes}
use Rattle.apd_moment.specs.Moment.{HasSeen}
use Rattle.apd_moment.proofs.Histories.{none}

-- how a core goes on by a call
pub record CallGoes (k : Kind) (old new : CoreState) : Type 0 where
  pub happened : List Happening
  pub goes : Goes happened (λ r. given_as r k old) old new

call_goes : (k : Kind) (old new : CoreState) → IsCall k old new → CallGoes k old new
call_goes kind.Submit old new h =
    let es = reception_happenings (reception_of h.2) (happening_of old.confs old.heard h.1 h.0) in
    record {
      happened = es;
      goes = subst (λ (s : CoreState). Goes es (λ (_ : Recipient). []) old s) (sym h.3.1.1) (request_goes old h.1 h.0 h.2 h.3.1.0 h.3.0 h.3.1.2).goes;
    }
call_goes kind.Take old new h = record {
  happened = [];
  goes = subst (λ (s : CoreState). Goes [] (λ (_ : Recipient). []) old s) (sym h.1.1.1.only) (goes_beside old new.flight old.heard old.failed);
}
call_goes kind.Publish old new h = record {
  happened = [];
  goes = subst (λ (s : CoreState). Goes [] (λ (_ : Recipient). []) old s) (sym h.1.1.1) (goes_published old h.1.0);
}
call_goes kind.Fail old new h = record {
  happened = [];
  goes = subst (λ (s : CoreState). Goes [] (λ (_ : Recipient). []) old s) (sym h.1) (goes_beside old old.flight old.heard true);
}
call_goes (kind.Hand to) old new h = record {
  happened = [];
  goes = subst (λ (s : CoreState). Goes [] (λ (r : Recipient). given_as r (kind.Hand to) old) old s) (sym h.1.1) (goes_handed to old h.0);
}

pub all_seen : (cs : List Call) (first : CoreState) (h : History) → IsHistoryOf first none h → AreCalls first cs → HasSeen first h cs
all_seen [] first h stands are = record {
  happened = [];
  heard = h.heard;
  between = h;
  stands = stands;
  goes_on = record {
    only = λ i. record h { happened = sym (append-nil h.happened) i; given = λ r. sym (append-nil (h.given r)) i; read = sym (append-nil h.read) i };
    durable = omega arith;
  };
  read = λ q. reads_now h first none stands (answer_to_query first q) (q, refl);
}
all_seen (c ∷ cs) first h stands are =
    let one = call_goes c.kind c.before c.after are.1 in
    let es = one.happened in
    let g : Recipient → List Out = λ r. given_as r c.kind c.before in
    let flows : (r : Recipient) → g r ++ none r ≡ none r ++ g r = λ r. append-nil (g r) in
    let goes : Goes es g first c.after = subst (λ (s : CoreState). Goes es g s c.after) are.0 one.goes in
    let m : LastHeard = c.after.heard in
    let k : History = later h first none stands es m g c.after goes refl g none flows [] tt in
    let more = all_seen cs c.after k (stands_later h first none stands es m g c.after goes refl g none flows [] tt) are.2 in
    record {
      happened = es ++ more.happened;
      heard = more.heard;
      between = more.between;
      stands = more.stands;
      goes_on = then_goes es more.happened m more.heard g (λ r. given_by r cs) [] [] h k more.between (goes_later h first none stands es m g c.after goes refl g none flows [] tt) more.goes_on;
      read = more.read;
    }
