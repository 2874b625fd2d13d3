use Rattle.std.proofs.Common.{◌≡◌, ◌+◌, ◌-◌, ◌^◌, ◌<◌, ◌++◌, ◌∷◌, [], List, Err, false, length, refl, sym, ap, subst, ◌∙◌}
use Rattle.std.specs.Prelude.{min}
use Rattle.apd_core.proofs.Words.{AreChanges, AreMomentsOf, Change, CoreState, Entry, IsFit, RecipientsAreThere, State, StaySound, front_of, happening, heard_by_changes, is_busy, last_of, meaning_of, records_of, verdict, verdict_there, with_outs}
use Rattle.apd_core.proofs.Kept.{entered_kept, front_moments, last_there, measured_entry, refused_kept, refused_view}
use Rattle.apd_core.proofs.request_core.Core.enter.Goals as goal

pub keep-requires-clause-there : goal.keep-requires-clause-there
keep-requires-clause-there c =
    let s = c.args.self.now in
    let h = happening c.args.event in
    subst (λ (t : CoreState). RecipientsAreThere t.confs c.args.decision.outs) (sym c.self.view_is)
    (subst (RecipientsAreThere s.confs) (sym c.requires.outs) (verdict_there (front_of s) s.confs h))

pub unreachable-requires : goal.unreachable-requires
unreachable-requires c =
    let sound = subst (λ (t : CoreState). StaySound c.args.decision.changes (front_of t)) (sym c.self.view_is) c.requires.sound in
    c.apply_all.ensures.invalid (c.in-Err-Invalid.is ∙ ap Err c.in-Err-Invalid.field-0-is)
    (subst (λ (cs : List Change). StaySound cs c.self.inside.front) (sym c.as_slice-list.ensures)
    (subst (StaySound c.args.decision.changes) (sym c.self.invariant.front_is) sound))

pub take_back-requires : goal.take_back-requires
take_back-requires c = last_there c.self.inside c.self.invariant c.args.decision.outs c.keep.new.self c.in_ok-keep.ensures.ok

pub take_back-requires-in-Err-NoMemory : goal.take_back-requires-in-Err-NoMemory
take_back-requires-in-Err-NoMemory c = last_there c.self.inside c.self.invariant c.args.decision.outs c.keep.new.self c.in_ok-keep.ensures.ok

pub invariant_of-self-in_default : goal.invariant_of-self-in_default
invariant_of-self-in_default c =
    let d = record c.self.inside { unsettled = c.reserve.new.self; held = c.take_back.new.self; heard = c.make_room.new.self } in
    refused_kept c.self.inside d c.self.invariant c.args.decision.outs c.keep.new.self c.in_ok-keep.ensures.ok c.take_back.ensures
    refl refl refl c.reserve.ensures.items refl c.in_default.ensures.err refl refl refl refl

pub returns-in_default-clause-err : goal.returns-in_default-clause-err
returns-in_default-clause-err c =
    let d = record c.self.inside { unsettled = c.reserve.new.self; held = c.take_back.new.self; heard = c.make_room.new.self } in
    refused_view c.self.inside d c.self.invariant c.args.decision.outs c.keep.new.self c.in_ok-keep.ensures.ok c.take_back.ensures
    refl refl refl c.reserve.ensures.items refl c.in_default.ensures.err refl ∙ c.self.view_is

pub invariant_of-self-in-Err-NoMemory : goal.invariant_of-self-in-Err-NoMemory
invariant_of-self-in-Err-NoMemory c =
    let a = c.self.inside in
    let heard = c.give_back.ensures a.heard (subst (λ (t : State). AreMomentsOf t a.heard) (sym c.in-Err-NoMemory.ensures.err) (front_moments a c.self.invariant)) c.in-Ok.ensures.laid in
    let d = record c.self.inside { front = c.apply_all.new.self; unsettled = c.reserve.new.self; held = c.take_back-in-Err-NoMemory.new.self; heard = c.give_back.new.self } in
    refused_kept c.self.inside d c.self.invariant c.args.decision.outs c.keep.new.self c.in_ok-keep.ensures.ok c.take_back-in-Err-NoMemory.ensures
    refl refl refl c.reserve.ensures.items refl heard refl c.in-Err-NoMemory.ensures.err refl refl

pub returns-in-Err-NoMemory-clause-err : goal.returns-in-Err-NoMemory-clause-err
returns-in-Err-NoMemory-clause-err c =
    let a = c.self.inside in
    let heard = c.give_back.ensures a.heard (subst (λ (t : State). AreMomentsOf t a.heard) (sym c.in-Err-NoMemory.ensures.err) (front_moments a c.self.invariant)) c.in-Ok.ensures.laid in
    let d = record c.self.inside { front = c.apply_all.new.self; unsettled = c.reserve.new.self; held = c.take_back-in-Err-NoMemory.new.self; heard = c.give_back.new.self } in
    refused_view c.self.inside d c.self.invariant c.args.decision.outs c.keep.new.self c.in_ok-keep.ensures.ok c.take_back-in-Err-NoMemory.ensures
    refl refl refl c.reserve.ensures.items refl heard refl ∙ c.self.view_is

pub invariant_of-self-2 : goal.invariant_of-self-2
invariant_of-self-2 c =
    let e = sym c.self.view_is in
    let h = happening c.args.event in
    let n = c.self.inside.last + 1 in
    let x : Entry = record { changes = c.args.decision.changes; length = c.total_length-length.result } in
    let d = record c.self.inside { front = c.apply_all.new.self; last = n; unsettled = c.push_back.new.self; held = c.keep.new.self; heard = c.hear_changes.new.self } in
    let changes = subst (λ (t : CoreState). c.args.decision.changes ≡ (verdict (front_of t) t.confs h).changes) e c.requires.changes in
    let outs = subst (λ (t : CoreState). c.args.decision.outs ≡ (verdict (front_of t) t.confs h).outs) e c.requires.outs in
    let are : AreChanges x.changes = subst AreChanges c.as_slice-list.ensures c.total_length-length.ensures.known in
    let measured = measured_entry x are (c.total_length-length.ensures.total ∙ ap (λ (cs : List Change). min (length (records_of cs)) (2 ^ 64 - 1)) c.as_slice-list.ensures) c.requires.records in
    entered_kept c.self.inside d c.args.moment h x c.self.invariant refl refl refl refl refl
    (c.in-Ok-push_back.ensures.items ∙ ap (λ es. es ++ x ∷ []) c.reserve.ensures.items)
    changes
    (c.in_ok-keep.ensures.ok ∙ ap (λ os. with_outs c.self.inside.confs n os c.self.inside.held) outs)
    (c.hear_changes.ensures c.self.inside.front c.self.inside.heard (front_moments c.self.inside c.self.invariant) c.in-Ok.ensures.laid c.in-Ok-apply_all.ensures.ok
    ∙ ap (λ cs. heard_by_changes c.args.moment cs c.self.inside.heard) c.as_slice-list.ensures)
    (c.in-Ok-apply_all.ensures.ok ∙ ap (λ cs. meaning_of cs c.self.inside.front) c.as_slice-list.ensures)
    refl refl measured
    (subst (λ (t : CoreState). IsFit (front_of t) t.confs h) e c.requires.fit)
    (subst (λ (t : CoreState). is_busy t ≡ false) e c.requires.free)
    (subst (λ (t : CoreState). last_of t + 1 < 2 ^ 64) e c.requires.room)
