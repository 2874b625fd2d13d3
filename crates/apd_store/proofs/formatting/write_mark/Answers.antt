use Rattle.std.proofs.Common.{ℕ, List, refl, sym, ◌∙◌}
use Rattle.apd_store.proofs.Words.{IsLaidOut, magic, one_call, quiet_call}
use Rattle.apd_store.proofs.Heads.{mark_images, mark_found, on_map}
use Rattle.apd_store.proofs.formatting.write_mark.Goals as goal

pub returns-in_err-write_at-clause-any_moment : goal.returns-in_err-write_at-clause-any_moment
returns-in_err-write_at-clause-any_moment g c = λ epoch gate state h laid only.
    let d = g.D.Disk in
    one_call d.model c.args.device.now c.write_at.new.self (λ i. IsLaidOut i epoch gate state) c.write_at.ensures.call.goes_on (c.write_at.ensures.call.time h)
    (mark_images (d.model.reads c.args.device.now) (d.model.may_leave c.args.device.now) (d.model.left_since c.write_at.new.self (d.model.moment c.args.device.now)) epoch gate state laid only (c.write_at.ensures.call.stop h))

pub returns-clause-any_moment : goal.returns-clause-any_moment
returns-clause-any_moment g c = λ epoch gate state h laid only.
    let d = g.D.Disk in
    let P = λ (i : List ℕ). IsLaidOut i epoch gate state in
    let mid = c.write_at.new.self in
    let here = c.write_at.ensures.call.stays_honest.0 h in
    let first = one_call d.model c.args.device.now mid P c.write_at.ensures.call.goes_on (c.write_at.ensures.call.time h)
    (mark_images (d.model.reads c.args.device.now) (d.model.may_leave c.args.device.now) (d.model.left_since mid (d.model.moment c.args.device.now)) epoch gate state laid only (c.write_at.ensures.call.stop h)) in
    quiet_call d.model c.args.device.now mid c.sync.new.self P (λ t i le left. g.met.D.Disk.counts_now mid t i here le left) first c.sync.ensures.call.goes_on (c.sync.ensures.call.time here) (c.sync.ensures.call.stop here)

pub returns-clause-found : goal.returns-clause-found
returns-clause-found g c = λ epoch gate state h laid only.
    let d = g.D.Disk in
    let here = c.write_at.ensures.call.stays_honest.0 h in
    on_map c.sync.result _ _ _ (c.sync.ensures.call.stays here) (c.sync.ensures.call.durable here)
    (λ same durable. (mark_found magic (d.model.reads c.args.device.now) (d.model.reads c.sync.new.self) epoch gate state refl laid (same ∙ c.in_ok-write_at.ensures.call.written h), λ i left. durable i left ∙ sym same))
