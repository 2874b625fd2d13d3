use Rattle.apd_store.proofs.Words.{MayBeMade, then_run, weaker}
use Rattle.apd_store.proofs.Heads.{kept_made, unmarked_made, laid_made}
use Rattle.apd_store.proofs.formatting.lay_out.Goals as goal

pub returns-in_err-unmark-clause-any_moment : goal.returns-in_err-unmark-clause-any_moment
returns-in_err-unmark-clause-any_moment g c = λ epoch gate state h shows closed.
    let d = g.D.Disk in
    let old = c.args.device.now in
    let before = d.model.may_leave old in
    weaker d.model old c.unmark.new.device _ (MayBeMade state before) (kept_made state before) (c.unmark.ensures.any_moment h)

pub returns-in_err-write_heads-clause-any_moment : goal.returns-in_err-write_heads-clause-any_moment
returns-in_err-write_heads-clause-any_moment g c = λ epoch gate state h2 shows closed.
    let d = g.D.Disk in
    let h1 = c.write_heads.ensures.honest.1 h2 in
    let old = c.args.device.now in
    let before = d.model.may_leave old in
    let first = weaker d.model old c.unmark.new.device _ (MayBeMade state before) (kept_made state before) (c.unmark.ensures.any_moment h1) in
    let clean = c.in_ok-unmark.ensures.unmarked h1 in
    then_run d.model old c.unmark.new.device c.write_heads.new.device (MayBeMade state before) first
    (weaker d.model c.unmark.new.device c.write_heads.new.device _ (MayBeMade state before) (λ i. unmarked_made state before (d.model.reads c.unmark.new.device) i clean.0) (c.write_heads.ensures.any_moment h1 clean.1))

pub returns-clause-any_moment : goal.returns-clause-any_moment
returns-clause-any_moment g c = λ epoch gate state h3 shows closed.
    let d = g.D.Disk in
    let h2 = c.write_mark.ensures.honest.1 h3 in
    let h1 = c.write_heads.ensures.honest.1 h2 in
    let old = c.args.device.now in
    let before = d.model.may_leave old in
    let first = weaker d.model old c.unmark.new.device _ (MayBeMade state before) (kept_made state before) (c.unmark.ensures.any_moment h1) in
    let clean = c.in_ok-unmark.ensures.unmarked h1 in
    let second = then_run d.model old c.unmark.new.device c.write_heads.new.device (MayBeMade state before) first
    (weaker d.model c.unmark.new.device c.write_heads.new.device _ (MayBeMade state before) (λ i. unmarked_made state before (d.model.reads c.unmark.new.device) i clean.0) (c.write_heads.ensures.any_moment h1 clean.1)) in
    let heads = c.in_ok-write_heads.ensures.heads epoch gate state h1 clean.1 shows closed in
    then_run d.model old c.write_heads.new.device c.write_mark.new.device (MayBeMade state before) second
    (weaker d.model c.write_heads.new.device c.write_mark.new.device _ (MayBeMade state before) (λ i. laid_made state before epoch gate i) (c.write_mark.ensures.any_moment epoch gate state h2 heads.0 heads.1))

pub returns-clause-found : goal.returns-clause-found
returns-clause-found g c = λ epoch gate state h3 shows closed.
    let h2 = c.write_mark.ensures.honest.1 h3 in
    let h1 = c.write_heads.ensures.honest.1 h2 in
    let clean = c.in_ok-unmark.ensures.unmarked h1 in
    let heads = c.in_ok-write_heads.ensures.heads epoch gate state h1 clean.1 shows closed in
    c.write_mark.ensures.found epoch gate state h2 heads.0 heads.1
