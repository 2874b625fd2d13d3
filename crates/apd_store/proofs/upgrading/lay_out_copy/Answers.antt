use Rattle.std.proofs.Common.{◌≡◌, List, ℕ, false, ◌-◌, length, refl, rules, sym, subst}
use Rattle.apd_store.proofs.Words.{A, BeginsBy, IsFound, Only}
use Rattle.apd_store.proofs.upgrading.lay_out_copy.Goals as goal

pub returns-in_err-lay_out-clause-any_moment : goal.returns-in_err-lay_out-clause-any_moment
returns-in_err-lay_out-clause-any_moment g c = λ h none.
    let gate = length c.in_ok-head.head.items - 1 in
    let begins : BeginsBy c.deref.result.now 1 gate c.args.table.now = subst (λ (l : List ℕ). BeginsBy l 1 gate c.args.table.now) (sym c.deref.ensures.value) (c.in_ok-head.ensures.begins none) in
    c.lay_out.ensures.any_moment 1 gate c.args.table.now h begins refl

pub returns-clause-any_moment : goal.returns-clause-any_moment
returns-clause-any_moment g c = λ h none.
    let gate = length c.in_ok-head.head.items - 1 in
    let begins : BeginsBy c.deref.result.now 1 gate c.args.table.now = subst (λ (l : List ℕ). BeginsBy l 1 gate c.args.table.now) (sym c.deref.ensures.value) (c.in_ok-head.ensures.begins none) in
    c.lay_out.ensures.any_moment 1 gate c.args.table.now h begins refl

pub returns-clause-found : goal.returns-clause-found
returns-clause-found g c = λ h none.
    let gate = length c.in_ok-head.head.items - 1 in
    let begins : BeginsBy c.deref.result.now 1 gate c.args.table.now = subst (λ (l : List ℕ). BeginsBy l 1 gate c.args.table.now) (sym c.deref.ensures.value) (c.in_ok-head.ensures.begins none) in
    let size : c.len-2.result ≡ length c.in_ok-head.head.items = search rules in
    subst (λ (n : ℕ). IsFound (g.D.Disk.model.reads c.lay_out.new.device) A 1 (n - 1) false c.args.table.now × Only (g.D.Disk.model.reads c.lay_out.new.device) (g.D.Disk.model.may_leave c.lay_out.new.device))
    (sym size) (c.in_ok-lay_out.ensures.found 1 gate c.args.table.now h begins refl)
