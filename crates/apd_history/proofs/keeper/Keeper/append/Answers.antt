use Rattle.std.proofs.Common.{◌≡◌, ◌∙◌, sym, ap, subst, arith, ℕ, ◌+◌, ◌==◌, List, [], ◌∷◌, ◌++◌, map}
use prog.Atomic.{either}
use Rattle.apd_core.specs.Core.{CoreState}
use Rattle.apd_history.specs.Chain.{commits_by, commits_of, core_at, AreCalls, Call}
use Rattle.apd_history.proofs.Chains.{calls_append, commits_of-append}
use Rattle.apd_history.proofs.Maps.{map_append}
use Rattle.apd_history.proofs.Moves.{appends}
use Rattle.apd_history.proofs.keeper.Keeper.append.Goals as goal

pub compare_exchange_with-requires : goal.compare_exchange_with-requires
compare_exchange_with-requires g c =
    let i = c.self.invariant in
    let p = c.self.inside.pages in (
      i.0 ∙ sym p.named,
      omega (arith, p.word),
      rw i.2 (appends c.self.inside.pass.id c.self.inside.pass.me.0 c.args.entry.now p.leaves.shared.table_id.slots (λ (n : ℕ). either (n == 0) 0 n) i.1),
    )

pub invariant_of-self : goal.invariant_of-self
invariant_of-self g c =
    let i = c.self.invariant in
    let e = c.compare_exchange_with.ensures in
    let first = g.L.Naming.first in
    let call = g.E.Entry.call in
    let entries = c.self.inside.pass.me.0.all in
    let old : List Call = map call entries in
    let now : Call = call c.args.entry.now in
    let all : map call c.compare_exchange_with.new.seat.me.0.all ≡ old ++ now ∷ [] =
    ap (λ m. map call m.0.all) e.2 ∙ map_append call entries (c.args.entry.now ∷ []) in
    let begins : now.before ≡ core_at first old = c.requires.follows ∙ (ap (λ (s : CoreState). core_at s c.args.self.now) c.known.ensures ∙ ap (λ (l : List Call). core_at first l) (sym c.self.view_is)) in
    let more : commits_of (old ++ now ∷ []) ≡ commits_of old + commits_by now.kind = commits_of-append old now in
    let free : commits_by now.kind ≡ 0 = c.requires.free in
    let total : c.self.inside.commits.total ≡ commits_of old = i.4 in (
      e.0 ∙ i.0,
      ap (λ m. m.0.keeps) e.2 ∙ i.1,
      ap (λ m. m.1) e.2 ∙ i.2,
      subst (λ (l : List Call). AreCalls first l) (sym all) (calls_append first old now i.3 begins c.requires.call),
      (let counted : c.self.inside.commits.total ≡ commits_of (old ++ now ∷ []) = omega (arith, more, free, total) in
          counted ∙ ap (λ (l : List Call). commits_of l) (sym all)),
    )
