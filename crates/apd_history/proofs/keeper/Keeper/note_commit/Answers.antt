use Rattle.std.proofs.Common.{◌≡◌, ◌+◌, ◌∙◌, ap, List, ◌∷◌, [], ◌++◌, arith}
use Rattle.apd_history.specs.Chain.{commits_by, commits_of, Call, IsOneMore}
use Rattle.apd_history.proofs.Noting.{at_after, commits_after}
use Rattle.apd_history.proofs.keeper.Keeper.note_commit.Goals as goal

pub invariant_of-right : goal.invariant_of-right
invariant_of-right g c =
    let a = c.args in
    let all : IsOneMore a.kind a.before.value a.core.now a.self.now c.append_commit.new.self =
    c.append_commit.ensures.all ∙ (ap (λ (l : List Call). l ++ g.E.Entry.call c.of-entry.result ∷ []) c.audit.ensures.same
    ∙ ap (λ (x : Call). a.self.now ++ x ∷ []) c.of-entry.ensures) in
    let more : commits_of c.append_commit.new.self ≡ commits_of a.self.now + commits_by a.kind = commits_after a.kind a.before.value a.core.now a.self.now c.append_commit.new.self all in
    let shown : commits_of c.front.result ≡ commits_of c.append_commit.new.self = ap (λ (l : List Call). commits_of l) c.front.ensures.result in
    let seen : commits_of c.audit.new.right.front ≡ commits_of a.right.now.front = ap (λ (l : List Call). commits_of l) c.audit.ensures.front in
    let counted = c.audit.new.right.counted in
    let alone = c.audit.ensures.alone in
    let commit = c.requires.commit in
    let amount = c.append_commit.ensures.amount in
    record {
      whole = c.append_commit.ensures.parts ∙ c.audit.new.right.whole;
      counted = omega (arith, more, shown, seen, counted, alone, commit, amount);
    }

pub returns-clause-at : goal.returns-clause-at
returns-clause-at g c =
    let a = c.args in
    let m : IsOneMore a.kind a.before.value a.core.now a.self.now c.front.new.self =
    c.front.ensures.same ∙ (c.append_commit.ensures.all ∙ (ap (λ (l : List Call). l ++ g.E.Entry.call c.of-entry.result ∷ []) c.audit.ensures.same
    ∙ ap (λ (x : Call). a.self.now ++ x ∷ []) c.of-entry.ensures)) in
    at_after a.kind a.before.value a.core.now a.self.now c.front.new.self m c.args.first.now
