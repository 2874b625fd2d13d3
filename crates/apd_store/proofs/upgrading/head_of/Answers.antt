use Rattle.std.proofs.Common.{◌≡◌, ◌∷◌, rules}
use Rattle.apd_store.proofs.Words.{AreChanges, begun_bytes}
use Rattle.apd_store.proofs.Copied.{head_begins}
use Rattle.apd_store.proofs.upgrading.head_of.Goals as goal

pub returns-clause-begins : goal.returns-clause-begins
returns-clause-begins c = λ none.
    let changes = c.in_ok-snapshot.snapshot.items in
    let head = c.extend_from_slice.new.self.items in
    let is : head ≡ 1 ∷ begun_bytes 1 changes = search rules in
    let are : AreChanges changes = search rules in
    let made = c.in_ok-snapshot.ensures in
    head_begins head changes c.args.table.now is made.size are made.sound made.leads made.canonical none
