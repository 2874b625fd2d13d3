use Rattle.std.proofs.Common.{ap, subst, ◌∙◌}
use Rattle.apd_store.specs.Beginning.{IsBegun}
use Rattle.apd_store.specs.Outside.{store_device}
use Rattle.apd_store.specs.declared.store.Store.{Store}
use Rattle.apd_flusher.proofs.Turns.{loads, on_ok_as}
use Rattle.apd_flusher.proofs.flusher.Flusher.load.Goals as goal

pub returns-clause-loaded : goal.returns-clause-loaded
returns-clause-loaded g c =
    let old = c.args.self.now in
    let staged = c.in_default.ensures in
    on_ok_as c.begin.result _ _ c.begin.ensures.begun
    (λ begun. loads g.D.Disk.model c.args.batch c.table.result.now old (record { alloc = c.stage.new.self.alloc; store = c.begin.new.self; tables = c.stage.new.self.tables })
    (subst (λ (s : Store g.row.D.Denot). IsBegun g.D.Disk.model c.args.batch c.table.result.now s c.begin.new.self) c.stage.ensures.store begun) staged.good c.stage.ensures.table staged.next
    (c.begin.ensures.device ∙ ap (λ (s : Store g.row.D.Denot). store_device s) c.stage.ensures.store))
