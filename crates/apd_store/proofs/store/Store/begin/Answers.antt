use Rattle.apd_store.proofs.store.Store.begin.Goals as goal

pub returns-then-is_empty-clause-begun : goal.returns-then-is_empty-clause-begun
returns-then-is_empty-clause-begun g c = c.begin_none.ensures.begun c.args.table.now
