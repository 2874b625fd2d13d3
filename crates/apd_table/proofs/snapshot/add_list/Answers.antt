use Rattle.apd_table.proofs.snapshot.add_list.Goals as goal

pub returns : goal.returns
returns c = rw (← c.keys.ensures) c.add_keys.ensures
