use Rattle.std.proofs.Common.{Ok, Err, sym, ◌∙◌}
use Rattle.apd_base.specs.Addr.{addr_cmp}
use Rattle.apd_base.proofs.RowsMaps.{placed}
use Rattle.apd_conf.proofs.ListLemmas.{sorted_without, fewer_rows}
use Rattle.apd_conf.proofs.list_file.take_away.Goals as goal

pub returns-in-Ok-clause-sorted : goal.returns-in-Ok-clause-sorted
returns-in-Ok-clause-sorted c =
    rw c.remove.ensures (sorted_without c.args.addr c.args.list.now c.requires (Ok c.in-Ok.place) (sym c.in-Ok.is ∙ placed addr_cmp c.args.addr c.args.list.now _ c.as_slice.ensures.rows c.requires _ c.place.ensures.exact))

pub returns-in-Ok-clause-without : goal.returns-in-Ok-clause-without
returns-in-Ok-clause-without c =
    rw c.remove.ensures (fewer_rows c.args.addr c.args.list.now c.requires (Ok c.in-Ok.place) (sym c.in-Ok.is ∙ placed addr_cmp c.args.addr c.args.list.now _ c.as_slice.ensures.rows c.requires _ c.place.ensures.exact))

pub returns-in_default-clause-without : goal.returns-in_default-clause-without
returns-in_default-clause-without c =
    fewer_rows c.args.addr c.args.list.now c.requires (Err c.in_default.field-0) (sym c.in_default.is ∙ placed addr_cmp c.args.addr c.args.list.now _ c.as_slice.ensures.rows c.requires _ c.place.ensures.exact)
