use Rattle.std.proofs.Common.{sym, ◌∙◌, rules}
use Rattle.apd_base.specs.Addr.{addr_cmp}
use Rattle.apd_base.proofs.RowsMaps.{placed}
use Rattle.apd_conf.proofs.ListLemmas.{there_already, sorted_insert, more_rows, no_room}
use Rattle.apd_conf.proofs.list_file.add.Goals as goal

pub returns-in_default-clause-ok : goal.returns-in_default-clause-ok
returns-in_default-clause-ok c =
    there_already c.args.addr c.args.list.now c.requires c.in_default.field-0 (sym c.in_default.is ∙ placed addr_cmp c.args.addr c.args.list.now _ c.as_slice.ensures.rows c.requires _ c.place.ensures.exact)

pub returns-then-as_slice-eq-MAX_LISTED-clause-many :
    goal.returns-then-as_slice-eq-MAX_LISTED-clause-many
returns-then-as_slice-eq-MAX_LISTED-clause-many c =
    no_room c.args.addr c.args.list.now c.requires c.in-Err.place (sym c.in-Err.is ∙ placed addr_cmp c.args.addr c.args.list.now _ c.as_slice.ensures.rows c.requires _ c.place.ensures.exact)
    (search rules) (search rules)

pub returns-clause-sorted : goal.returns-clause-sorted
returns-clause-sorted c =
    rw c.insert.ensures (sorted_insert c.args.addr c.args.list.now c.requires c.in-Err.place (sym c.in-Err.is ∙ placed addr_cmp c.args.addr c.args.list.now _ c.as_slice.ensures.rows c.requires _ c.place.ensures.exact))

pub returns-clause-ok : goal.returns-clause-ok
returns-clause-ok c =
    rw c.insert.ensures (more_rows c.args.addr c.args.list.now c.requires c.in-Err.place (sym c.in-Err.is ∙ placed addr_cmp c.args.addr c.args.list.now _ c.as_slice.ensures.rows c.requires _ c.place.ensures.exact))
