use Rattle.std.proofs.Common.{sym}
use Rattle.std.specs.FinMap.{get-from_sorted}
use Rattle.apd_base.proofs.RowsLemmas.{find-place, place_bound}
use Rattle.apd_base.proofs.RowsMaps.{sorted_put_at, insert-from_sorted, sorted_remove_at, remove-from_sorted}
use Rattle.apd_base.proofs.rows.rows_laws.Goals as goal

pub returns : goal.returns
returns g c =
    let total = g.met.K.Ord.total in
    record {
      value_is_at_place = λ key rows sorted. find-place total key rows sorted;
      place_is_in_range = λ key rows. place_bound total key rows;
      value_is_get = λ exact key rows sorted. sym (get-from_sorted _ rows key sorted);
      put_is_insert = λ exact key value rows sorted. sym (insert-from_sorted total exact key value rows sorted);
      put_keeps_order = λ exact key value rows sorted. sorted_put_at total exact key value rows sorted;
      remove_is_remove = λ exact key rows sorted. sym (remove-from_sorted total exact key rows sorted);
      remove_keeps_order = λ exact key rows sorted. sorted_remove_at total exact key rows sorted;
    }
