-- The words of specs and the lemmas of lower crates that proofs cite, passed on from one place. Declares nothing.
pub use Rattle.apd_acl.proofs.Above.{IsAbove, NoneAbove, found_head, head_least}
pub use Rattle.apd_acl.specs.Least.{IsLeast}
pub use Rattle.apd_acl.specs.Lists.{has, list_of, no_lists, with_address, without_address, without_addresses}
pub use Rattle.apd_acl.specs.Policy.{is_allowed}
pub use Rattle.apd_acl.specs.declared.lists.Lists.{Lists}
pub use Rattle.apd_base.proofs.AddrLemmas.{addr_exact, addr_total, bssid_exact, bssid_total, same_addr, same_bssid, station_exact, station_total}
pub use Rattle.apd_base.proofs.Cases.{both_hold, both_true, differ, first_holds, is_less, is_some_of, no_value, none_is, none_is_some, not_false, not_no, not_yes, same_some, second_false, second_holds}
pub use Rattle.apd_base.proofs.MapLemmas.{any_passes, apart, get_insert_other, get_inserted, get_remove_other, get_removed, one_or_apart, passes_any, retain_keys-insert_in, retain_keys-insert_out, retain_keys-remove, tied}
pub use Rattle.apd_base.proofs.RowsLemmas.{find-place, find_tied_head, is_sorted_tail, put-place, tied_not_below}
pub use Rattle.apd_base.proofs.RowsMaps.{entries-retain_keys, from_sorted-entries, placed, sorted_put_at, valued}
pub use Rattle.apd_base.proofs.StateLemmas.{list_exact, list_total, station_of_aid, which_exact, which_total}
pub use Rattle.apd_base.proofs.StationLemmas.{same_station_number}
pub use Rattle.apd_base.proofs.Trees.{find-lookup, get_lookup, in_order, inserted, removed, rising}
pub use Rattle.apd_base.specs.Addr.{IsAddr, addr_cmp, bssid_cmp, is_among, station_cmp}
pub use Rattle.apd_base.specs.Rows.{offset, place, put_at, value_at}
pub use Rattle.apd_base.specs.Sets.{SetOf, contains}
pub use Rattle.apd_base.specs.State.{IsListed, State, aid_at, aid_of, count, cursor_at, empty_state, is_list_row_of, list_cmp, list_count, policy_at, station_at, stations_of, which_cmp, which_number}
pub use Rattle.apd_base.specs.declared.address.Addr.{Addr}
pub use Rattle.apd_base.specs.declared.address.Bssid.{Bssid}
pub use Rattle.apd_base.specs.declared.station.AclMode.{AclMode}
pub use Rattle.apd_base.specs.declared.station.Policy.{Policy}
pub use Rattle.apd_base.specs.declared.station.Station.{Station}
pub use Rattle.apd_base.specs.declared.station.Station.TheVariants.{Associated, Authenticated}
pub use Rattle.apd_base.specs.declared.station.StationNumber.{StationNumber}
pub use Rattle.apd_base.specs.declared.station.Which.{Which}
pub use Rattle.apd_base.specs.declared.station.Which.TheVariants.{Accept, Deny}
pub use Rattle.apd_record.specs.Meaning.{add_to_list, clear_list, cursors_with, drop_station, meaning, meaning_of, none_given, put_station, set_cursor, set_policy, take_from_list}
pub use Rattle.apd_record.specs.Ranges.{AreChanges, IsBssid, IsChange}
pub use Rattle.apd_record.specs.Record.{record_of, records_of, station_bytes}
pub use Rattle.apd_record.specs.declared.change.Change.{Change}
pub use Rattle.apd_record.specs.declared.change.Change.TheVariants.{Cursor, Drop, ListAdd, ListClear, ListDel, Put}
pub use Rattle.apd_table.specs.Addresses.{addresses_at, denials_under, has_after, is_address_denied_after, is_denied_after, is_list_row, listed_address, policy_after, with_lists_after}
pub use Rattle.apd_table.specs.Allowed.{allowed, denials_by, is_allowed_by, is_allowed_in, is_allowed_under, is_denied_row}
pub use Rattle.apd_table.specs.Can.{CanAdd, CanPut, CanSet, IsAlone, IsFreeFor, MayHave, NoneDeniedAfter}
pub use Rattle.apd_table.specs.InPlace.{AreDrops, AreFewInPlace, IsCursorThere, IsInPlace, NoNewRow}
pub use Rattle.apd_table.specs.LeastFree.{AreTakenAbove, IsFree, IsLeastFreeAbove, IsNextFree, IsTaken, last_given, number_or_0}
pub use Rattle.apd_table.specs.Rows.{AreMarkedAbove, AreRows, IsLeastUnmarked, address_and_station, if_row_of, is_associated_apart}
pub use Rattle.apd_table.specs.Snapshot.{canonical, cursor_change, cursor_changes, cursors_of_rows, is_given, list_change, list_changes, lists_of_rows, policies_of_rows, policy_change, policy_changes, station_change, station_changes}
pub use Rattle.apd_table.specs.Sound.{Sound, StaySound}
pub use Rattle.apd_table.specs.declared.bss_rows.Bss.{Bss}
pub use Rattle.apd_table.specs.declared.members.Members.{Members}
pub use Rattle.apd_table.specs.for_proofs.BssRows.{add_rows, at_row, cursor_of, is_listed_in, list_rows, members_of, members_under, no_bss, parts_of, policy_of, policy_rows, state_of_rows, with_added, with_bss, with_cleared, with_cursor, with_policy, with_removed, with_row}
pub use Rattle.apd_table.specs.for_proofs.BssState.{BssState}
pub use Rattle.apd_table.specs.for_proofs.Members.{AreMembers, IsFirstClear, IsMembers, after_row, count_after, is_set, members_after, no_members, put_after, with_aid, with_place, without_aid, without_place}
pub use Rattle.apd_table.specs.for_proofs.Table.{state_of}
pub use Rattle.std.proofs.lemmas.Bool.{and_parts, cases_eq, cases_lt, eqb-true, false_from_ne_true, false≢true, true_from_ne_false}
pub use Rattle.std.proofs.lemmas.List.{append-nil, drop_all, get_or-replicate, get_or-set_other, get_or-set_same, length-map, length-set, map-append, nil_from_length, take-append-drop}
pub use Rattle.std.proofs.lemmas.List.Folds.{Any-from_list_any}
pub use Rattle.std.proofs.lemmas.Nat.Bits.{bit_at-lt, bit_at-zero, bit_at_clear_other, bit_at_clear_same, bit_at_ones, bit_at_ones_above, bit_at_or, bit_at_set_other, bit_at_set_same, ones_shr}
pub use Rattle.std.proofs.lemmas.Result.{err_from_is_err_and}
pub use Rattle.std.specs.BTreeMap.{BTreeMap, IsFromIterResult, insert_entry, is_at}
pub use Rattle.std.specs.Cmp.{IsTotalOrder, eq_by_cmp_equiv, nat_cmp_is, tied_itself}
pub use Rattle.std.specs.FinMap.{FinMap, IsAntisymmetric, contains_key-keys, empty_of_len, entries-from_sorted, entries-insert, entries_sorted, from_sorted, get-empty, get-entries, get-from_sorted, get-insert, get-remove, get-retain_keys, is_sorted, len-empty, len-entries, len-insert, len-remove, same_map}
pub use Rattle.std.specs.FinMap.Entries.{below_all, find-put}
pub use Rattle.std.specs.Int.{bit_at, bit_not, to_le_bytes, w16}
pub use Rattle.std.specs.List.{AllByRecursion, list_any, slice_get}
pub use Rattle.std.specs.Map.Iter.{deref_pair}
pub use Rattle.std.specs.Option.{is_some, option_eq, option_map}
pub use Rattle.std.specs.Ordering.{eq_by_cmp, is_eq, is_gt, is_le, is_lt, match_ordering, nat_cmp, ordering_reverse, ordering_then}
pub use Rattle.std.specs.declared.cmp.Ordering.{Ordering}
pub use Rattle.std.specs.declared.cmp.Ordering.TheVariants.{Equal, Greater, Less}
