-- The words of specs and the lemmas of lower crates that proofs cite, passed on from one place. Declares nothing.
pub use Rattle.apd_base.proofs.AddrLemmas.{bssid_exact, bssid_total, same_addr, same_bssid, station_exact, station_total}
pub use Rattle.apd_base.proofs.Cases.{differ, no_value, none_is, second_true}
pub use Rattle.apd_base.proofs.MapLemmas.{any_passes, get_insert_other, get_inserted, one_or_apart, passes_any, tied}
pub use Rattle.apd_base.proofs.RowsLemmas.{below_found, is_sorted_head, is_sorted_tail, tied_not_below}
pub use Rattle.apd_base.proofs.Trees.{find-lookup, get_lookup, in_order, inserted, removed}
pub use Rattle.apd_base.specs.Addr.{addr_cmp, bssid_cmp, is_among, station_cmp}
pub use Rattle.apd_base.specs.State.{State, empty_state, policy_at, station_at}
pub use Rattle.apd_base.specs.declared.address.Addr.{Addr}
pub use Rattle.apd_base.specs.declared.address.Bssid.{Bssid}
pub use Rattle.apd_base.specs.declared.limits.TheConstants.{MAX_GROUP}
pub use Rattle.apd_base.specs.declared.moment.Moment.{Moment}
pub use Rattle.apd_base.specs.declared.station.Station.{Station}
pub use Rattle.apd_conf.specs.Confs.{AreConfs, AreDistinct, bssids, conf_at}
pub use Rattle.apd_conf.specs.declared.conf.Conf.{Conf}
pub use Rattle.apd_core.specs.Core.{CoreState, IsFlight, IsLongestFront, IsOwed, IsUnsettled, after_all_settled, after_handing_out, after_publish, after_request, answer_at, answer_happenings, answer_to, answer_to_fit, entered_state, front_of, held_for, is_busy, is_kept, is_stopped, kept_count, last_of, new_core, ready_for, state_after, ticket, with_entry, with_sender}
pub use Rattle.apd_core.specs.Heard.{AreHeardAt, AreMomentsOf, LastHeard, due_row, heard_by, heard_by_change, heard_by_changes, heard_from, is_due, is_silent_too_long, silence}
pub use Rattle.apd_core.specs.Held.{AreHeld, HeldOuts, IsInOrder, Queue, after_given, after_hand, after_settled, beyond, greatest_number, left_after_settled, less_one, no_outs, no_queues, outs_in, outs_of, queue_at, queue_of, queue_place, queues_after_hand, queues_with_out, queues_with_outs, radio_place, up_to, with_outs}
pub use Rattle.apd_core.specs.Invariant.{AreDecided, IsCore, Unsettled, numbered_outs}
pub use Rattle.apd_core.specs.Requests.{event_happening, expiry, happening_of, unfitness}
pub use Rattle.apd_core.specs.RowMoments.{AreNoted, HasPut, IsFrom, IsHeardBy, IsNoted}
pub use Rattle.apd_core.specs.declared.entry.Entry.{Entry}
pub use Rattle.apd_core.specs.declared.input.Input.{Input}
pub use Rattle.apd_core.specs.declared.input.QuietReason.{QuietReason}
pub use Rattle.apd_core.specs.declared.request_core.Core.TheInside.{Inside}
pub use Rattle.apd_core.specs.declared.ticket.Accepted.{Accepted}
pub use Rattle.apd_core.specs.declared.ticket.Accepted.TheVariants.{Busy, Quiet, Stopped}
pub use Rattle.apd_core.specs.for_proofs.ChangedRows.{is_of, is_put_of, puts_row, touches_row}
pub use Rattle.apd_core.specs.for_proofs.Core.{IsKept, IsMeasured, core_of, entries_of}
pub use Rattle.apd_core.specs.for_proofs.LaidDown.{AreLaidDown, heard_at, moment_left}
pub use Rattle.apd_core.specs.for_proofs.TakingBack.{MayFollow, before, without}
pub use Rattle.apd_frame.specs.Contents.{sender_of}
pub use Rattle.apd_journal.specs.Half.{changes_of}
pub use Rattle.apd_mlme.proofs.TrueOutsLemmas.{all_both, verdict_there}
pub use Rattle.apd_mlme.proofs.VerdictLemmas.{meaning_in, run_sound, sound_in, stay_end}
pub use Rattle.apd_event.specs.Happening.{Configure, Expire, Happening, Heard, Kick, ListEdit, happening}
pub use Rattle.apd_mlme.specs.Outs.{is_same, outs_to}
pub use Rattle.apd_mlme.specs.Run.{AreFit, outs_run, run}
pub use Rattle.apd_mlme.specs.Verdict.{is_nothing}
pub use Rattle.apd_mlme.specs.declared.decision.Out.{Out}
pub use Rattle.apd_mlme.specs.declared.decision.Recipient.{Recipient}
pub use Rattle.apd_mlme.specs.declared.decision.Recipient.TheVariants.{Control, Radio}
pub use Rattle.apd_mlme.specs.laws.Outs.{RecipientIsThere, RecipientsAreThere}
pub use Rattle.apd_mlme.specs.rules.{IsFit, verdict, verdict_under}
pub use Rattle.apd_record.proofs.Lengths.{records_length-append}
pub use Rattle.apd_record.specs.Meaning.{meaning, meaning_of}
pub use Rattle.apd_record.specs.Ranges.{AreChanges, IsChange}
pub use Rattle.apd_record.specs.Record.{records_of}
pub use Rattle.apd_record.specs.declared.change.Change.{Change}
pub use Rattle.apd_record.specs.declared.change.Change.TheVariants.{Cursor, Drop, ListAdd, ListClear, ListDel, Put}
pub use Rattle.apd_table.proofs.Denied.{any_mapped, meaning_of-append, one_key}
pub use Rattle.apd_table.specs.Sound.{Sound, StaySound}
pub use Rattle.std.proofs.Math.Seq.{drop-cons}
pub use Rattle.std.proofs.lemmas.Bool.{and_parts, cases_eq, cases_lt, eq-eqb, false≢true, le-leb, le-ltb, leb-false, leb-true, lt-leb, lt-ltb, ltb-true, ne_eqb}
pub use Rattle.std.proofs.lemmas.Bool.Decides.{Decides-eqb}
pub use Rattle.std.proofs.lemmas.List.{append-nil, append_assoc, drop-map, drop_all, drop_more, get_or-set_other, get_or-set_same, get_or_at, get_or_default, get_or_past, length-drop, length-map, length-reverse, length-take-le, map-append, map-set, reverse-append, set-get_or, set_past, take-append-drop, take-append-le, take_at}
pub use Rattle.std.proofs.lemmas.List.Elements.{Contains-append_cases, Contains-append_left, Contains-append_right, Contains-push, Contains-push_cases, filter-append}
pub use Rattle.std.proofs.lemmas.List.Sums.{sum_by-cons, sum_by-set, sum_by_push, take_while-cons}
pub use Rattle.std.specs.Cmp.{IsTotalOrder, eq_by_cmp_equiv, nat_cmp_total, tied_itself}
pub use Rattle.std.specs.FinMap.{FinMap, IsAntisymmetric, from_entries, get, get-empty, get-from_entries, get-insert, get-remove, get_tied, len, len-empty, len-insert, nat_cmp-IsAntisymmetric, remove, same_map}
pub use Rattle.std.specs.List.{AllByRecursion, Contains, list_any, position_or_len, slice_get, take_while}
pub use Rattle.std.specs.Option.{option_copied_mut, option_map}
pub use Rattle.std.specs.Ordering.{eq_by_cmp, is_eq, nat_cmp, ordering_reverse}
pub use Rattle.std.specs.declared.cmp.Ordering.TheVariants.{Equal, Greater, Less}
