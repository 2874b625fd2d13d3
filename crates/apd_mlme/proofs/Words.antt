-- The words of specs and the lemmas of lower crates that proofs cite, passed on from one place. Declares nothing.
pub use Rattle.apd_base.proofs.AddrLemmas.{addr_exact, addr_total, bssid_exact, bssid_total, other_way, same_addr, same_bssid, station_exact, station_total}
pub use Rattle.apd_base.proofs.Cases.{both_true, differ, either, first_false, first_holds, is_less, no_value, none_is, none_is_some, not_false, not_yes, same_some, second_false, second_holds, second_true}
pub use Rattle.apd_base.proofs.MapLemmas.{any_passes, apart, get_insert_other, get_inserted, get_remove_other, get_removed, one_or_apart, retain_keys-insert_out, tied}
pub use Rattle.apd_base.proofs.StateLemmas.{list_exact, list_total, station_of_aid, which_exact, which_total}
pub use Rattle.apd_base.proofs.StationLemmas.{same_aid}
pub use Rattle.apd_base.specs.Addr.{addr_cmp, bssid_cmp, is_among, station_cmp}
pub use Rattle.apd_base.specs.Sets.{SetOf, contains}
pub use Rattle.apd_base.specs.State.{IsListed, State, aid_at, aid_of, count, cursor_at, is_list_row_of, list_cmp, list_count, policy_at, station_at, stations_of, which_cmp, which_number}
pub use Rattle.apd_base.specs.declared.address.Addr.{Addr}
pub use Rattle.apd_base.specs.declared.address.Bssid.{Bssid}
pub use Rattle.apd_base.specs.declared.address.TheConstants.{BROADCAST}
pub use Rattle.apd_base.specs.declared.station.AclMode.{AclMode}
pub use Rattle.apd_base.specs.declared.station.Aid.{Aid}
pub use Rattle.apd_base.specs.declared.station.Policy.{Policy}
pub use Rattle.apd_base.specs.declared.station.Station.{Station}
pub use Rattle.apd_base.specs.declared.station.Station.TheVariants.{Associated, Authenticated}
pub use Rattle.apd_base.specs.declared.station.StationNumber.{StationNumber}
pub use Rattle.apd_base.specs.declared.station.Which.{Which}
pub use Rattle.apd_base.specs.declared.station.Which.TheVariants.{Accept, Deny}
pub use Rattle.apd_conf.specs.Conf.{policy_of}
pub use Rattle.apd_conf.specs.Confs.{conf_at}
pub use Rattle.apd_conf.specs.ListFile.{IsList}
pub use Rattle.apd_conf.specs.declared.conf.Conf.{Conf}
pub use Rattle.apd_frame.specs.Contents.{AssociationRequest, Contents, ProbeRequest, association_request, authentication, probe_request, reassociation_request, sender_of, uplink}
pub use Rattle.apd_frame.specs.Elements.{first_with, octets_of, well_formed}
pub use Rattle.apd_frame.specs.Wire.{aid_field, rates_element, status_code, wire}
pub use Rattle.apd_frame.specs.declared.codes.Reason.{Reason}
pub use Rattle.apd_frame.specs.declared.codes.Status.{Status}
pub use Rattle.apd_frame.specs.declared.codes.Status.TheVariants.{DeniedListenIntervalTooLarge, DeniedNoMoreStas, NotSupportedAuthAlgorithm, RefusedReasonUnspecified, Success, TransactionSequenceError}
pub use Rattle.apd_frame.specs.declared.codes.TheConstants.Reason.{INACTIVITY, INVALID_AUTHENTICATION, INVALID_CLASS2_FRAME, INVALID_CLASS3_FRAME, UNSPECIFIED}
pub use Rattle.apd_frame.specs.declared.element.TheConstants.{SSID}
pub use Rattle.apd_frame.specs.declared.received.Authentication.{Authentication}
pub use Rattle.apd_frame.specs.declared.replies.Reply.{Reply}
pub use Rattle.apd_event.specs.Happening.{Configure, Expire, Happening, Heard, Kick, ListEdit, bssid_of}
pub use Rattle.apd_mlme.specs.Outs.{is_same, outs_to, reply_out}
pub use Rattle.apd_mlme.specs.Run.{AreFit, run}
pub use Rattle.apd_mlme.specs.Verdict.{Verdict, nothing, only_reply}
pub use Rattle.apd_mlme.specs.declared.association.Kind.{Kind}
pub use Rattle.apd_mlme.specs.declared.association.Kind.TheVariants.{Association, Reassociation}
pub use Rattle.apd_mlme.specs.declared.command_answer.Answer.{Answer}
pub use Rattle.apd_mlme.specs.declared.command_answer.Answer.TheVariants.{Done, Refused}
pub use Rattle.apd_mlme.specs.declared.decision.Decision.{Decision}
pub use Rattle.apd_mlme.specs.declared.decision.Out.{Out}
pub use Rattle.apd_mlme.specs.declared.decision.Out.TheVariants.{Frame, Install, Remove, Text}
pub use Rattle.apd_mlme.specs.declared.decision.Recipient.{Recipient}
pub use Rattle.apd_mlme.specs.declared.decision.Recipient.TheVariants.{Control, Radio}
pub use Rattle.apd_event.specs.declared.event.Edit.{Edit}
pub use Rattle.apd_event.specs.declared.event.Edit.TheVariants.{Add, Clear}
pub use Rattle.apd_mlme.specs.laws.Association.{IsAnsweredTruly, IsDeserved, IsForNetwork, IsJoined, IsMember, IsOfEnd, remaining_row}
pub use Rattle.apd_mlme.specs.laws.AssociationEnd.{HasLeft, IsDeparture, IsMeant, IsToldOfEnd}
pub use Rattle.apd_mlme.specs.laws.Authentication.{IsAllowed, IsFirst, IsOpenSystem, IsRoomKept, IsToldTruly}
pub use Rattle.apd_mlme.specs.laws.Broadcast.{AreFromStations, IsFromStation, NoBroadcastRow, NoneIsBroadcast}
pub use Rattle.apd_mlme.specs.laws.Command.{IsAnsweredTo, IsEdited, IsFull, IsKicked, IsOnAfter}
pub use Rattle.apd_mlme.specs.laws.Departure.{IsAlone, IsDeauthenticated, IsDisassociated, IsSilenced}
pub use Rattle.apd_mlme.specs.laws.Driver.{DriverMap, FollowsDrivers, driver_after, driver_after_all}
pub use Rattle.apd_mlme.specs.laws.ManagementFrame.{channel_octets, code_of, deauthentication_frame, disassociation_frame, management_frame, rates_octets}
pub use Rattle.apd_mlme.specs.laws.NothingElse.{AreApart, AreFramesDue, AreLetGo, AreNeeded, AreNotices, AreTakenIn, Associates, HasBegun, HasCeased, HasLost, IsAlwaysMade, IsToAll, Names, Rise, Row, StationRow, Writes, frames, stations_let_go, stations_taken_in}
pub use Rattle.apd_mlme.specs.laws.Outs.{BodyIsTrue, OutIsTrue, OutIsTrueForAll, OutsAreTrue, OutsAreTrueForAll, RecipientIsThere, RecipientsAreThere}
pub use Rattle.apd_mlme.specs.laws.Probe.{AsksFor, IsProbeFor, IsProbed, response_frame}
pub use Rattle.apd_mlme.specs.laws.Responses.{IsAssociationAnswered, IsAuthenticationAnswered, authentication_response}
pub use Rattle.apd_mlme.specs.rules.{IsFit, heard_verdict, verdict, verdict_under}
pub use Rattle.apd_mlme.specs.rules.Association.{acceptance, acceptance_of, association_of, association_refusals, association_response, association_status, association_verdict, bssids_elsewhere, installation, is_elsewhere, is_named, outs_elsewhere, put_backs, row_of, with_put_backs, without_current_ap}
pub use Rattle.apd_mlme.specs.rules.Authentication.{auth_response, auth_status, auth_verdict, is_admitted, is_full, is_known, refusals, station_limit}
pub use Rattle.apd_mlme.specs.rules.Commands.{change_of, farewell, kick_by_deauthentication, kick_by_deauthentication_of, kick_by_disassociation, kick_by_disassociation_of, kick_of_all, kick_verdict, list_edit_verdict, text, unanswered_edit, unanswered_edit_under, unanswered_kick, with_answer}
pub use Rattle.apd_mlme.specs.rules.Configuration.{additions, configure_verdict, enforcement, first_changes, first_start, later_start, stays, with_additions}
pub use Rattle.apd_mlme.specs.rules.Departure.{data_of, deauthentication_of, disassociation_of}
pub use Rattle.apd_mlme.specs.rules.Identifiers.{at_least_one, at_most_all, cursor_changes, identifier_for, is_number, is_taken, next_free, one_less}
pub use Rattle.apd_mlme.specs.rules.Inactivity.{inactivity_of}
pub use Rattle.apd_mlme.specs.rules.Leaving.{deauthentication, disassociation, is_row_at, outs_of_drop, outs_of_end, put_back, removal, row_drop, rows_authenticated_where}
pub use Rattle.apd_mlme.specs.rules.Offer.{rates_in}
pub use Rattle.apd_mlme.specs.rules.ProbeRequest.{is_answered, is_asked, is_open, probe_response, probe_verdict}
pub use Rattle.apd_mlme.specs.rules.Refusals.{first_status, is_success}
pub use Rattle.apd_record.specs.Meaning.{add_to_list, cursors_with, drop_station, meaning, meaning_of, none_given, put_station, set_policy}
pub use Rattle.apd_record.specs.Ranges.{AreChanges, IsChange}
pub use Rattle.apd_record.specs.Record.{record_of, records_of}
pub use Rattle.apd_record.specs.declared.change.Change.{Change}
pub use Rattle.apd_record.specs.declared.change.Change.TheVariants.{Cursor, Drop, ListAdd, Put}
pub use Rattle.apd_table.proofs.AllRows.{addresses_few, among_addresses, any_address, denied_few}
pub use Rattle.apd_table.proofs.Denied.{among_denied, any_mapped, denied_among, drops, drops_rest, drops_sound, drops_station, drops_stay, meaning_of-append, one_key}
pub use Rattle.apd_table.proofs.ListChanges.{count_in, mine_is, sound_add, sound_clear, sound_take}
pub use Rattle.apd_table.proofs.ListSets.{clear_elsewhere, clear_here, contains-insert, insert_elsewhere, insert_here, remove_elsewhere, remove_here, same_row, same_set}
pub use Rattle.apd_table.proofs.Put.{sound_put}
pub use Rattle.apd_table.proofs.SnapshotSize.{cursor_length, each_length, fronts, list_length, policy_length, put_length}
pub use Rattle.apd_table.specs.Addresses.{addresses_at, denials_after, denials_under, with_lists_after}
pub use Rattle.apd_table.specs.Allowed.{allowed, denials_by, is_allowed_in, is_allowed_under, is_denied_row}
pub use Rattle.apd_table.specs.Can.{CanPut, NoneDeniedAfter}
pub use Rattle.apd_table.specs.LeastFree.{AreTakenAbove, IsLeastFreeAbove, IsNextFree, IsTaken, last_given, number_or_0}
pub use Rattle.apd_table.specs.Sound.{Sound, StaySound}
pub use Rattle.std.proofs.lemmas.Bool.{and_parts, cases_lt, eq-eqb, eqb-false, eqb-true, false_from_ne_true, leb-false, leb-true, ltb-false, ltb-true}
pub use Rattle.std.proofs.lemmas.List.{append_assoc, length-append, length-map, map-append}
pub use Rattle.std.proofs.lemmas.List.Elements.{All-cons, All-from_recursion, All-head, All-map, All-nil, All-tail, Contains-append_left, Contains-append_right, Contains-push, filter-append, filter_more, recursion_from_All}
pub use Rattle.std.proofs.lemmas.List.Kept.{AllPairs-cons}
pub use Rattle.std.proofs.lemmas.Map.Views.{Contains-from_any, any-filter_same, list_any-from_Contains}
pub use Rattle.std.proofs.lemmas.Slice.Eq.{bytes_eq-Decides}
pub use Rattle.std.specs.Cmp.{eq_by_cmp_equiv}
pub use Rattle.std.specs.FinMap.{FinMap, contains_key-keys, entries_sorted, get-empty, get-entries, get-from_entries, get-insert, get-remove, get-retain_keys, is_sorted, len-empty, len-remove, same_map}
pub use Rattle.std.specs.List.{AllByRecursion, Contains, list_any, slice_get}
pub use Rattle.std.specs.Option.{is_some, option_map, option_or}
pub use Rattle.std.specs.Ordering.{eq_by_cmp, is_eq, ordering_then}
pub use Rattle.std.specs.declared.cmp.Ordering.TheVariants.{Equal, Greater, Less}
