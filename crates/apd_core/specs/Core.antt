-- What a core holds, and what each of its calls answers and leaves (own).
use Rattle.std.specs.Prelude.{◌≡◌, ℕ, zero, suc, ◌+◌, ◌-◌, ◌^◌, ◌≤◌, ◌<◌, Bool, false, ◌||◌, ◌==◌, nat_le, List, [], ◌∷◌, ◌++◌, length, take, drop, map, Option, None, Some, Result, Ok, Err, if◌then◌else◌}
use Rattle.std.specs.List.{Contains}
use Rattle.std.specs.FinMap as maps
use Rattle.apd_base.specs.declared.limits.TheConstants.{MAX_GROUP, MAX_KEPT}
use Rattle.apd_base.specs.declared.moment.Moment.{Moment}
use Rattle.apd_base.specs.State.{State}
use Rattle.apd_conf.specs.declared.conf.Conf.{Conf}
use Rattle.apd_ctrl.specs.Texts.{text}
use Rattle.apd_ctrl.specs.declared.command.Query.{Query}
use Rattle.apd_journal.specs.Half.{changes_of}
use Rattle.apd_journal.specs.declared.batch.Batch.{Batch}
use Rattle.apd_event.specs.Happening.{Happening}
use Rattle.apd_mlme.specs.declared.decision.Recipient.{Recipient}
use Rattle.apd_mlme.specs.declared.decision.Out.{Out}
use Rattle.apd_mlme.specs.Verdict.{is_nothing}
use Rattle.apd_mlme.specs.rules.{verdict}
use Rattle.apd_record.specs.Meaning.{meaning_of}
use Rattle.apd_record.specs.Record.{records_of}
use Rattle.apd_record.specs.declared.change.Change.{Change}
use Rattle.apd_core.specs.Heard.{LastHeard, heard_by, heard_by_changes}
use Rattle.apd_core.specs.Held.{HeldOuts, no_outs, queue_of, up_to, with_outs, after_hand, after_settled}
use Rattle.apd_core.specs.Requests.{happening_of, unfitness}
use Rattle.apd_core.specs.declared.query_answer.Answer.{Answer}
use Rattle.apd_core.specs.declared.input.Input.{Input}
use Rattle.apd_core.specs.declared.input.QuietReason.{QuietReason}
use Rattle.apd_core.specs.declared.input.QuietReason.TheVariants as quiet
use Rattle.apd_core.specs.declared.ticket.Accepted.{Accepted}
use Rattle.apd_core.specs.declared.ticket.Accepted.TheVariants.{Stopped, Busy, Quiet, Entry}
use Rattle.apd_core.specs.declared.ticket.Ticket.{Ticket}

-- The configurations; the settled state, and the number of the last settled entry; the changes of each entry that is
-- not settled, which are numbered from there on; how many of these the batch in flight has, and 0 where none is; the
-- outs that are held; when each station was heard last; and whether the core has failed.
pub record CoreState : Type 0 where
  pub confs : List Conf
  pub settled : State
  pub number : ℕ
  pub unsettled : List (List Change)
  pub flight : ℕ
  pub held : HeldOuts
  pub heard : LastHeard
  pub failed : Bool

-- the state after all entries
abbrev pub front_of : CoreState → State
front_of s = meaning_of (changes_of s.unsettled) s.settled

-- the number of the last entry
abbrev pub last_of : CoreState → ℕ
last_of s = s.number + length s.unsettled

-- the outs to a recipient that it was not given yet, in order
abbrev pub held_for : Recipient → CoreState → List Out
held_for r s = map (λ x. x.1) (queue_of s.confs s.held r)

-- those of settled entries
abbrev pub ready_for : Recipient → CoreState → List Out
ready_for r s = map (λ x. x.1) (up_to s.number (queue_of s.confs s.held r))

-- how many entries are kept: those that are not settled, and those of which an out is held
abbrev pub kept_count : CoreState → ℕ
kept_count s = maps.len s.held.left

-- whether one of them has this number
abbrev pub is_kept : ℕ → CoreState → Bool
is_kept number s = maps.contains_key s.held.left number

-- the entry with this number is not settled
abbrev pub IsUnsettled : ℕ → CoreState → Type 0
IsUnsettled number s = (s.number < number) × (number ≤ last_of s)

-- a recipient was not given an out of the entry with this number yet
pub record IsOwed (number : ℕ) (s : CoreState) : Type 0 where
  pub to : Recipient
  pub out : Out
  pub held : Contains (queue_of s.confs s.held to) (number, out)

-- no entry yet
abbrev pub new_core : State → List Conf → LastHeard → CoreState
new_core table confs heard =
    record {
      confs = confs;
      settled = table;
      number = 0;
      unsettled = [];
      flight = 0;
      held = no_outs confs;
      heard = heard;
      failed = false;
    }

-- ---- accepting
abbrev pub is_stopped : CoreState → Bool
is_stopped s = s.failed || (last_of s == 2 ^ 64 - 1)

abbrev pub is_busy : CoreState → Bool
is_busy s = nat_le MAX_KEPT (kept_count s)

abbrev pub ticket : ℕ → Input → Moment → Ticket
ticket number i m = record { number = number; input = i; moment = m }

abbrev pub answer_to_fit : CoreState → Moment → Input → Happening → Option QuietReason → Accepted
answer_to_fit s m i h (Some reason) = Quiet reason
answer_to_fit s m i h None =
    if is_nothing (verdict (front_of s) s.confs h) then Quiet quiet.Nothing else Entry (ticket (last_of s + 1) i m)

abbrev pub answer_to : CoreState → Moment → Input → Result Happening QuietReason → Accepted
answer_to s m i (Err reason) = Quiet reason
answer_to s m i (Ok h) = answer_to_fit s m i h (unfitness (front_of s) s.confs h)

-- the answer to a request at a moment: the first that holds
abbrev pub answer_at : CoreState → Moment → Input → Accepted
answer_at s m i =
    if is_stopped s then Stopped else if is_busy s then Busy else answer_to s m i (happening_of s.confs s.heard m i)

-- the core is neither stopped nor busy, and there is a verdict on what happens by a request, by which something changes
-- or leaves
pub record IsDecided (s : CoreState) (m : Moment) (i : Input) : Type 0 where
  pub going : is_stopped s ≡ false
  pub free : is_busy s ≡ false
  pub happens : Happening
  pub asked : happening_of s.confs s.heard m i ≡ Ok happens
  pub fit : unfitness (front_of s) s.confs happens ≡ None
  pub some : is_nothing (verdict (front_of s) s.confs happens) ≡ false

-- an entry more: the verdict on the state after all entries; the rows that it puts were heard at its moment
abbrev pub with_entry : CoreState → Moment → Happening → CoreState
with_entry s m h =
    let v = verdict (front_of s) s.confs h in
    record s {
      unsettled = s.unsettled ++ v.changes ∷ [];
      held = with_outs s.confs (last_of s + 1) v.outs s.held;
      heard = heard_by_changes m v.changes s.heard;
    }

-- the sender of a frame was heard
abbrev pub with_sender : Moment → Happening → CoreState → CoreState
with_sender m h s = record s { heard = heard_by m h s.heard }

abbrev pub entered_state : Accepted → CoreState → Moment → Happening → CoreState
entered_state (Entry t) s m h = with_entry s m h
entered_state (Quiet reason) s m h = s
entered_state Busy s m h = s
entered_state Stopped s m h = s

-- a frame that is not ignored was heard, also where it is no entry
abbrev pub state_after : CoreState → Moment → Result Happening QuietReason → Accepted → CoreState
state_after s m (Ok h) (Entry t) = with_sender m h (with_entry s m h)
state_after s m (Ok h) (Quiet reason) = with_sender m h s
state_after s m (Ok h) Busy = s
state_after s m (Ok h) Stopped = s
state_after s m (Err reason) answer = s

abbrev pub after_request : CoreState → Moment → Input → CoreState
after_request s m i = state_after s m (happening_of s.confs s.heard m i) (answer_at s m i)

-- what an answer enters
abbrev pub answer_happenings : Accepted → Result Happening QuietReason → List Happening
answer_happenings (Entry t) (Ok h) = h ∷ []
answer_happenings (Entry t) (Err reason) = []
answer_happenings (Quiet reason) asked = []
answer_happenings Busy asked = []
answer_happenings Stopped asked = []

-- ---- taking
abbrev pub cannot_take : CoreState → Bool
cannot_take s = s.failed || (nat_le 1 s.flight || (length s.unsettled == 0))

-- so many of the entries, from the front, have records that fit one group, and no longer front does
pub record IsLongestFront (entries : List (List Change)) (count : ℕ) : Type 0 where
  pub there : count ≤ length entries
  pub fits : length (records_of (changes_of (take count entries))) ≤ MAX_GROUP
  pub longest : (more : ℕ) → more ≤ length entries → length (records_of (changes_of (take more entries))) ≤ MAX_GROUP
      → more ≤ count

-- the batch in flight
abbrev pub batch_of : CoreState → Batch
batch_of s =
    record { first = s.number + 1; last = s.number + s.flight; changes = changes_of (take s.flight s.unsettled) }

-- a batch is taken: nothing else changes
pub record IsTaken (batch : Batch) (old new : CoreState) : Type 0 where
  pub longest : IsLongestFront old.unsettled new.flight
  pub some : 1 ≤ new.flight
  pub only : new ≡ record old { flight = new.flight }
  pub batch_is : batch ≡ batch_of new

-- ---- publishing
abbrev pub IsFlight : Batch → CoreState → Type 0
IsFlight batch s = (1 ≤ s.flight) × (batch ≡ batch_of s)

-- entries are settled, as many as this, from a number on
abbrev pub after_all_settled : ℕ → ℕ → HeldOuts → HeldOuts
after_all_settled number zero held = held
after_all_settled number (suc count) held = after_settled (number + suc count) (after_all_settled number count held)

-- the batch in flight is settled
abbrev pub after_publish : CoreState → CoreState
after_publish s =
    record s {
      settled = meaning_of (changes_of (take s.flight s.unsettled)) s.settled;
      number = s.number + s.flight;
      unsettled = drop s.flight s.unsettled;
      flight = 0;
      held = after_all_settled s.number s.flight s.held;
    }

-- ---- handing out, and reading
abbrev pub after_handing_out : Recipient → CoreState → CoreState
after_handing_out r s = record s { held = after_hand s.confs s.number r s.held }

abbrev pub answer_to_query : CoreState → Query → Answer
answer_to_query s q = record { query = q; text = text s.settled s.confs q; number = s.number }
