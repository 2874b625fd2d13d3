-- What happens by a request, and why there is no verdict on it.
use Rattle.std.specs.Prelude.{Bool, false, ◌&&◌, nat_le, List, Option, None, Some, is_none, Result, Ok, Err, if◌then◌else◌}
use Rattle.std.specs.FinMap as maps
use Rattle.apd_base.specs.declared.address.Addr.{Addr}
use Rattle.apd_base.specs.declared.address.Bssid.{Bssid}
use Rattle.apd_base.specs.declared.limits.TheConstants.{MAX_BSS}
use Rattle.apd_base.specs.declared.moment.Moment.{Moment}
use Rattle.apd_base.specs.State.{State, policy_at}
use Rattle.apd_conf.specs.declared.conf.Conf.{Conf}
use Rattle.apd_conf.specs.Confs.{conf_at}
use Rattle.apd_conf.specs.ListFile.{IsList}
use Rattle.apd_frame.specs.Contents.{Contents}
use Rattle.apd_frame.specs.Outcome.{outcome}
use Rattle.apd_frame.specs.declared.ignored.Ignored.{Ignored}
use Rattle.apd_event.specs.declared.event.Event.{Event}
use Rattle.apd_event.specs.Happening.{Happening, Heard, Kick, ListEdit, Expire, Configure, happening, bssid_of}
use Rattle.apd_core.specs.Heard.{LastHeard, due_row}
use Rattle.apd_core.specs.declared.input.Input.{Input}
use Rattle.apd_core.specs.declared.input.Input.TheVariants as input
use Rattle.apd_core.specs.declared.input.QuietReason.{QuietReason}
use Rattle.apd_core.specs.declared.input.QuietReason.TheVariants as quiet

abbrev pub frame_happening : Bssid → Result Contents Ignored → Result Happening QuietReason
frame_happening b (Ok frame) = Ok (Heard b frame)
frame_happening b (Err reason) = Err (quiet.Ignored reason)

abbrev pub expiry : Option (Bssid × Addr) → Result Happening QuietReason
expiry None = Err quiet.Nothing
expiry (Some row) = Ok (Expire row.0 row.1)

-- a control command; any other event is none
abbrev pub order_happening : Happening → Result Happening QuietReason
order_happening (Kick b to reason deauth tag) = Ok (Kick b to reason deauth tag)
order_happening (ListEdit b which edit tag) = Ok (ListEdit b which edit tag)
order_happening (Heard b frame) = Err quiet.Nothing
order_happening (Expire b a) = Err quiet.Nothing
order_happening (Configure b accept deny) = Err quiet.Nothing

-- what a request says, whatever the table is, or why it is no entry; a tick says nothing
abbrev pub happening_said : Input → Option (Result Happening QuietReason)
happening_said (input.Received b bytes) = Some (frame_happening b (outcome bytes.now b))
happening_said (input.Order event) = Some (order_happening (happening event))
happening_said input.Tick = None
happening_said (input.Configure b accept deny) = Some (Ok (Configure b accept.now deny.now))

abbrev pub or_expiry : List Conf → LastHeard → Moment → Option (Result Happening QuietReason)
    → Result Happening QuietReason
or_expiry confs heard m None = expiry (due_row confs m heard)
or_expiry confs heard m (Some said) = said

-- what happens by a request: what it says, and by a tick the row that is due expires
abbrev pub happening_of : List Conf → LastHeard → Moment → Input → Result Happening QuietReason
happening_of confs heard m i = or_expiry confs heard m (happening_said i)

-- the same of an event
abbrev pub event_happening : Result Event QuietReason → Result Happening QuietReason
event_happening (Ok event) = Ok (happening event)
event_happening (Err reason) = Err reason

-- the lists of a start are as list files give them
abbrev pub HasLists : Happening → Type 0
HasLists (Heard b frame) = Unit {0}
HasLists (Kick b to reason deauth tag) = Unit {0}
HasLists (ListEdit b which edit tag) = Unit {0}
HasLists (Expire b a) = Unit {0}
HasLists (Configure b accept deny) = IsList accept × IsList deny

-- whether there is no verdict for want of the BSSID's policy row
abbrev pub lacks_policy : State → Happening → Bool
lacks_policy s (Heard b frame) = is_none (policy_at s b)
lacks_policy s (Kick b to reason deauth tag) = is_none (policy_at s b)
lacks_policy s (ListEdit b which edit tag) = is_none (policy_at s b)
lacks_policy s (Expire b a) = is_none (policy_at s b)
lacks_policy s (Configure b accept deny) = false

abbrev pub is_one_too_many : State → Happening → Bool
is_one_too_many s (Heard b frame) = false
is_one_too_many s (Kick b to reason deauth tag) = false
is_one_too_many s (ListEdit b which edit tag) = false
is_one_too_many s (Expire b a) = false
is_one_too_many s (Configure b accept deny) = is_none (policy_at s b) && nat_le MAX_BSS (maps.len s.policies)

-- why there is no verdict on what happened
abbrev pub unfitness : State → List Conf → Happening → Option QuietReason
unfitness s confs h =
    if is_none (conf_at confs (bssid_of h)) then Some quiet.NoInterface
    else if lacks_policy s h then Some quiet.NoPolicy
    else if is_one_too_many s h then Some quiet.TooManyBss
    else None
