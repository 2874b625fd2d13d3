-- The verdict on what happens, and where there is one. Each procedure has a module.
pub mod Association
pub mod Authentication
pub mod Commands
pub mod Configuration
pub mod Departure
pub mod Identifiers
pub mod Inactivity
pub mod Leaving
pub mod Offer
pub mod ProbeRequest
pub mod Refusals
use Rattle.std.specs.Prelude.{◌<◌, List, Option, None, Some, IsSome, ◌⊎◌}
use Rattle.std.specs.FinMap as maps
use Rattle.apd_base.specs.declared.address.Bssid.{Bssid}
use Rattle.apd_base.specs.declared.limits.TheConstants.{MAX_BSS}
use Rattle.apd_base.specs.State.{State, policy_at}
use Rattle.apd_conf.specs.declared.conf.Conf.{Conf}
use Rattle.apd_conf.specs.Confs.{conf_at}
use Rattle.apd_conf.specs.ListFile.{IsList}
use Rattle.apd_frame.specs.Contents.{Contents}
use Rattle.apd_frame.specs.Contents as frame
use Rattle.apd_mlme.specs.declared.association.Kind.TheVariants as kind
use Rattle.apd_mlme.specs.rules.Association.{association_verdict, without_current_ap}
use Rattle.apd_mlme.specs.rules.Authentication.{auth_verdict}
use Rattle.apd_mlme.specs.rules.Commands.{kick_verdict, list_edit_verdict}
use Rattle.apd_mlme.specs.rules.Configuration.{configure_verdict}
use Rattle.apd_mlme.specs.rules.Departure.{disassociation_verdict, deauthentication_verdict, data_verdict}
use Rattle.apd_event.specs.Happening.{Happening, Heard, Kick, ListEdit, Expire, Configure, bssid_of}
use Rattle.apd_mlme.specs.rules.Inactivity.{inactivity_verdict}
use Rattle.apd_mlme.specs.rules.ProbeRequest.{probe_verdict}
use Rattle.apd_mlme.specs.Verdict.{Verdict, nothing}

-- the BSSID is configured; a frame, a command or a silence needs its policy row, and a start a policy row or room for
-- one, and lists as list files give them
abbrev pub IsFit : State → List Conf → Happening → Type 0
IsFit s confs (Heard b frame) = IsSome (conf_at confs b) × IsSome (policy_at s b)
IsFit s confs (Kick b to reason deauth tag) = IsSome (conf_at confs b) × IsSome (policy_at s b)
IsFit s confs (ListEdit b which edit tag) = IsSome (conf_at confs b) × IsSome (policy_at s b)
IsFit s confs (Expire b a) = IsSome (conf_at confs b) × IsSome (policy_at s b)
IsFit s confs (Configure b accept deny) =
    IsSome (conf_at confs b) × (IsSome (policy_at s b) ⊎ (maps.len s.policies < MAX_BSS)) × IsList accept × IsList deny

-- each frame has its rule
abbrev pub heard_verdict : State → List Conf → Conf → Bssid → Contents → Verdict
heard_verdict s confs conf b (frame.authentication request) = auth_verdict s conf b request
heard_verdict s confs conf b (frame.association_request request) =
    association_verdict s confs conf b kind.Association request
heard_verdict s confs conf b (frame.reassociation_request request) =
    association_verdict s confs conf b kind.Reassociation (without_current_ap request)
heard_verdict s confs conf b (frame.probe_request request) = probe_verdict s conf b request
heard_verdict s confs conf b (frame.disassociation a reason) = disassociation_verdict s b a
heard_verdict s confs conf b (frame.deauthentication a reason) = deauthentication_verdict s b a
heard_verdict s confs conf b (frame.uplink a) = data_verdict s b a

abbrev pub verdict_under : State → List Conf → Option Conf → Happening → Verdict
verdict_under s confs (Some conf) (Heard b frame) = heard_verdict s confs conf b frame
verdict_under s confs (Some conf) (Kick b to reason deauth tag) = kick_verdict s b to reason deauth tag
verdict_under s confs (Some conf) (ListEdit b which edit tag) = list_edit_verdict s b which edit tag
verdict_under s confs (Some conf) (Expire b a) = inactivity_verdict s b a
verdict_under s confs (Some conf) (Configure b accept deny) = configure_verdict s conf b accept deny
-- not fit: nothing
verdict_under s confs None h = nothing s

abbrev pub verdict : State → List Conf → Happening → Verdict
verdict s confs h = verdict_under s confs (conf_at confs (bssid_of h)) h
