-- A BSSID starts with its configuration and its lists (own).
use Rattle.std.specs.Prelude.{Bool, not, ◌||◌, List, [], ◌∷◌, ◌++◌, map, is_some, if◌then◌else◌}
use Rattle.std.specs.List.{flat_map}
use Rattle.std.specs.Ordering.{eq_by_cmp}
use Rattle.std.specs.FinMap as maps
use Rattle.apd_base.specs.declared.address.Addr.{Addr}
use Rattle.apd_base.specs.declared.address.Bssid.{Bssid}
use Rattle.apd_base.specs.declared.station.AclMode.{AclMode}
use Rattle.apd_base.specs.declared.station.Which.{Which}
use Rattle.apd_base.specs.declared.station.Which.TheVariants.{Accept, Deny}
use Rattle.apd_base.specs.Addr.{bssid_cmp}
use Rattle.apd_base.specs.Sets.{SetOf}
use Rattle.apd_base.specs.State.{State, list_cmp, policy_at}
use Rattle.apd_conf.specs.declared.conf.Conf.{Conf}
use Rattle.apd_conf.specs.Conf.{policy_of}
use Rattle.apd_frame.specs.declared.codes.TheConstants.Reason.{UNSPECIFIED}
use Rattle.apd_record.specs.Meaning.{none_given}
use Rattle.apd_record.specs.declared.change.Change.{Change}
use Rattle.apd_record.specs.declared.change.Change.TheVariants.{Drop, ListAdd, Policy}
use Rattle.apd_table.specs.Allowed.{is_allowed_in, denials_by}
use Rattle.apd_mlme.specs.rules.Leaving.{outs_of_drop}
use Rattle.apd_mlme.specs.Verdict.{Verdict}

-- a row stays where it is another BSSID's, or its station is allowed in the new mode
abbrev pub stays : State → Bssid → AclMode → Bssid × Addr → Bool
stays s b mode key = not (eq_by_cmp bssid_cmp b key.0) || is_allowed_in s b key.1 mode

-- a change of the BSSID's lists or of its policy that leads to a new state, but for the rows that a mode denies there: they
-- are gone. They are dropped first, in address order, so that each change leaves a sound state
abbrev pub enforcement : State → Bssid → AclMode → Change → State → Verdict
enforcement s b mode change new =
    let denied = denials_by new b mode in
    record {
      state = record new { stations = maps.retain_keys s.stations (stays new b mode) };
      changes = map (λ a. Drop b a) denied ++ change ∷ [];
      outs = flat_map (λ a. outs_of_drop s b a UNSPECIFIED) denied;
    }

-- a BSSID that was started before has the configured policy and its stored lists
abbrev pub later_start : State → Conf → Bssid → Verdict
later_start s conf b =
    enforcement s b conf.macaddr_acl (Policy b (policy_of conf)) (record s { policies = maps.insert s.policies b (policy_of conf) })

-- list rows with a row for each of these addresses beside them
abbrev pub with_additions : Bssid → Which → List Addr → SetOf list_cmp → SetOf list_cmp
with_additions b w addresses rows = maps.from_entries (map (λ a. ((b, w, a), tt)) addresses ++ maps.entries rows)

abbrev pub additions : Bssid → Which → List Addr → List Change
additions b w addresses = map (λ a. ListAdd b w a) addresses

-- the policy comes before its lists, since a list row needs one, and the accept list before the deny list
abbrev pub first_changes : Conf → Bssid → List Addr → List Addr → List Change
first_changes conf b accept deny = Policy b (policy_of conf) ∷ additions b Accept accept ++ additions b Deny deny

-- a BSSID that was never started has the configured policy, the addresses of both lists, and gave no identifier yet; and
-- every other row is kept
abbrev pub first_start : State → Conf → Bssid → List Addr → List Addr → Verdict
first_start s conf b accept deny = record {
  state = record s {
    lists = with_additions b Deny deny (with_additions b Accept accept s.lists);
    policies = maps.insert s.policies b (policy_of conf);
    cursors = maps.insert s.cursors b none_given;
  };
  changes = first_changes conf b accept deny;
  outs = [];
}

-- it was started before where it has a policy row
abbrev pub configure_verdict : State → Conf → Bssid → List Addr → List Addr → Verdict
configure_verdict s conf b accept deny =
    if is_some (policy_at s b) then later_start s conf b else first_start s conf b accept deny
