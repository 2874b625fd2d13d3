-- Which rows are silent for too long, and which is the first of them.
use Rattle.std.specs.Prelude.{◌≡◌, ◌≤◌, ◌*◌, List, Some}
use Rattle.std.specs.declared.cmp.Ordering.TheVariants.{Less}
use Rattle.std.specs.FinMap as maps
use Rattle.apd_base.specs.Addr.{station_cmp}
use Rattle.apd_base.specs.declared.address.Addr.{Addr}
use Rattle.apd_base.specs.declared.address.Bssid.{Bssid}
use Rattle.apd_base.specs.declared.moment.Moment.{Moment}
use Rattle.apd_conf.specs.declared.conf.Conf.{Conf}
use Rattle.apd_conf.specs.Confs.{conf_at}
use Rattle.apd_core.specs.Heard.{LastHeard, silence}

-- a row of a configured BSSID was heard last so long ago, in milliseconds, as the configuration says, in seconds, or
-- longer
pub record IsSilent (confs : List Conf) (now : Moment) (heard : LastHeard) (row : Bssid × Addr) : Type 0 where
  pub conf : Conf
  pub configured : conf_at confs row.0 ≡ Some conf
  pub last : Moment
  pub heard_last : maps.get heard row ≡ Some last
  pub long : conf.ap_max_inactivity * 1000 ≤ silence now last

-- it is so, and no row before it is, by (BSSID, address)
pub record IsFirstSilent (confs : List Conf) (now : Moment) (heard : LastHeard) (row : Bssid × Addr) : Type 0 where
  pub silent : IsSilent confs now heard row
  pub first : (other : Bssid × Addr) → station_cmp other row ≡ Less → ¬ (IsSilent confs now heard other)
