use Rattle.apd_ctrl.proofs.Addresses.{stations_rise, stations_are, listed_rise, listed_are}
use Rattle.apd_ctrl.proofs.replies.addresses_law.Goals as goal

pub returns : goal.returns
returns c = record {
  stations_rise = stations_rise;
  stations = stations_are;
  listed_rise = listed_rise;
  listed = listed_are;
}
