use Rattle.std.proofs.Common.{arith}
use Rattle.apd_record.proofs.Absent.{passed_on, put_without_address, put_without_station, drop_without_address, add_without_which, add_without_address, del_without_which, del_without_address, clear_without_which, policy_without_fields, cursor_without_number}
use Rattle.apd_record.proofs.reader.split_fields.Goals as goal

pub returns-in_err-addr-in-1-clause-none : goal.returns-in_err-addr-in-1-clause-none
returns-in_err-addr-in-1-clause-none c = passed_on c.from_residual.result c.args.tag 1 c.args.bssid c.args.bytes.now c.in-1.is (put_without_address c.args.bssid c.args.bytes.now (omega arith) c.in_err-addr-in-1.ensures.none)

pub returns-in_err-station-in-1-clause-none : goal.returns-in_err-station-in-1-clause-none
returns-in_err-station-in-1-clause-none c = passed_on c.from_residual-in_err-station-in-1.result c.args.tag 1 c.args.bssid c.args.bytes.now c.in-1.is (put_without_station c.args.bssid c.args.bytes.now c.in_ok-addr-in-1.addr c.in_ok-addr-in-1.rest.now (omega arith) c.in_ok-addr-in-1.ensures.range c.in_ok-addr-in-1.ensures.some c.in_err-station-in-1.ensures.none)

pub returns-in_err-addr-in-2-clause-none : goal.returns-in_err-addr-in-2-clause-none
returns-in_err-addr-in-2-clause-none c = passed_on c.from_residual-in_err-addr-in-2.result c.args.tag 2 c.args.bssid c.args.bytes.now c.in-2.is (drop_without_address c.args.bssid c.args.bytes.now (omega arith) c.in_err-addr-in-2.ensures.none)

pub returns-in_err-which-in-3-clause-none : goal.returns-in_err-which-in-3-clause-none
returns-in_err-which-in-3-clause-none c = passed_on c.from_residual-in_err-which-in-3.result c.args.tag 3 c.args.bssid c.args.bytes.now c.in-3.is (add_without_which c.args.bssid c.args.bytes.now (omega arith) c.in_err-which-in-3.ensures.none)

pub returns-in_err-addr-in-3-clause-none : goal.returns-in_err-addr-in-3-clause-none
returns-in_err-addr-in-3-clause-none c = passed_on c.from_residual-in_err-addr-in-3.result c.args.tag 3 c.args.bssid c.args.bytes.now c.in-3.is (add_without_address c.args.bssid c.args.bytes.now c.in_ok-which-in-3.which c.in_ok-which-in-3.rest.now (omega arith) c.in_ok-which-in-3.ensures.some c.in_err-addr-in-3.ensures.none)

pub returns-in_err-which-in-4-clause-none : goal.returns-in_err-which-in-4-clause-none
returns-in_err-which-in-4-clause-none c = passed_on c.from_residual-in_err-which-in-4.result c.args.tag 4 c.args.bssid c.args.bytes.now c.in-4.is (del_without_which c.args.bssid c.args.bytes.now (omega arith) c.in_err-which-in-4.ensures.none)

pub returns-in_err-addr-in-4-clause-none : goal.returns-in_err-addr-in-4-clause-none
returns-in_err-addr-in-4-clause-none c = passed_on c.from_residual-in_err-addr-in-4.result c.args.tag 4 c.args.bssid c.args.bytes.now c.in-4.is (del_without_address c.args.bssid c.args.bytes.now c.in_ok-which-in-4.which c.in_ok-which-in-4.rest.now (omega arith) c.in_ok-which-in-4.ensures.some c.in_err-addr-in-4.ensures.none)

pub returns-in_err-which-in-5-clause-none : goal.returns-in_err-which-in-5-clause-none
returns-in_err-which-in-5-clause-none c = passed_on c.from_residual-in_err-which-in-5.result c.args.tag 5 c.args.bssid c.args.bytes.now c.in-5.is (clear_without_which c.args.bssid c.args.bytes.now (omega arith) c.in_err-which-in-5.ensures.none)

pub returns-in_err-policy-in-6-clause-none : goal.returns-in_err-policy-in-6-clause-none
returns-in_err-policy-in-6-clause-none c = passed_on c.from_residual-in_err-policy-in-6.result c.args.tag 6 c.args.bssid c.args.bytes.now c.in-6.is (policy_without_fields c.args.bssid c.args.bytes.now (omega arith) c.in_err-policy-in-6.ensures.none)

pub returns-in_err-last-in-7-clause-none : goal.returns-in_err-last-in-7-clause-none
returns-in_err-last-in-7-clause-none c = passed_on c.from_residual-in_err-last-in-7.result c.args.tag 7 c.args.bssid c.args.bytes.now c.in-7.is (cursor_without_number c.args.bssid c.args.bytes.now (omega arith) c.in_err-last-in-7.ensures.none)
