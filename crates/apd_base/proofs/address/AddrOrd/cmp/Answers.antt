use Rattle.apd_base.proofs.AddrNumbers.{ranked_by_number}
use Rattle.apd_base.proofs.address.AddrOrd.cmp.Goals as goal

pub returns : goal.returns
returns c =
    let by_number = ranked_by_number c.args.self.now c.args.other.now c.number.ensures.address c.number-2.ensures.address in
    rw (c.cmp.ensures, c.number.ensures.number, c.number-2.ensures.number) by_number
