use Rattle.std.proofs.Common.{arith, ◌≡◌, ◌<◌, length}
use Rattle.std.specs.Prelude.{slice_index}
use Rattle.std.proofs.Output.{has_written_of_eq}
use Rattle.apd_base.proofs.AddrText.{printed}
use Rattle.apd_base.proofs.address.AddrDisplay.fmt.Goals as goal

pub returns-clause-writes : goal.returns-clause-writes
returns-clause-writes g c =
    let six : length c.args.self.now.0 ≡ 6 = c.type_inv.self.0.1.0.1 in
    let a : slice_index c.args.self.now.0 0 < 256 = omega arith in
    let b : slice_index c.args.self.now.0 1 < 256 = omega arith in
    let d : slice_index c.args.self.now.0 2 < 256 = omega arith in
    let e : slice_index c.args.self.now.0 3 < 256 = omega arith in
    let h : slice_index c.args.self.now.0 4 < 256 = omega arith in
    let i : slice_index c.args.self.now.0 5 < 256 = omega arith in
    λ plain ok. has_written_of_eq _ _ _ _ _ (printed c.args.self.now.0 six a b d e h i)
    (rw (c.laid_out.ensures, c.laid_out-2.ensures, c.laid_out-3.ensures, c.laid_out-4.ensures, c.laid_out-5.ensures, c.laid_out-6.ensures, c.in_radix.ensures, c.in_radix-2.ensures, c.in_radix-3.ensures, c.in_radix-4.ensures, c.in_radix-5.ensures, c.in_radix-6.ensures) at c.write.ensures.writes plain ok)
