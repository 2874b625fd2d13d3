use Rattle.std.proofs.Common.{◌≢◌, ℕ, ◌<◌, length, sym, ◌∙◌, arith, get_or-set_other, get_or-set_same, below_more}
use Rattle.std.proofs.Math.ListN.{length-set}
use Rattle.apd_base.proofs.AddrText.{no_address, text-address_of}
use Rattle.apd_base.proofs.Cases.{none_is_some}
use Rattle.apd_base.proofs.address.Addr.parse.Goals as goal
use Rattle.apd_base.proofs.address.Addr.parse.Goals.{else-i-lt5-via-then-i-lt5+else-text-i-ne58, else-i-lt5-via-else-i-lt5}

pub loop-i-preserved : goal.loop-i-preserved
loop-i-preserved c = record {
  six = omega (arith, length-set {A = ℕ}, c.loop-i.invariant.six);
  pairs = below_more _ _
      (λ k lt. let ne : k ≢ c.loop-i.i = omega arith in rw get_or-set_other (c.loop-i.invariant.pairs k lt))
      (let lt : c.loop-i.i < length c.loop-i.bytes = omega (arith, c.loop-i.invariant.six, c.loop-i-test.true) in rw get_or-set_same (sym c.in-Some.ensures));
  colons = below_more _ _ c.loop-i.invariant.colons (λ five. elim c.else-i-lt5.branch [
    | else-i-lt5-via-then-i-lt5+else-text-i-ne58 w ↦ w.if-text-i-ne58.false
    | else-i-lt5-via-else-i-lt5 w ↦ absurd (omega (arith, w.if-i-lt5.false))
  ]);
}

pub returns-then-text-ne-TEXT_LENGTH : goal.returns-then-text-ne-TEXT_LENGTH
returns-then-text-ne-TEXT_LENGTH c = no_address c.args.text.now (λ bytes t. c.if-text-ne-TEXT_LENGTH.true t.long)

pub returns-then-text-i-ne58 : goal.returns-then-text-i-ne58
returns-then-text-i-ne58 c = no_address c.args.text.now (λ bytes t. c.if-text-i-ne58.true (t.colons c.loop-i.i c.if-i-lt5.true))

pub returns-in_default : goal.returns-in_default
returns-in_default c = no_address c.args.text.now (λ bytes t. none_is_some _ (c.in_default.ensures ∙ t.pairs c.loop-i.i c.loop-i-test.true))

pub returns : goal.returns
returns c =
    sym (text-address_of c.args.text.now c.loop-i.bytes (record {
      long = c.if-text-ne-TEXT_LENGTH.false;
      six = c.loop-i.invariant.six;
      pairs = λ k lt. c.loop-i.invariant.pairs k (omega (arith, c.loop-i-test.false));
      colons = λ k lt. c.loop-i.invariant.colons k (omega (arith, c.loop-i-test.false)) lt;
    }))
