use Rattle.std.proofs.Common.{◌≡◌, ℕ, ◌<◌, Bool, true, false, cond, List, length, Option, None, refl, arith, take, drop}
use Rattle.std.specs.Prelude.{◌==◌}
use Rattle.std.proofs.lemmas.Bool.{ne_eqb}
use Rattle.std.proofs.lemmas.List.{take_all}
use Rattle.apd_base.specs.Addr.{address_of}
use Rattle.apd_base.specs.declared.address.Addr.{Addr}
use Rattle.apd_conf.specs.ListFile.{is_end, address_at}
use Rattle.apd_conf.proofs.list_file.address_at.Goals as goal

nothing : (b : Bool) → ◌≡◌ {A = Option Addr} None (cond b None None)
nothing true = refl
nothing false = refl

-- a text too short for an address has none in front
short-address_at : (text : List ℕ) → length text < 17 → None ≡ address_at text
unfolding address_of
short-address_at text short =
    let whole : take 17 text ≡ text = take_all 17 text (omega arith) in
    let other : (length text == 17) ≡ false = ne_eqb (length text) 17 (λ e. omega arith) in
    rw whole (rw other (nothing (is_end (drop 17 text))))

pub returns-then-text-lt-TEXT_LENGTH : goal.returns-then-text-lt-TEXT_LENGTH
returns-then-text-lt-TEXT_LENGTH c = short-address_at c.args.text.now c.if-text-lt-TEXT_LENGTH.true
