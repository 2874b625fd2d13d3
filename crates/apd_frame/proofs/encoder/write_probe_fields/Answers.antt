use Rattle.std.proofs.Common.{◌≡◌, ℕ, List, ◌++◌, Result, Ok, Err, ◌∙◌, ap, append_assoc}
use Rattle.std.specs.Prelude.{OnOk, is_ok, if◌then◌else◌}
use Rattle.std.specs.Int.{to_le_bytes, w16, w64}
use Rattle.std.specs.declared.alloc.AllocError.{AllocError}
use Rattle.apd_frame.specs.Wire.{capability}
use Rattle.apd_frame.proofs.encoder.write_probe_fields.Goals as goal

-- three lists were added, the last one where there was room
added : (r : Result (Unit {0}) AllocError) (new b a old x y z : List ℕ) → a ≡ old ++ x → b ≡ a ++ y → new ≡ (if is_ok r then b ++ z else b) → OnOk r (new ≡ old ++ ((x ++ y) ++ z))
added (Ok u) new b a old x y z a_is b_is new_is =
    new_is
    ∙ ap (λ l. l ++ z) (b_is ∙ ap (λ l. l ++ y) a_is ∙ append_assoc old x y)
    ∙ append_assoc old (x ++ y) z
added (Err e) new b a old x y z a_is b_is new_is = tt

pub returns : goal.returns
returns c =
    let old = c.args.frame.now.items in
    let a = c.extend_from_slice.new.self.items in
    let b = c.extend_from_slice-2.new.self.items in
    added c.extend_from_slice-3.result c.extend_from_slice-3.new.self.items b a old
    (to_le_bytes w64 0) (to_le_bytes w16 c.args.beacon_interval) (to_le_bytes w16 capability)
    (c.in_ok-extend_from_slice.ensures.items ∙ ap (λ l. old ++ l) c.to_le_bytes.ensures)
    (c.in_ok-extend_from_slice-2.ensures.items ∙ ap (λ l. a ++ l) c.to_le_bytes-2.ensures)
    (c.extend_from_slice-3.ensures.items ∙ ap (λ l. if is_ok c.extend_from_slice-3.result then b ++ l else b) c.to_le_bytes-3.ensures)
