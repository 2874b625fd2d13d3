-- What is written for calls, and that it is read again.
use Rattle.std.proofs.Common.{◌≡◌, ℕ, zero, suc, ◌+◌, ◌/◌, ◌%◌, ◌<◌, ◌^◌, true, false, cond, List, [], ◌∷◌, ◌++◌, length, inr, refl, sym, subst, ap, ◌∙◌, arith, lit<, nat_lt}
use Rattle.std.specs.Prelude.{codes, slice_index}
use Rattle.std.specs.List.{AllByRecursion, onto_first}
use Rattle.std.specs.Fmt.{decimal}
use Rattle.std.specs.Str.Parse.{AllDigits}
use Rattle.std.proofs.lemmas.Str.Parse.{tells_digits}
use Rattle.std.proofs.lemmas.Fmt.{decimal_is_IsNumeral, length-decimal-le}
use Rattle.std.proofs.lemmas.Bool.{ne_eqb}
use Rattle.std.proofs.lemmas.List.{append_assoc}
use Rattle.hex.specs.Hex.{IsBytes, encode_with, encode_lower, lower_digits}
use Rattle.hex.proofs.HexLemmas.{decode_of-encode_lower}
use Rattle.apd_base.specs.Addr.{text_of, hex_digit}
use Rattle.apd_base.specs.Text.{lines, with_newline}
use Rattle.apd_base.proofs.NumberText.{number-decimal}
use Rattle.apd_base.proofs.AddrText.{address_of-text_of, six_of}
use Rattle.apd_radio.specs.declared.call.Call.{Call}
use Rattle.apd_radio.specs.declared.call.Call.TheVariants.{Received, Installed, Removed, Sent, Down}
use Rattle.apd_radio.specs.Calls.{IsLineOf, IsCall, line_of}
use Rattle.apd_radio.specs.Recordings.{recording_of, AreLinesOf, Replays, frames_of}
use Rattle.apd_radio.proofs.Unique.{calls_once}

-- no byte is a newline
abbrev Above : List ℕ → Type 0
Above bytes = AllByRecursion (λ b. 10 < b) bytes

above_append : (a b : List ℕ) → Above a → Above b → Above (a ++ b)
above_append [] b p q = q
above_append (x ∷ a) b p q = (p.0, above_append a b p.1 q)

glyph_above : (d : ℕ) → d < 16 → 10 < slice_index lower_digits d
glyph_above zero lt = lit< tt
glyph_above (suc zero) lt = lit< tt
glyph_above (suc (suc zero)) lt = lit< tt
glyph_above (suc (suc (suc zero))) lt = lit< tt
glyph_above (suc (suc (suc (suc zero)))) lt = lit< tt
glyph_above (suc (suc (suc (suc (suc zero))))) lt = lit< tt
glyph_above (suc (suc (suc (suc (suc (suc zero)))))) lt = lit< tt
glyph_above (suc (suc (suc (suc (suc (suc (suc zero))))))) lt = lit< tt
glyph_above (suc (suc (suc (suc (suc (suc (suc (suc zero)))))))) lt = lit< tt
glyph_above (suc (suc (suc (suc (suc (suc (suc (suc (suc zero))))))))) lt = lit< tt
glyph_above (suc (suc (suc (suc (suc (suc (suc (suc (suc (suc zero)))))))))) lt = lit< tt
glyph_above (suc (suc (suc (suc (suc (suc (suc (suc (suc (suc (suc zero))))))))))) lt = lit< tt
glyph_above (suc (suc (suc (suc (suc (suc (suc (suc (suc (suc (suc (suc zero)))))))))))) lt = lit< tt
glyph_above (suc (suc (suc (suc (suc (suc (suc (suc (suc (suc (suc (suc (suc zero))))))))))))) lt = lit< tt
glyph_above (suc (suc (suc (suc (suc (suc (suc (suc (suc (suc (suc (suc (suc (suc zero)))))))))))))) lt = lit< tt
glyph_above (suc (suc (suc (suc (suc (suc (suc (suc (suc (suc (suc (suc (suc (suc (suc zero))))))))))))))) lt = lit< tt
glyph_above (suc (suc (suc (suc (suc (suc (suc (suc (suc (suc (suc (suc (suc (suc (suc (suc d)))))))))))))))) lt = absurd (omega arith)

above_hex : (bytes : List ℕ) → IsBytes bytes → Above (encode_lower bytes)
unfolding encode_with
above_hex [] h = tt
above_hex (b ∷ bytes) h =
    let byte : b < 256 = h 0 in
    let high : b / 16 < 16 = omega arith in
    let low : b % 16 < 16 = omega arith in
    (glyph_above (b / 16) high, (glyph_above (b % 16) low, above_hex bytes (λ i. h (suc i))))

above_digit : (d : ℕ) → 10 < hex_digit d
above_digit d = elim (nat_lt d 10) as (λ t. 10 < cond t (48 + d) (87 + d)) [ true ↦ omega arith | false ↦ omega arith ]

above_six : (a b c d e f : ℕ) → Above (text_of (record { 0 = a ∷ b ∷ c ∷ d ∷ e ∷ f ∷ [] }))
above_six a b c d e f = (
  above_digit (a / 16),
  (
    above_digit (a % 16),
    (
      lit< tt,
      (
        above_digit (b / 16),
        (
          above_digit (b % 16),
          (
            lit< tt,
            (
              above_digit (c / 16),
              (
                above_digit (c % 16),
                (
                  lit< tt,
                  (
                    above_digit (d / 16),
                    (
                      above_digit (d % 16),
                      (
                        lit< tt,
                        (
                          above_digit (e / 16),
                          (
                            above_digit (e % 16),
                            (
                              lit< tt,
                              (above_digit (f / 16), (above_digit (f % 16), tt)),
                            ),
                          ),
                        ),
                      ),
                    ),
                  ),
                ),
              ),
            ),
          ),
        ),
      ),
    ),
  ),
)

above_text : (bytes : List ℕ) → length bytes ≡ 6 → Above (text_of (record { 0 = bytes }))
above_text bytes n =
    subst (λ (l : List ℕ). Above (text_of (record { 0 = l }))) (sym (six_of bytes n))
    (above_six (slice_index bytes 0) (slice_index bytes 1) (slice_index bytes 2) (slice_index bytes 3) (slice_index bytes 4) (slice_index bytes 5))

above_decimal : (digits : List ℕ) → AllDigits 10 digits → Above digits
above_decimal [] h = tt
above_decimal (c ∷ digits) h = let p = tells_digits.parts c digits h in (omega (arith, p.0), above_decimal digits p.1)

above_line : (call : Call) → IsCall call → Above (line_of call)
above_line (Received frame) h = (lit< tt, (lit< tt, (lit< tt, above_hex frame h)))
above_line (Installed addr aid) h =
    above_append (codes "install " ++ text_of addr) (32 ∷ decimal aid)
    (above_append (codes "install ") (text_of addr) (lit< tt, (lit< tt, (lit< tt, (lit< tt, (lit< tt, (lit< tt, (lit< tt, (lit< tt, tt)))))))) (above_text addr.0 h.0.0))
    (lit< tt, above_decimal (decimal aid) (decimal_is_IsNumeral aid (omega (arith, h.1))).0.1)
above_line (Removed addr) h = above_append (codes "remove ") (text_of addr) (lit< tt, (lit< tt, (lit< tt, (lit< tt, (lit< tt, (lit< tt, (lit< tt, tt))))))) (above_text addr.0 h.0)
above_line (Sent frame) h = (lit< tt, (lit< tt, (lit< tt, above_hex frame h)))
above_line Down h = (lit< tt, (lit< tt, (lit< tt, (lit< tt, tt))))

-- the first line of a text
line_first : (line rest : List ℕ) → Above line → lines (with_newline line ++ rest) ≡ line ∷ lines rest
unfolding lines
line_first [] rest h = refl
line_first (b ∷ line) rest h =
    ap (λ t. cond t ([] ∷ lines (with_newline line ++ rest)) (onto_first b (lines (with_newline line ++ rest)))) (ne_eqb b 10 (λ e. let more = h.0 in omega arith))
    ∙ ap (onto_first b) (line_first line rest h.1)

-- the line of a call stands for it
reads : (call : Call) → IsCall call → IsLineOf call (line_of call)
reads (Received frame) h = (32 ∷ encode_lower frame, refl, inr (encode_lower frame, refl, decode_of-encode_lower frame h))
reads (Installed addr aid) h =
    let small : aid < 2 ^ 64 = omega (arith, h.1) in (
      text_of addr ++ 32 ∷ decimal aid,
      append_assoc (codes "install ") (text_of addr) (32 ∷ decimal aid),
      (
        text_of addr,
        decimal aid,
        refl,
        address_of-text_of addr h.0,
        number-decimal 5 65535 aid small (length-decimal-le 5 aid (lit< tt) (omega (arith, h.1)) small) (omega (arith, h.1)),
      ),
    )
reads (Removed addr) h = (text_of addr, refl, address_of-text_of addr h)
reads (Sent frame) h = (32 ∷ encode_lower frame, refl, inr (encode_lower frame, refl, decode_of-encode_lower frame h))
reads Down h = refl

written : (calls : List Call) → AllByRecursion IsCall calls → AreLinesOf calls (lines (recording_of calls))
unfolding lines
written [] h = tt
written (call ∷ calls) h = rw (line_first (line_of call) (recording_of calls) (above_line call h.0)) (reads call h.0, written calls h.1)

pub read_back : (calls : List Call) → AllByRecursion IsCall calls → Replays (recording_of calls) (frames_of calls)
read_back calls h = (calls, written calls h, refl)

pub read_once : (calls : List Call) → AllByRecursion IsCall calls → (frames : List (List ℕ)) → Replays (recording_of calls) frames → frames ≡ frames_of calls
read_once calls h frames (others, are, e) = e ∙ ap frames_of (calls_once (lines (recording_of calls)) others calls are (written calls h))
