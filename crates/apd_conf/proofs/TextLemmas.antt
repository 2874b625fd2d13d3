-- Which bytes are text.
use Rattle.std.proofs.Common.{◌≡◌, ℕ, zero, suc, ◌≤◌, ◌<◌, Bool, true, false, List, [], ◌∷◌, ◌&&◌, refl, ap, sym, ◌∙◌, arith}
use Rattle.std.specs.Prelude.{IsTrue, IsUtf8, length, nat_le}
use Rattle.std.specs.List.{list_all}
use Rattle.std.specs.Str.{is_utf8, IsAscii}
use Rattle.std.proofs.lemmas.Str.{IsUtf8-from_is_utf8, is_utf8-from_IsUtf8, IsUtf8-from_ascii}
use Rattle.std.proofs.lemmas.Bool.{and_parts, leb-true}
use Rattle.apd_conf.specs.Names.{is_visible, is_interface_name, is_file_name}

pub file_name-text : (text value : List ℕ) (b : Bool) → b ≡ is_file_name text → text ≡ value → IsUtf8 value → b ≡ (is_utf8 value && is_file_name value)
file_name-text text value b named same utf8 = named ∙ ap is_file_name same ∙ ap (λ u. u && is_file_name value) (sym (is_utf8-from_IsUtf8 value utf8))

pub file_name-other : (value : List ℕ) → ¬ (IsUtf8 value) → false ≡ (is_utf8 value && is_file_name value)
file_name-other value other =
    elim (is_utf8 value) as (λ b. is_utf8 value ≡ b → false ≡ (b && is_file_name value)) [ true ↦ λ is. absurd (other (IsUtf8-from_is_utf8 value is)) | false ↦ λ is. refl ] refl

visible_at : (b : ℕ) → is_visible b ≡ true → b < 128
visible_at b h =
    let most : b ≤ 0x7e = leb-true b 0x7e (and_parts (nat_le 0x21 b) (nat_le b 0x7e) h).1 in
    omega arith

visible_ascii : (bytes : List ℕ) → list_all is_visible bytes ≡ true → IsAscii bytes
visible_ascii [] h i = omega arith
visible_ascii (b ∷ bs) h zero = visible_at b (and_parts (is_visible b) (list_all is_visible bs) h).0
visible_ascii (b ∷ bs) h (suc i) = visible_ascii bs (and_parts (is_visible b) (list_all is_visible bs) h).1 i

-- the name of an interface is text
pub interface_utf8 : (bytes : List ℕ) → IsTrue (is_interface_name bytes) → IsUtf8 bytes
interface_utf8 bytes h =
    let parts = and_parts (nat_le 1 (length bytes) && nat_le (length bytes) 15) (list_all is_visible bytes) h in
    IsUtf8-from_ascii bytes (visible_ascii bytes parts.1)
