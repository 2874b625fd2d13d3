-- The words that a command may begin with.
use Rattle.std.specs.Prelude.{ℕ, List, [], ◌∷◌, Option, codes}
use Rattle.std.specs.List.{find}
use Rattle.std.specs.Str.{bytes_eq}
use Rattle.apd_base.specs.declared.station.Which.TheVariants.{Accept, Deny}
use Rattle.apd_ctrl.specs.declared.word.Word.{Word}
use Rattle.apd_ctrl.specs.declared.word.Word.TheVariants as w

abbrev pub spelling : Word → List ℕ
spelling w.Ping = codes "PING"
spelling w.Status = codes "STATUS"
spelling w.Sta = codes "STA"
spelling w.StaFirst = codes "STA-FIRST"
spelling w.StaNext = codes "STA-NEXT"
spelling w.Deauthenticate = codes "DEAUTHENTICATE"
spelling w.Disassociate = codes "DISASSOCIATE"
spelling (w.List Accept) = codes "ACCEPT_ACL"
spelling (w.List Deny) = codes "DENY_ACL"

abbrev pub words : List Word
words = w.Ping ∷ w.Status ∷ w.Sta ∷ w.StaFirst ∷ w.StaNext ∷ w.Deauthenticate ∷ w.Disassociate ∷ w.List Accept
    ∷ w.List Deny ∷ []

-- the word that bytes spell: each byte counts, and so does the case of letters
unfoldable pub word_among : List ℕ → List Word → Option Word
word_among text some = find (λ word. bytes_eq text (spelling word)) some

unfoldable pub word_of : List ℕ → Option Word
word_of text = word_among text words
