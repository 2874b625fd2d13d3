-- What came in at a port, and what the driver said there.
use Rattle.std.proofs.Common.{IfSome, IsSome, None, Option, Some, Result, Ok, Err, OnErr, append_assoc, ◌≡◌, ◌≢◌, ◌↔◌, ◌⊎◌, inl, inr, ℕ, Bool, true, false, List, [], ◌∷◌, ◌++◌, refl, sym, ap, subst, ◌∙◌}
use Rattle.std.proofs.lemmas.List.{append-nil}
use Rattle.std.specs.declared.net.socket_addr.SocketAddr.{SocketAddr}
use Rattle.apd_base.proofs.Cases.{differ}
use Rattle.apd_radio.specs.declared.heard.Heard.{Heard}
use Rattle.apd_radio.specs.declared.heard.Heard.TheVariants.{Nothing, Stranger, Datagram}
use Rattle.apd_radio.specs.Drivers.{Received, Gives, HasSaid, Heeds, HearsNext, IsFault, IsFrame, IsUp, PassesOver, WaitsOrCame, is_word}

-- what holds is so of an error
pub on_err : {T E : Type 0} {P : Type 0} → (result : Result T E) → P → OnErr result P
on_err (Ok value) p = tt
on_err (Err fault) p = p

-- what held before, or is so now, for what held before, or is so in other words
or_else : (then before : Bool) (A B : Type 0) → (then ≡ true) ↔ ((before ≡ true) ⊎ A) → (A → B) → (B → A)
    → (then ≡ true) ↔ ((before ≡ true) ⊎ B)
or_else then before A B (f, g) to from = (λ e. elim (f e) [ inl h ↦ inl h | inr a ↦ inr (to a) ], λ h. elim h [ inl e ↦ g (inl e) | inr b ↦ g (inr (from b)) ])

-- nothing changes
pub as_before : (then before : Bool) (A : Type 0) → then ≡ before → (A → ⊥) → (then ≡ true) ↔ ((before ≡ true) ⊎ A)
as_before then before A same none = (λ e. inl (sym same ∙ e), λ h. elim h [ inl e ↦ same ∙ e | inr a ↦ absurd (none a) ])

-- one after the other
both : (last between first : Bool) (A B C : Type 0) → (between ≡ true) ↔ ((first ≡ true) ⊎ A) → (last ≡ true) ↔ ((between ≡ true) ⊎ B)
    → (C → A ⊎ B) → (A ⊎ B → C) → (last ≡ true) ↔ ((first ≡ true) ⊎ C)
both last between first A B C (f, g) (h, k) to from = (
  λ e. elim (h e) [ inl m ↦ elim (f m) [ inl n ↦ inl n | inr a ↦ inr (from (inl a)) ] | inr b ↦ inr (from (inr b)) ],
  λ s. elim s [ inl e ↦ k (inl (g (inl e))) | inr c ↦ elim (to c) [ inl a ↦ k (inl (g (inr a))) | inr b ↦ k (inr b) ] ],
)

module _ (driver : SocketAddr) where
  module _ (Word : List ℕ → Type 0) where
    said_in : (came more : List Received) → HasSaid driver Word (came ++ more) → HasSaid driver Word came ⊎ HasSaid driver Word more
    said_in [] more said = inr said
    said_in (next ∷ came) more (inl here) = inl (inl here)
    said_in (next ∷ came) more (inr there) = elim (said_in came more there) [ inl s ↦ inl (inr s) | inr s ↦ inr s ]

    in_said : (came more : List Received) → HasSaid driver Word came ⊎ HasSaid driver Word more → HasSaid driver Word (came ++ more)
    in_said [] more (inl none) = absurd none
    in_said [] more (inr said) = said
    in_said (next ∷ came) more (inl (inl here)) = inl here
    in_said (next ∷ came) more (inl (inr there)) = inr (in_said came more (inl there))
    in_said (next ∷ came) more (inr said) = inr (in_said came more (inr said))

    -- of one datagram
    of_stranger : (sender : SocketAddr) (bytes : List ℕ) → sender ≢ driver → HasSaid driver Word ((sender, bytes) ∷ []) → ⊥
    of_stranger sender bytes other (inl (same, word)) = other same
    of_stranger sender bytes other (inr none) = none

    of_driver : (bytes : List ℕ) → HasSaid driver Word ((driver, bytes) ∷ []) → Word bytes
    of_driver bytes (inl (same, word)) = word
    of_driver bytes (inr none) = absurd none

  pub heeds_both : (a b c : List Received) (due failed due' failed' due'' failed'' : Bool) → Heeds driver a b due failed due' failed'
      → Heeds driver b c due' failed' due'' failed'' → Heeds driver a c due failed due'' failed''
  heeds_both a b c due failed due' failed' due'' failed'' p q = record {
    came = p.came ++ q.came;
    received = q.received ∙ ap (λ r. r ++ q.came) p.received ∙ append_assoc a p.came q.came;
    map = both due'' due' due _ _ _ p.map q.map (said_in IsUp p.came q.came) (in_said IsUp p.came q.came);
    fault = both failed'' failed' failed _ _ _ p.fault q.fault (said_in IsFault p.came q.came) (in_said IsFault p.came q.came);
  }

  pub heeds_none : (before : List Received) (due failed : Bool) → Heeds driver before before due failed due failed
  heeds_none before due failed = record {
    came = [];
    received = sym (append-nil before);
    map = as_before due due _ refl (λ s. s);
    fault = as_before failed failed _ refl (λ s. s);
  }

  -- what one datagram said is heeded
  pub heeds_next : (before now : List Received) (heard : Heard) (due failed : Bool) → HearsNext driver before heard now → ((bytes : _) → heard ≡ Datagram bytes → ⊥)
      → Heeds driver before now due failed due failed
  heeds_next before now Nothing due failed (came, e, none) other = record {
    came = [];
    received = e ∙ ap (λ c. before ++ c) none;
    map = as_before due due _ refl (λ s. s);
    fault = as_before failed failed _ refl (λ s. s);
  }
  heeds_next before now Stranger due failed (came, e, (sender, bytes, one, not)) other = record {
    came = (sender, bytes) ∷ [];
    received = e ∙ ap (λ c. before ++ c) one;
    map = as_before due due _ refl (of_stranger IsUp sender bytes not);
    fault = as_before failed failed _ refl (of_stranger IsFault sender bytes not);
  }
  heeds_next before now (Datagram bytes) due failed h other = absurd (other bytes refl)

  pub heeds_word : (before now : List Received) (heard : Heard) (bytes : _) (due failed due' failed' : Bool) → heard ≡ Datagram bytes → HearsNext driver before heard now
      → (due' ≡ true) ↔ ((due ≡ true) ⊎ IsUp bytes.items) → (failed' ≡ true) ↔ ((failed ≡ true) ⊎ IsFault bytes.items)
      → Heeds driver before now due failed due' failed'
  heeds_word before now heard bytes due failed due' failed' is h up fault =
      let (came, e, one) : HearsNext driver before (Datagram bytes) now = subst (λ d. HearsNext driver before d now) is h in record {
        came = (driver, bytes.items) ∷ [];
        received = e ∙ ap (λ c. before ++ c) one;
        map = or_else due' due _ _ up (λ u. inl (refl, u)) (of_driver IsUp bytes.items);
        fault = or_else failed' failed _ _ fault (λ u. inl (refl, u)) (of_driver IsFault bytes.items);
      }

  -- no frame of the driver came in
  pub passes_none : (before : List Received) → PassesOver driver before before
  passes_none before = ([], sym (append-nil before), λ s. s)

  pub passes_both : (a b c : List Received) → PassesOver driver a b → PassesOver driver b c → PassesOver driver a c
  passes_both a b c (came, e, none) (more, f, no_more) =
      (came ++ more, f ∙ ap (λ r. r ++ more) e ∙ append_assoc a came more, λ s. elim (said_in IsFrame came more s) [ inl p ↦ none p | inr q ↦ no_more q ])

  pub passes_next : (before now : List Received) (heard : Heard) → HearsNext driver before heard now
      → ((bytes : _) → heard ≡ Datagram bytes → is_word bytes.items ≡ true) → PassesOver driver before now
  passes_next before now Nothing (came, e, none) word = ([], e ∙ ap (λ c. before ++ c) none, λ s. s)
  passes_next before now Stranger (came, e, (sender, bytes, one, not)) word = ((sender, bytes) ∷ [], e ∙ ap (λ c. before ++ c) one, of_stranger IsFrame sender bytes not)
  passes_next before now (Datagram bytes) (came, e, one) word =
      ((driver, bytes.items) ∷ [], e ∙ ap (λ c. before ++ c) one, λ s. differ _ (of_driver IsFrame bytes.items s) (word bytes refl))

  -- a frame of the driver came in
  pub gives_next : (before passed now : List Received) (heard : Heard) (bytes : _) → heard ≡ Datagram bytes → PassesOver driver before passed → HearsNext driver passed heard now
      → is_word bytes.items ≡ false → Gives driver before (Some bytes.items) now
  gives_next before passed now heard bytes is over h frame =
      let (came, e, one) : HearsNext driver passed (Datagram bytes) now = subst (λ d. HearsNext driver passed d now) is h in
      (frame, (passed, over, e ∙ ap (λ c. passed ++ c) one))

-- the datagram that waited
pub waits_none : (waiting : Option Received) (before : List Received) → WaitsOrCame waiting before waiting before
waits_none None before = tt
waits_none (Some first) before = inl (refl, refl)

pub came_first : (waiting then : Option Received) (before now : List Received) → IfSome waiting (λ first. now ≡ before ++ first ∷ [])
    → WaitsOrCame waiting before then now
came_first None then before now h = tt
came_first (Some first) then before now h = inr ([], h)

pub waits_on : (waiting then : Option Received) (before now : List Received) → (IsSome waiting → then ≡ waiting) → now ≡ before
    → WaitsOrCame waiting before then now
waits_on None then before now kept same = tt
waits_on (Some first) then before now kept same = inl (kept refl, same)

pub waits_both : (first waiting then : Option Received) (a b c came : List Received) → WaitsOrCame first a waiting b → WaitsOrCame waiting b then c
    → c ≡ b ++ came → WaitsOrCame first a then c
waits_both None waiting then a b c came p q e = tt
waits_both (Some first) waiting then a b c came (inl (is, same)) q e =
    subst (λ w. WaitsOrCame w a then c) is (subst (λ l. WaitsOrCame waiting l then c) same q)
waits_both (Some first) waiting then a b c came (inr (more, f)) q e =
    inr (more ++ came, e ∙ ap (λ l. l ++ came) f ∙ append_assoc a (first ∷ more) came)
