-- What is read behind a command's first word is what the grammar says.
use Rattle.std.proofs.Common.{◌≡◌, ℕ, ◌+◌, true, false, cond, ◌++◌, List, [], ◌∷◌, length, Option, Some, None, inl, inr, refl, sym, ap, subst, ◌∙◌, take, drop, length-append, arith}
use Rattle.std.specs.Prelude.{◌==◌, ◌⊎◌, nat_lt, nat_eq, codes}
use Rattle.std.specs.List.{starts_with}
use Rattle.std.specs.Option.{option_map}
use Rattle.std.specs.Str.{bytes_eq}
use Rattle.std.proofs.lemmas.Bool.{le-ltb, ne_eqb, eqb-true}
use Rattle.std.proofs.lemmas.List.{take-append-drop}
use Rattle.std.proofs.lemmas.Option.{same_Some}
use Rattle.std.proofs.lemmas.Slice.Eq.{bytes_eq-Decides}
use Rattle.std.proofs.Math.Seq.{take-append_seam, drop-append_seam}
use Rattle.apd_base.specs.declared.address.Addr.{Addr}
use Rattle.apd_base.specs.declared.station.Which.{Which}
use Rattle.apd_base.specs.Addr.{address_of}
use Rattle.apd_base.proofs.AddrText.{address_length}
use Rattle.apd_frame.specs.declared.codes.Reason.{Reason}
use Rattle.apd_event.specs.declared.event.Edit.{Edit}
use Rattle.apd_event.specs.declared.event.Edit.TheVariants.{Add, Remove, Clear}
use Rattle.apd_ctrl.specs.declared.command.Command.{Command}
use Rattle.apd_ctrl.specs.declared.command.Command.TheVariants as c
use Rattle.apd_ctrl.specs.Grammar.{after_blank, list_word, IsReasonNumber, IsReason, IsDismissal, IsEdit, Says}
use Rattle.apd_ctrl.specs.Reading.{word, behind, as_reason, reason_number, reason_given, reason_of, pair_of, dismissal_of, list_with, list_command}
use Rattle.apd_ctrl.proofs.WordLemmas.{text_is}

-- what is mapped was there
pub mapped : {A B : Type 0} (f : A → B) (o : Option A) (y : B) → option_map f o ≡ Some y → (x : A) × (o ≡ Some x) × (f x ≡ y)
mapped f None y e = cc
mapped f (Some x) y e = (x, refl, same_Some (f x) y e)

-- words at the front of a text
pub split_front : (front text : List ℕ) → starts_with nat_eq text front ≡ true → text ≡ front ++ drop (length front) text
split_front front text h = sym (ap (λ xs. xs ++ drop (length front) text) ((bytes_eq-Decides front (take (length front) text)).0 h) ∙ take-append-drop (length front) text)

-- no byte, by the length
no_bytes : (text : List ℕ) → length text ≡ 0 → text ≡ []
no_bytes [] e = refl
no_bytes (b ∷ bs) e = absurd (omega arith)

-- the reason behind an address
pub reason-reads : (reason : Reason) (text : List ℕ) → IsReason reason text → reason_of text ≡ Some reason
reason-reads reason text (inl h) = ap reason_of h.0 ∙ ap (λ n. Some (as_reason n)) (sym h.1)
reason-reads reason text (inr h) =
    ap reason_of h.1
    ∙ ap (λ b. cond b (Some (as_reason 2)) (option_map as_reason (reason_number h.0))) (ne_eqb (length (codes " reason=" ++ h.0)) 0 (λ e. omega arith))
    ∙ ap (option_map as_reason) h.2

pub reason-says : (reason : Reason) (text : List ℕ) → reason_of text ≡ Some reason → IsReason reason text
reason-says reason text e =
    elim (length text == 0) as (λ b. (length text == 0) ≡ b
    → cond b (Some (as_reason 2)) (reason_given text) ≡ Some reason → IsReason reason text) [
      | true ↦ λ t e. inl (no_bytes text (eqb-true (length text) 0 t), (let two : as_reason 2 ≡ reason = same_Some (as_reason 2) reason e in sym (ap (λ (r : Reason). r.0) two)))
      | false ↦ λ t e. elim (starts_with nat_eq text (codes " reason=")) as (λ b. starts_with nat_eq text (codes " reason=") ≡ b
          → cond b (option_map as_reason (reason_number (drop 8 text))) None ≡ Some reason → IsReason reason text) [
            | true ↦ λ front e.
                let read = mapped as_reason (reason_number (drop 8 text)) reason e in
                let value : read.0 ≡ reason.0 = ap (λ (r : Reason). r.0) read.2 in
                inr (drop 8 text, split_front (codes " reason=") text front, subst (λ n. IsReasonNumber n (drop 8 text)) value read.1)
            | false ↦ λ front e. cc
          ] refl e
    ] refl e

-- an address and a reason
pub dismissal-reads : (to : Addr) (reason : Reason) (text : List ℕ) → IsDismissal to reason text → dismissal_of text ≡ Some (to, reason)
dismissal-reads to reason text h =
    let address = h.0 in
    let long : length address ≡ 17 = address_length address to h.1 in
    let rest = h.2.0 in
    let is : text ≡ address ++ rest = h.2.1 in
    let whole : length text ≡ length address + length rest = ap length is ∙ length-append address rest in
    let front : take 17 text ≡ address = ap (λ n. take n text) (sym long) ∙ ap (take (length address)) is ∙ take-append_seam address rest in
    let end : drop 17 text ≡ rest = ap (λ n. drop n text) (sym long) ∙ ap (drop (length address)) is ∙ drop-append_seam address rest in
    ap (λ b. cond b None (pair_of (address_of (take 17 text)) (reason_of (drop 17 text)))) (le-ltb (length text) 17 (omega arith))
    ∙ (λ i. pair_of ((ap address_of front ∙ h.1) i) ((ap reason_of end ∙ reason-reads reason rest h.2.2) i))

-- both were there
parts_of : {A B : Type 0} (a : Option A) (b : Option B) (x : A) (y : B) → pair_of a b ≡ Some (x, y) → (a ≡ Some x) × (b ≡ Some y)
parts_of None b x y e = cc
parts_of (Some a) None x y e = cc
parts_of (Some a) (Some b) x y e = (let pair = same_Some (a, b) (x, y) e in (ap (λ p. Some p.0) pair, ap (λ p. Some p.1) pair))

pub dismissal-says : (to : Addr) (reason : Reason) (text : List ℕ) → dismissal_of text ≡ Some (to, reason) → IsDismissal to reason text
dismissal-says to reason text e =
    elim (nat_lt (length text) 17) as (λ b. nat_lt (length text) 17 ≡ b → cond b None (pair_of (address_of (take 17 text)) (reason_of (drop 17 text))) ≡ Some (to, reason) → IsDismissal to reason text) [
      | true ↦ λ t e. cc
      | false ↦ λ t e.
          let parts = parts_of (address_of (take 17 text)) (reason_of (drop 17 text)) to reason e in
          (take 17 text, parts.0, (drop 17 text, sym (take-append-drop 17 text), reason-says reason (drop 17 text) parts.1))
    ] refl e

-- behind the name of a list
module _ (which : Which) where
  pub edit-reads : (edit : Edit) (text : List ℕ) → IsEdit edit text → list_command which text ≡ Some (c.ListEdit which edit)
  unfolding word behind
  edit-reads (Add a) text h = ap (list_command which) h.1 ∙ ap (option_map (λ a. c.ListEdit which (Add a))) h.2
  edit-reads (Remove a) text h = ap (list_command which) h.1 ∙ ap (option_map (λ a. c.ListEdit which (Remove a))) h.2
  edit-reads Clear text h = ap (list_command which) h

  pub show-reads : (text : List ℕ) → text ≡ codes "SHOW" → list_command which text ≡ Some (c.Show which)
  unfolding word behind
  show-reads text h = ap (list_command which) h

  -- what a list command says
  abbrev ListSays : List ℕ → Command → Type 0
  ListSays text command = ((edit : Edit) × (command ≡ c.ListEdit which edit) × IsEdit edit text) ⊎ ((command ≡ c.Show which) × (text ≡ codes "SHOW"))

  spelled : (verb word : List ℕ) → bytes_eq verb word ≡ true → verb ≡ word
  spelled verb word h = (bytes_eq-Decides verb word).0 h

  with-says : (verb : List ℕ) (rest : Option (List ℕ)) (command : Command) → list_with which verb rest ≡ Some command → ListSays (verb ++ after_blank rest) command
  with-says verb None command e =
      elim (bytes_eq verb (codes "SHOW")) as (λ b. bytes_eq verb (codes "SHOW") ≡ b
      → cond b (Some (c.Show which)) (cond (bytes_eq verb (codes "CLEAR")) (Some (c.ListEdit which Clear)) None) ≡ Some command → ListSays (verb ++ []) command) [
        | true ↦ λ t e. inr (sym (same_Some (c.Show which) command e), ap (λ v. v ++ []) (spelled verb (codes "SHOW") t))
        | false ↦ λ t e. elim (bytes_eq verb (codes "CLEAR")) as (λ b. bytes_eq verb (codes "CLEAR") ≡ b → cond b (Some (c.ListEdit which Clear)) None ≡ Some command → ListSays (verb ++ []) command) [
          | true ↦ λ t e. inl (Clear, sym (same_Some (c.ListEdit which Clear) command e), ap (λ v. v ++ []) (spelled verb (codes "CLEAR") t))
          | false ↦ λ t e. cc
        ] refl e
      ] refl e
  with-says verb (Some text) command e =
      elim (bytes_eq verb (codes "ADD_MAC")) as (λ b. bytes_eq verb (codes "ADD_MAC") ≡ b
      → cond b (option_map (λ a. c.ListEdit which (Add a)) (address_of text)) (cond (bytes_eq verb (codes "DEL_MAC")) (option_map (λ a. c.ListEdit which (Remove a)) (address_of text)) None) ≡ Some command
      → ListSays (verb ++ 32 ∷ text) command) [
        | true ↦ λ t e.
            let read = mapped (λ a. c.ListEdit which (Add a)) (address_of text) command e in
            inl (Add read.0, sym read.2, (text, ap (λ v. v ++ 32 ∷ text) (spelled verb (codes "ADD_MAC") t), read.1))
        | false ↦ λ t e. elim (bytes_eq verb (codes "DEL_MAC")) as (λ b. bytes_eq verb (codes "DEL_MAC") ≡ b → cond b (option_map (λ a. c.ListEdit which (Remove a)) (address_of text)) None ≡ Some command → ListSays (verb ++ 32 ∷ text) command) [
          | true ↦ λ t e.
              let read = mapped (λ a. c.ListEdit which (Remove a)) (address_of text) command e in
              inl (Remove read.0, sym read.2, (text, ap (λ v. v ++ 32 ∷ text) (spelled verb (codes "DEL_MAC") t), read.1))
          | false ↦ λ t e. cc
        ] refl e
      ] refl e

  pub list-says : (text : List ℕ) (command : Command) → list_command which text ≡ Some command → Says (list_word which ++ text) command
  list-says text command e =
      elim (subst (λ t. ListSays t command) (sym (text_is text)) (with-says (word text) (behind text) command e)) [
        | inl edit ↦ subst (Says (list_word which ++ text)) (sym edit.1) (text, refl, edit.2)
        | inr show ↦ subst (Says (list_word which ++ text)) (sym show.0) (text, refl, show.1)
      ]
