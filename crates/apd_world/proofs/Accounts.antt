-- What two lists of steps told, one after the other.
use Rattle.std.proofs.Common.{◌≡◌, List, [], ◌∷◌, ◌++◌, length, refl, sym, ap, ◌∙◌, arith, append_assoc}
use Rattle.std.proofs.lemmas.List.{append-nil}
use Rattle.apd_world.proofs.Words.{Account, Conf, Happening, LastHeard, Recipient, State, Step, Told, account, step_happenings, heard_after, one_more, run}
use Rattle.apd_world.specs.StandsFor.{all_answers, answers_in, outs_in_step, outs_in_steps}
use Rattle.apd_world.proofs.Goings.{run-append}

pub account_append : (confs : List Conf) (xs ys : List Step) (ts us : List Told) (a : Account) → length ts ≡ length xs → account confs (xs ++ ys) (ts ++ us) a ≡ account confs ys us (account confs xs ts a)
account_append confs [] ys [] us a e = refl
account_append confs (x ∷ xs) ys (t ∷ ts) us a e = account_append confs xs ys ts us (one_more confs x t a) (omega (arith, e))
account_append confs xs ys ts us a e = absurd (omega (arith, e))

pub said_append : (r : Recipient) (xs ys : List Step) (ts us : List Told) → length ts ≡ length xs → outs_in_steps r xs ts ++ outs_in_steps r ys us ≡ outs_in_steps r (xs ++ ys) (ts ++ us)
said_append r [] ys [] us e = refl
said_append r (x ∷ xs) ys (t ∷ ts) us e = append_assoc (outs_in_step r x t) (outs_in_steps r xs ts) (outs_in_steps r ys us) ∙ ap (λ os. outs_in_step r x t ++ os) (said_append r xs ys ts us (omega (arith, e)))
said_append r xs ys ts us e = absurd (omega (arith, e))

pub answered_append : (ts us : List Told) → all_answers ts ++ all_answers us ≡ all_answers (ts ++ us)
answered_append [] us = refl
answered_append (t ∷ ts) us = append_assoc (answers_in t) (all_answers ts) (all_answers us) ∙ ap (λ zs. answers_in t ++ zs) (answered_append ts us)

-- what happened before stands first, and changes no state and no moment
abbrev pub behind : List Happening → Account → Account
behind es a = record a { happened = es ++ a.happened }

pub account_behind : (confs : List Conf) (xs : List Step) (ts : List Told) (es : List Happening) (s : State) (h : LastHeard)
    → account confs xs ts (record { happened = es; state = s; heard = h }) ≡ behind es (account confs xs ts (record { happened = []; state = s; heard = h }))
account_behind confs [] ts es s h = λ i. record { happened = sym (append-nil es) i; state = s; heard = h }
account_behind confs (x ∷ xs) [] es s h = λ i. record { happened = sym (append-nil es) i; state = s; heard = h }
account_behind confs (x ∷ xs) (t ∷ ts) es s h =
    let e = step_happenings confs h x t in
    let s' = run s confs e in
    let h' = heard_after confs s h x t in
    let more = account confs xs ts (record { happened = []; state = s'; heard = h' }) in
    account_behind confs xs ts (es ++ e) s' h' ∙ (λ i. record more { happened = append_assoc es e more.happened i }) ∙ ap (behind es) (sym (account_behind confs xs ts e s' h'))

-- the state is the one after what happened
pub account_state : (confs : List Conf) (xs : List Step) (ts : List Told) (s : State) (a : Account) → a.state ≡ run s confs a.happened → (account confs xs ts a).state ≡ run s confs (account confs xs ts a).happened
account_state confs [] ts s a e = e
account_state confs (x ∷ xs) [] s a e = e
account_state confs (x ∷ xs) (t ∷ ts) s a e =
    let es = step_happenings confs a.heard x t in
    account_state confs xs ts s (one_more confs x t a) (ap (λ (z : State). run z confs es) e ∙ sym (run-append confs a.happened es s))
