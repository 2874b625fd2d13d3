-- The longest front of the entries whose records fit one group, and what its changes leave.
use Rattle.std.proofs.Common.{◌≡◌, ℕ, zero, suc, ◌+◌, ◌<◌, ◌≤◌, List, [], ◌∷◌, ◌++◌, length, take, drop, inl, inr, refl, sym, ap, subst, ◌∙◌, arith, append_assoc}
use Rattle.apd_core.proofs.Words.{AllByRecursion, AreDecided, Change, Conf, CoreState, Entry, Happening, IsCore, IsLongestFront, IsMeasured, MAX_GROUP, Sound, State, StaySound, append-nil, cases_lt, changes_of, entries_of, meaning, meaning_in, meaning_of, records_length-append, records_of, sound_in, stay_end, verdict}
use Rattle.apd_core.proofs.Settling.{decided_split}

-- the entry behind so many
pub record IsNext (es : List Entry) (n more : ℕ) (e : Entry) (rest : List Entry) : Type 0 where
  pub there : n < length es
  pub changes : changes_of (take more (entries_of es)) ≡ changes_of (take n (entries_of es)) ++ e.changes
  pub left : rest ≡ drop more es
  pub measured : AllByRecursion IsMeasured es → IsMeasured e

next_from : (es : List Entry) (n : ℕ) (e : Entry) (rest : List Entry) → e ∷ rest ≡ drop n es → IsNext es n (suc n) e rest
next_from [] zero e rest is = absurd (let l : suc (length rest) ≡ 0 = ap length is in omega arith)
next_from [] (suc n) e rest is = absurd (let l : suc (length rest) ≡ 0 = ap length is in omega arith)
next_from (x ∷ es) zero e rest is =
    let first : e ≡ x = cc in
    let behind : rest ≡ es = cc in
    record { there = omega arith; changes = append-nil x.changes ∙ ap (λ (y : Entry). y.changes) (sym first); left = behind; measured = λ all. subst IsMeasured (sym first) all.0 }
next_from (x ∷ es) (suc n) e rest is =
    let next = next_from es n e rest is in
    record {
      there = (let l = next.there in omega arith);
      changes = ap (λ cs. x.changes ++ cs) next.changes ∙ sym (append_assoc x.changes (changes_of (take n (entries_of es))) e.changes);
      left = next.left;
      measured = λ all. next.measured all.1;
    }

pub next_entry : (es : List Entry) (n : ℕ) (e : Entry) (rest : List Entry) → e ∷ rest ≡ drop n es → IsNext es n (n + 1) e rest
next_entry es n e rest is = let one : suc n ≡ n + 1 = omega arith in subst (λ more. IsNext es n more e rest) one (next_from es n e rest is)

pub all_taken : (es : List Entry) (n : ℕ) → [] ≡ drop n es → length es ≤ n
all_taken [] n is = omega arith
all_taken (x ∷ es) zero is = absurd (let l : 0 ≡ suc (length es) = ap length is in omega arith)
all_taken (x ∷ es) (suc n) is = let l = all_taken es n is in omega arith

pub none_left : {A : Type 0} (xs : List A) → length xs ≡ 0 → xs ≡ []
none_left [] l = refl
none_left (x ∷ xs) l = absurd (omega arith)

entries_length : (es : List Entry) → length (entries_of es) ≡ length es
entries_length [] = refl
entries_length (x ∷ es) = ap suc (entries_length es)

-- a longer front has no fewer records
pub more_records : (m n : ℕ) (xs : List (List Change)) → m ≤ n → length (records_of (changes_of (take m xs))) ≤ length (records_of (changes_of (take n xs)))
more_records zero n xs l = omega arith
more_records (suc m) zero xs l = absurd (omega arith)
more_records (suc m) (suc n) [] l = omega arith
more_records (suc m) (suc n) (x ∷ xs) l =
    let one = records_length-append x (changes_of (take m xs)) in
    let other = records_length-append x (changes_of (take n xs)) in
    let less = more_records m n xs (omega arith) in
    omega (arith, one, other, less)

-- the one that has no room is the first that is not taken
pub longest_stop : (es : List Entry) (n room : ℕ) (e : Entry) (rest : List Entry) (changes : List Change) → AllByRecursion IsMeasured es → e ∷ rest ≡ drop n es
    → changes ≡ changes_of (take n (entries_of es)) → room + length (records_of changes) ≡ MAX_GROUP → room < e.length → IsLongestFront (entries_of es) n
longest_stop es n room e rest changes all is same fits full =
    let next = next_entry es n e rest is in
    let measured = next.measured all in
    let count = entries_length es in
    let there = next.there in
    let own : length (records_of changes) ≡ length (records_of (changes_of (take n (entries_of es)))) = ap (λ cs. length (records_of cs)) same in
    let longer : length (records_of (changes_of (take (n + 1) (entries_of es)))) ≡ length (records_of (changes_of (take n (entries_of es)))) + length (records_of e.changes) =
    ap (λ cs. length (records_of cs)) next.changes ∙ records_length-append (changes_of (take n (entries_of es))) e.changes in
    let length_is = measured.length_is in
    record {
      there = omega (arith, count, there);
      fits = omega (arith, own, fits);
      longest = λ more l fit. elim (cases_lt n more) [
        | inl above ↦ (let least = more_records (n + 1) more (entries_of es) (omega arith) in absurd (omega (arith, least, longer, own, fits, full, length_is, fit)))
        | inr below ↦ below
      ];
    }

pub longest_end : (es : List Entry) (n room : ℕ) (changes : List Change) → [] ≡ drop n es → n ≤ length es
    → changes ≡ changes_of (take n (entries_of es)) → room + length (records_of changes) ≡ MAX_GROUP → IsLongestFront (entries_of es) n
longest_end es n room changes is there same fits =
    let count = entries_length es in
    let all = all_taken es n is in
    let own : length (records_of changes) ≡ length (records_of (changes_of (take n (entries_of es)))) = ap (λ cs. length (records_of cs)) same in
    record { there = omega (arith, count, there); fits = omega (arith, own, fits); longest = λ more l fit. omega (arith, count, all, l) }

-- ---- what the changes of a front leave
pub stay_both : (xs ys : List Change) (s : State) → StaySound xs s → StaySound ys (meaning_of xs s) → StaySound (xs ++ ys) s
stay_both [] ys s first behind = behind
stay_both (x ∷ xs) ys s first behind = (first.0, stay_both xs ys (meaning x s) first.1 behind)

pub decided_stay : (confs : List Conf) (hs : List Happening) (entries : List (List Change)) (s : State) → AreDecided confs s hs entries → Sound s → StaySound (changes_of entries) s
decided_stay confs [] [] s d sound = sound
decided_stay confs [] (x ∷ entries) s d sound = absurd d
decided_stay confs (h ∷ hs) [] s d sound = absurd d
decided_stay confs (h ∷ hs) (x ∷ entries) s d sound =
    let stay = subst (λ (cs : List Change). StaySound cs s) (sym d.1) (sound_in s confs h d.0 sound) in
    let end : meaning_of x s ≡ (verdict s confs h).state = ap (λ cs. meaning_of cs s) d.1 ∙ meaning_in s confs h in
    let behind = decided_stay confs hs entries (verdict s confs h).state d.2 (subst Sound end (stay_end x s stay)) in
    stay_both x (changes_of entries) s stay (subst (StaySound (changes_of entries)) (sym end) behind)

pub front_stays : (s : CoreState) → IsCore s → (n : ℕ) → StaySound (changes_of (take n s.unsettled)) s.settled
front_stays s core n =
    let u = core.unsettled in
    decided_stay s.confs (take n u.happened) (take n s.unsettled) s.settled (decided_split s.confs n u.happened s.unsettled s.settled u.decided).0 core.sound
