-- What running a script does, line by line.
use Rattle.std.proofs.Common.{◌≡◌, ℕ, suc, ◌+◌, ◌≤◌, ◌<◌, take, drop, length-take, take-append-drop, List, [], ◌∷◌, ◌++◌, length, Option, Some, None, inl, inr, refl, sym, ap, subst, ◌∙◌, append_assoc, arith, length-append}
use Rattle.std.proofs.lemmas.List.{append-nil, drop_all}
use Rattle.std.proofs.BufReadLemmas.{IsAtEnd-of_take_through}
use Rattle.std.specs.Io.KnownBytes.{IsAtEnd}
use Rattle.std.specs.Io.BufRead.{take_through, drop_through}
use Rattle.std.specs.Option.{option_map}
use Rattle.std.specs.Prelude.{IfSome}
use Rattle.apd_base.specs.Text.{lines}
use Rattle.apd_base.specs.declared.limits.TheConstants.{MAX_SCRIPT}
use Rattle.apd_disk.specs.Disk.{DiskModel}
use Rattle.apd_ctrl.specs.Reading.{line_of}
use Rattle.apd_radio.specs.Model.{RadioModel}
use Rattle.apd_world.specs.declared.world.World.{World}
use Rattle.apd_script.specs.Lines.{IsLineRead}
use Rattle.apd_script.specs.Faults.{IsAt, IsBadAt, IsEndedBy, IsFault, IsLineFault, IsRunTo, IsStartFault, IsUnread}
use Rattle.apd_script.specs.Script.{AreRun, Ends, IsBegun, IsScriptRun, SaysAndIsRun, Starts}
use Rattle.apd_script.specs.declared.script.fault.ScriptFault.{ScriptFault}
use Rattle.apd_script.specs.declared.script.fault.ScriptFault.TheVariants as fault
use Rattle.apd_script.specs.declared.script.runner.Runner.{Runner}
use Rattle.apd_script.proofs.Counting.{counted}
use Rattle.apd_script.proofs.ScriptLines.{line_read, whole_length}

-- ---- the lines that are read
-- what a script has beyond the most that is read
abbrev beyond : List ℕ → List ℕ
beyond script = drop (MAX_SCRIPT + 1) script

-- the lines so far, of what the reader gives where it is known, and what is left
abbrev pub AreRead : Option (List ℕ) → Option (List ℕ) → List (List ℕ) → ℕ → Type 0
AreRead None left texts n = Unit {0}
AreRead (Some script) None texts n = ⊥
AreRead (Some script) (Some rest) texts n =
    (lines script ≡ texts ++ lines (rest ++ beyond script)) × (length (take (MAX_SCRIPT + 1) script) ≡ n + length rest)

-- no line is read yet
none_read : (known left : Option (List ℕ)) → left ≡ option_map (take (MAX_SCRIPT + 1)) known → AreRead known left [] 0
none_read None left e = tt
none_read (Some script) left e = subst (λ l. AreRead (Some script) l [] 0) (sym e) (sym (ap lines (take-append-drop (MAX_SCRIPT + 1) script)), omega arith)

-- nothing is beyond, where all is read and it is not too long
none_beyond : (script rest : List ℕ) (n : ℕ) → length (take (MAX_SCRIPT + 1) script) ≡ n + length rest → n ≤ MAX_SCRIPT → rest ≡ [] → beyond script ≡ []
none_beyond script rest n long fits none = drop_all (MAX_SCRIPT + 1) script (omega (arith, long, length-take (MAX_SCRIPT + 1) script, ap length none))

-- a line more is read
read_further : (known left next : Option (List ℕ)) (texts : List (List ℕ)) (n k : ℕ) (bytes : List ℕ) → AreRead known left texts n → IsLineRead left next bytes → length bytes ≡ k → 0 < k
    → n + k ≤ MAX_SCRIPT → AreRead known next (texts ++ line_of bytes ∷ []) (n + k)
read_further None left next texts n k bytes read piece long some fits = tt
read_further (Some script) None next texts n k bytes read piece long some fits = absurd read
read_further (Some script) (Some []) next texts n k bytes read piece long some fits = absurd (let none : length bytes ≡ 0 = ap length piece.taken in omega arith)
read_further (Some script) (Some (b ∷ bs)) next texts n k bytes read piece long some fits =
    let rest = drop_through 10 (b ∷ bs) in
    let here : length bytes ≡ length (take_through 10 (b ∷ bs)) = ap length piece.taken in
    let long_split : length (take (MAX_SCRIPT + 1) script) ≡ (n + k) + length rest = omega (arith, read.1, whole_length (b ∷ bs)) in
    let split : lines ((b ∷ bs) ++ beyond script) ≡ line_of bytes ∷ lines (rest ++ beyond script) =
    line_read b bs (beyond script) (none_beyond script rest (n + k) long_split fits) ∙ ap (λ t. line_of t ∷ lines (rest ++ beyond script)) (sym piece.taken) in
    let lines_split = read.0 ∙ ap (λ ls. texts ++ ls) split ∙ sym (append_assoc texts (line_of bytes ∷ []) (lines (rest ++ beyond script))) in
    subst (λ l. AreRead (Some script) l (texts ++ line_of bytes ∷ []) (n + k)) (sym piece.dropped) (lines_split, long_split)

-- all is read, and was run
all_read : (known left : Option (List ℕ)) (texts : List (List ℕ)) (n : ℕ) → AreRead known left texts n → n ≤ MAX_SCRIPT → IsAtEnd left
    → IfSome known (λ script. (length script ≤ MAX_SCRIPT) × (lines script ≡ texts))
unfolding lines
all_read None left texts n read fits end = tt
all_read (Some script) None texts n read fits end = absurd read
all_read (Some script) (Some rest) texts n read fits end =
    let none : length rest ≡ 0 = ap length end in
    let nothing = ap (λ bs. bs ++ beyond script) end ∙ none_beyond script rest n read.1 fits end in
    (omega (arith, read.1, length-take (MAX_SCRIPT + 1) script), read.0 ∙ ap (λ bs. texts ++ lines bs) nothing ∙ append-nil texts)

-- some lines are read
rest_unread : (known left : Option (List ℕ)) (texts : List (List ℕ)) (n : ℕ) → AreRead known left texts n → (behind : List (List ℕ)) × IfSome known (λ script. lines script ≡ texts ++ behind)
rest_unread None left texts n read = ([], tt)
rest_unread (Some script) None texts n read = absurd read
rest_unread (Some script) (Some rest) texts n read = (lines (rest ++ beyond script), read.0)

-- a line is read that is bad
bad_read : (known left next : Option (List ℕ)) (texts : List (List ℕ)) (n k : ℕ) (bytes : List ℕ) → AreRead known left texts n → IsLineRead left next bytes → length bytes ≡ k → 0 < k
    → n + k ≤ MAX_SCRIPT → (behind : List (List ℕ)) × IfSome known (λ script. lines script ≡ texts ++ line_of bytes ∷ behind)
bad_read known left next texts n k bytes read piece long some fits =
    let (behind, text) = rest_unread known next (texts ++ line_of bytes ∷ []) (n + k) (read_further known left next texts n k bytes read piece long some fits) in
    (behind, subst (λ ls. IfSome known (λ script. lines script ≡ ls)) (append_assoc texts (line_of bytes ∷ []) behind) text)

-- ---- and run
one_further : (n k : ℕ) → n + suc k ≡ (n + 1) + k
one_further n k = omega arith

no_further : (n : ℕ) → n + 0 ≡ n
no_further n = omega arith

module _ {D R : Type 0} (disk : DiskModel D) (radio : RadioModel R) where
  -- one line more is run
  runs_further : (n : ℕ) (texts : List (List ℕ)) (text : List ℕ) (a b c : Runner D R) → AreRun disk radio n texts a b
      → SaysAndIsRun disk radio (n + length texts) text b c → AreRun disk radio n (texts ++ text ∷ []) a c
  runs_further n [] text a b c same one =
      let here : SaysAndIsRun disk radio n text a c =
      subst (λ k. SaysAndIsRun disk radio k text a c) (no_further n) (subst (λ w. SaysAndIsRun disk radio (n + 0) text w c) same one) in
      (c, here, refl)
  runs_further n (first ∷ texts) text a b c (mid, one, past) last =
      let last_one : SaysAndIsRun disk radio ((n + 1) + length texts) text b c = subst (λ k. SaysAndIsRun disk radio k text b c) (one_further n (length texts)) last in
      (mid, one, runs_further (n + 1) texts text mid b c past last_one)

  -- so many lines of so many bytes were run, and the next has this number
  pub record IsSoFar (known left : Option (List ℕ)) (number n : ℕ) (radios : List R) (old : World D R) (new : Runner D R) : Type 0 where
    pub texts : List (List ℕ)
    pub read : AreRead known left texts n
    pub counted : number ≡ length texts + 1
    pub short : length texts ≤ n
    pub fits : n ≤ MAX_SCRIPT
    pub run : IsScriptRun disk radio texts old radios new

  pub begins_so_far : (known left : Option (List ℕ)) (radios : List R) (old : World D R) (first new : Runner D R) → left ≡ option_map (take (MAX_SCRIPT + 1)) known
      → IsBegun old radios first → Starts disk radio first new → IsSoFar known left 1 0 radios old new
  begins_so_far known left radios old first new e begun starts = record {
    texts = [];
    read = none_read known left e;
    counted = refl;
    short = omega arith;
    fits = omega arith;
    run = record { first = first; begun = begun; started = new; starts = starts; run = refl };
  }

  pub further_so_far : (known left next : Option (List ℕ)) (number n k sum : ℕ) (radios : List R) (old : World D R) (new newer : Runner D R) (bytes : List ℕ)
      → IsSoFar known left number n radios old new → IsLineRead left next bytes → length bytes ≡ k → 0 < k → (sum ≡ n + k) × (sum ≤ MAX_SCRIPT)
      → SaysAndIsRun disk radio number (line_of bytes) new newer → IsSoFar known next (number + 1) sum radios old newer
  further_so_far known left next number n k sum radios old new newer bytes past piece long some within one =
      let run = past.run in
      let fits : n + k ≤ MAX_SCRIPT = omega (arith, within.0, within.1) in
      let counted : number ≡ 1 + length past.texts = omega (arith, past.counted) in
      let one_run : SaysAndIsRun disk radio (1 + length past.texts) (line_of bytes) new newer = subst (λ k. SaysAndIsRun disk radio k (line_of bytes) new newer) counted one in
      record {
        texts = past.texts ++ line_of bytes ∷ [];
        read = subst (AreRead known next (past.texts ++ line_of bytes ∷ [])) (sym within.0) (read_further known left next past.texts n k bytes past.read piece long some fits);
        counted = omega (arith, past.counted, length-append past.texts (line_of bytes ∷ []));
        short = omega (arith, past.short, within.0, length-append past.texts (line_of bytes ∷ []));
        fits = within.1;
        run = record {
          first = run.first;
          begun = run.begun;
          started = run.started;
          starts = run.starts;
          run = runs_further 1 past.texts (line_of bytes) run.started new newer run.run one_run;
        };
      }

  pub ends_so_far : (known left next : Option (List ℕ)) (number n : ℕ) (radios : List R) (old : World D R) (new : Runner D R) (bytes : List ℕ)
      → IsSoFar known left number n radios old new → IsLineRead left next bytes → length bytes ≡ 0 → Ends disk radio known radios old new.world
  ends_so_far known left next number n radios old new bytes past piece none = record {
    texts = past.texts;
    whole = all_read known left past.texts n past.read past.fits (IsAtEnd-of_take_through 10 left [] bytes piece.taken none);
    last = new;
    run = past.run;
    world = refl;
  }

  -- some lines are run
  pub run_so_far : (known left : Option (List ℕ)) (number n : ℕ) (radios : List R) (old : World D R) (new : Runner D R) → IsSoFar known left number n radios old new
      → (front : List (List ℕ)) × IsRunTo disk radio known radios old front
  run_so_far known left number n radios old new past =
      let (behind, whole) = rest_unread known left past.texts n past.read in
      (past.texts, record { behind = behind; whole = whole; last = new; run = past.run })

  pub unread_so_far : (why : ScriptFault) (known left : Option (List ℕ)) (number n : ℕ) (radios : List R) (old : World D R) (new : Runner D R) → IsSoFar known left number n radios old new
      → IsUnread why → IsFault disk radio known radios old why
  unread_so_far fault.Reader known left number n radios old new past h = run_so_far known left number n radios old new past
  unread_so_far fault.NoMemory known left number n radios old new past h = tt
  unread_so_far why known left number n radios old new past h = absurd h

  -- a line is not
  fails_at : (why : ScriptFault) (known : Option (List ℕ)) (number : ℕ) (radios : List R) (old : World D R) (at : IsAt disk radio number known radios old)
      → IsLineFault disk radio number at.text at.last why → IsFault disk radio known radios old why
  fails_at (fault.BadLine j) known number radios old at (same, bad) =
      subst (λ (k : ℕ). IsBadAt disk radio k known radios old) (sym same) (record { line = at; is_bad = bad })
  fails_at fault.Reader known number radios old at (what, says, none) = absurd none
  fails_at fault.Writer known number radios old at (what, says, done) = inr (number, record { line = at; what = what; says = says; done = done })
  fails_at (fault.World why) known number radios old at (what, says, refused) =
      inr (number, record { line = at; what = what; says = says; refused = refused; risen = (counted disk radio at.front old radios at.last at.run).risen })
  fails_at fault.NoMemory known number radios old at h = tt

  pub fails_so_far : (why : ScriptFault) (known left next : Option (List ℕ)) (number n k sum : ℕ) (radios : List R) (old : World D R) (new : Runner D R) (bytes : List ℕ)
      → IsSoFar known left number n radios old new → IsLineRead left next bytes → length bytes ≡ k → 0 < k → (sum ≡ n + k) × (sum ≤ MAX_SCRIPT)
      → IsLineFault disk radio number (line_of bytes) new why → IsFault disk radio known radios old why
  fails_so_far why known left next number n k sum radios old new bytes past piece long some within h =
      let fits : n + k ≤ MAX_SCRIPT = omega (arith, within.0, within.1) in
      let (behind, text) = bad_read known left next past.texts n k bytes past.read piece long some fits in
      fails_at why known number radios old (record { front = past.texts; text = line_of bytes; behind = behind; whole = text; number = past.counted; last = new; run = past.run }) h

  -- the interfaces are not started
  pub unstarted : (why : ScriptFault) (known : Option (List ℕ)) (radios : List R) (old : World D R) (first : Runner D R) → IsBegun old radios first
      → IsStartFault disk radio first why → IsFault disk radio known radios old why
  unstarted fault.Writer known radios old first begun (started, starts) = inl (record { first = first; begun = begun; started = started; starts = starts })
  unstarted (fault.World why) known radios old first begun (new, ended) = inl (new, subst (λ (w : World D R). IsEndedBy disk radio why w new) begun.world ended)
  unstarted fault.NoMemory known radios old first begun h = tt
  unstarted fault.Reader known radios old first begun h = absurd h
  unstarted (fault.BadLine n) known radios old first begun h = absurd h
