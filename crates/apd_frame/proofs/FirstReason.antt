-- The first element of a list that passes a test, by its place; and the first of the reasons, by its rank.
use Rattle.std.proofs.Common.{◌≡◌, ℕ, zero, suc, ◌<◌, Bool, true, false, cond, List, [], ◌∷◌, Some, None, refl, sym, ◌∙◌, ap, arith}
use Rattle.std.specs.List.{find, slice_get}
use Rattle.std.specs.Prelude.{IsTrue}
use Rattle.apd_frame.specs.declared.ignored.Ignored.{Ignored}
use Rattle.apd_frame.specs.declared.ignored.Ignored.TheVariants.{TooLong, Short, Version, Class, Fragment, Flags, Direction, Sender, Receiver, OtherBss, Subtype, Body}
use Rattle.apd_frame.specs.Outcome.{reasons, rank}

-- none of the first i passes
abbrev pub NoneBefore : {X : Type 0} → (X → Bool) → List X → ℕ → Type 0
NoneBefore {X} p xs i = (j : ℕ) (y : X) → j < i → slice_get xs j ≡ Some y → p y ≡ false

-- the element at i is the first that passes
pub record IsFirstAt {X : Type 0} (p : X → Bool) (xs : List X) (x : X) (i : ℕ) : Type 0 where
  pub here : slice_get xs i ≡ Some x
  pub passes : p x ≡ true
  pub before : NoneBefore p xs i

skipped : {X : Type 0} (p : X → Bool) (z : X) (zs : List X) (i : ℕ) → NoneBefore p (z ∷ zs) (suc i) → NoneBefore p zs i
skipped p z zs i h j y lt g = let lt' : suc j < suc i = omega arith in h (suc j) y lt' g

first_at : {X : Type 0} (p : X → Bool) (xs : List X) (x : X) (i : ℕ) → slice_get xs i ≡ Some x → p x ≡ true → NoneBefore p xs i → find p xs ≡ Some x
first_at p [] x i here passes before = cc
first_at p (z ∷ zs) x zero here passes before =
    let same : z ≡ x = cc in
    let pz : p z ≡ true = ap p same ∙ passes in
    rw pz here
first_at p (z ∷ zs) x (suc i) here passes before =
    let lt : 0 < suc i = omega arith in
    let pz : p z ≡ false = before 0 z lt refl in
    rw pz (first_at p zs x i here passes (skipped p z zs i before))

abbrev NoneAt : {X : Type 0} → (X → Bool) → List X → Type 0
NoneAt {X} p xs = (j : ℕ) (y : X) → slice_get xs j ≡ Some y → p y ≡ false

none_more : {X : Type 0} (p : X → Bool) (z : X) (zs : List X) → (find p zs ≡ None → NoneAt p zs) → (b : Bool) → p z ≡ b → cond b (Some z) (find p zs) ≡ None → NoneAt p (z ∷ zs)
none_more p z zs more true pz e j y g = cc
none_more p z zs more false pz e zero y g = let same : z ≡ y = cc in sym (ap p same) ∙ pz
none_more p z zs more false pz e (suc j) y g = more e j y g

none_at : {X : Type 0} (p : X → Bool) (xs : List X) → find p xs ≡ None → NoneAt p xs
none_at p [] e = λ j y g. cc
none_at p (z ∷ zs) e = none_more p z zs (none_at p zs) (p z) refl e

all_none : {X : Type 0} (p : X → Bool) (xs : List X) → NoneAt p xs → find p xs ≡ None
all_none p [] h = refl
all_none p (z ∷ zs) h = let pz : p z ≡ false = h 0 z refl in rw pz (all_none p zs (λ j y g. h (suc j) y g))

earlier : {X : Type 0} (p : X → Bool) (z : X) (zs : List X) (i : ℕ) → p z ≡ false → NoneBefore p zs i → NoneBefore p (z ∷ zs) (suc i)
earlier p z zs i pz before zero y lt g = let same : z ≡ y = cc in sym (ap p same) ∙ pz
earlier p z zs i pz before (suc j) y lt g = let lt' : j < i = omega arith in before j y lt' g

abbrev FirstAt : {X : Type 0} → (X → Bool) → List X → X → Type 0
FirstAt p xs x = (i : ℕ) × IsFirstAt p xs x i

found_later : {X : Type 0} (p : X → Bool) (z : X) (zs : List X) (x : X) → p z ≡ false → FirstAt p zs x → FirstAt p (z ∷ zs) x
found_later p z zs x pz first =
    (suc first.0, record { here = first.1.here; passes = first.1.passes; before = earlier p z zs first.0 pz first.1.before })

found_more : {X : Type 0} (p : X → Bool) (z : X) (zs : List X) (x : X) → (find p zs ≡ Some x → FirstAt p zs x) → (b : Bool) → p z ≡ b → cond b (Some z) (find p zs) ≡ Some x → FirstAt p (z ∷ zs) x
found_more p z zs x more true pz e =
    let same : z ≡ x = cc in
    (0, record { here = e; passes = sym (ap p same) ∙ pz; before = λ j y lt g. absurd (omega arith) })
found_more p z zs x more false pz e = found_later p z zs x pz (more e)

found_at : {X : Type 0} (p : X → Bool) (xs : List X) (x : X) → find p xs ≡ Some x → FirstAt p xs x
found_at p [] x e = cc
found_at p (z ∷ zs) x e = found_more p z zs x (found_at p zs x) (p z) refl e

-- what is found passes
pub found_passes : {X : Type 0} (p : X → Bool) (xs : List X) (x : X) → find p xs ≡ Some x → IsTrue (p x)
found_passes p xs x e = (found_at p xs x e).1.passes

-- a reason's rank is its place in order
at_rank : (r : Ignored) → slice_get reasons (rank r) ≡ Some r
at_rank TooLong = refl
at_rank Short = refl
at_rank Version = refl
at_rank Class = refl
at_rank Fragment = refl
at_rank Flags = refl
at_rank Direction = refl
at_rank Sender = refl
at_rank Receiver = refl
at_rank OtherBss = refl
at_rank Subtype = refl
at_rank Body = refl

some_same : (r q : Ignored) → Some r ≡ Some q → rank q ≡ rank r
some_same r q e = let same : q ≡ r = cc in ap rank same

rank_at : (i : ℕ) (q : Ignored) → slice_get reasons i ≡ Some q → rank q ≡ i
rank_at zero q e = some_same TooLong q e
rank_at (suc zero) q e = some_same Short q e
rank_at (suc (suc zero)) q e = some_same Version q e
rank_at (suc (suc (suc zero))) q e = some_same Class q e
rank_at (suc (suc (suc (suc zero)))) q e = some_same Fragment q e
rank_at (suc (suc (suc (suc (suc zero))))) q e = some_same Flags q e
rank_at (suc (suc (suc (suc (suc (suc zero)))))) q e = some_same Direction q e
rank_at (suc (suc (suc (suc (suc (suc (suc zero))))))) q e = some_same Sender q e
rank_at (suc (suc (suc (suc (suc (suc (suc (suc zero)))))))) q e = some_same Receiver q e
rank_at (suc (suc (suc (suc (suc (suc (suc (suc (suc zero))))))))) q e = some_same OtherBss q e
rank_at (suc (suc (suc (suc (suc (suc (suc (suc (suc (suc zero)))))))))) q e = some_same Subtype q e
rank_at (suc (suc (suc (suc (suc (suc (suc (suc (suc (suc (suc zero))))))))))) q e = some_same Body q e
rank_at (suc (suc (suc (suc (suc (suc (suc (suc (suc (suc (suc (suc n)))))))))))) q e = cc

false_from : (b : Bool) → ¬ (IsTrue b) → b ≡ false
false_from true h = absurd (h refl)
false_from false h = refl

not_both : (b : Bool) → b ≡ false → ¬ (IsTrue b)
not_both b e h = cc

-- the reason that is found is the first by rank that holds
pub told_first : (p : Ignored → Bool) (r : Ignored) → IsTrue (p r) → ((q : Ignored) → rank q < rank r → ¬ (IsTrue (p q))) → find p reasons ≡ Some r
told_first p r here before =
    first_at p reasons r (rank r) (at_rank r) here
    (λ j y lt g. let e : rank y ≡ j = rank_at j y g in let lt' : rank y < rank r = omega arith in false_from (p y) (before y lt'))

pub told_none : (p : Ignored → Bool) → ((q : Ignored) → ¬ (IsTrue (p q))) → find p reasons ≡ None
told_none p h = all_none p reasons (λ j y g. false_from (p y) (h y))

pub first_holds : (p : Ignored → Bool) (r : Ignored) → find p reasons ≡ Some r → IsTrue (p r)
first_holds p r e = found_passes p reasons r e

pub none_earlier : (p : Ignored → Bool) (r : Ignored) → find p reasons ≡ Some r → (q : Ignored) → rank q < rank r → ¬ (IsTrue (p q))
none_earlier p r e q lt =
    let found = found_at p reasons r e in
    let i : rank r ≡ found.0 = rank_at found.0 r found.1.here in
    let lt' : rank q < found.0 = omega arith in
    not_both (p q) (found.1.before (rank q) q lt' (at_rank q))

pub none_holds : (p : Ignored → Bool) → find p reasons ≡ None → (q : Ignored) → ¬ (IsTrue (p q))
none_holds p e q = not_both (p q) (none_at p reasons e (rank q) q (at_rank q))
