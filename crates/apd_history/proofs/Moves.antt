-- Each step keeps what the passes know.
use Rattle.std.proofs.Common.{◌≡◌, ◌≢◌, ℕ, List, [], ◌∷◌, ◌++◌, set, true, false, true≢false, refl, sym, ap, ◌∙◌, subst, ⊎_elim, zero, suc}
use mathlib.Core.Option.{Option, some, none, some-ne-none, some-injective}
use mathlib.Core.List.{IsPrefix}
use Rattle.std.proofs.lemmas.List.{append-nil}
use lib.ListN.{get_elem?}
use Rattle.atomic_table.specs.Table.{Allows, Splits, Joins, keeps, step}
use Rattle.atomic_table.proofs.Lists.{at_set, at_snoc, set_again}
use Rattle.apd_history.specs.declared.pages.View.{View}
use Rattle.apd_history.specs.Views.{view, Fits, FitAll, Kept, Appends, Checks}
use Rattle.apd_history.proofs.Fronts.{prefix_more, prefix_none}

off : false ≡ true → ⊥
off e = true≢false (sym e)

module _ {E : Type 0} where
  fits_set : (seat : ℕ) (log now : List E) (views : List (View E)) (by : ℕ) (w : View E)
      → ((j : ℕ) (u : View E) → j ≢ by → get_elem? views j ≡ some u → Fits seat now j u) → Fits seat now by w
      → FitAll seat now (set views by w)
  fits_set seat log now views by w others mine j u e =
      ⊎_elim
      (λ (x : (j ≡ by) × (w ≡ u)). subst (λ (y : ℕ × View E). Fits seat now y.0 y.1) (λ i. (sym x.0 i, x.1 i)) mine)
      (λ (x : (j ≢ by) × (get_elem? views j ≡ some u)). others j u x.0 x.1)
      (at_set views by j w u e)

  nobody_fits : (seat : ℕ) (log : List E) (by : ℕ) (seen : List E) → IsPrefix seen log → Fits seat log by (view false [] seen)
  nobody_fits seat log by seen p = ((λ k. absurd (off k)), p)

  pub begins : (words : List ℕ) (homes : List (Option E)) → Kept record { words = words; homes = homes; views = view true [] [] ∷ [] }
  begins words homes = (0, [], one)
    where
      one : FitAll {E = E} 0 [] (view true [] [] ∷ [])
      one zero v e = subst (Fits 0 [] 0) (some-injective _ _ e) ((λ _. (refl, refl)), prefix_none [])
      one (suc by) v e = absurd (some-ne-none v (sym e))

  pub appends : (by : ℕ) (v : View E) (e : E) (slots : ℕ) (f : ℕ → ℕ) → v.keeps ≡ true
      → Allows Kept slots by (v, []) 0 f (Appends (step slots 0 0 0 (some e)) (v, []))
  appends by v e slots f keep s kept homes at word =
      let seat = kept.0 in
      let log = kept.1 in
      let mine = kept.2 by v at in
      let here = mine.0 keep in
      let now : List E = log ++ e ∷ [] in
      let w = view v.keeps (v.all ++ e ∷ []) v.seen in (
        w,
        keeps,
        tt,
        (
          seat,
          now,
          fits_set seat log now s.views by w
              (λ j u apart at'. let h = kept.2 j u at' in ((λ k. absurd (apart ((h.0 k).0 ∙ sym here.0))), prefix_more u.seen log (e ∷ []) h.1))
              ((λ _. (here.0, ap (λ l. l ++ e ∷ []) here.1)), prefix_more v.seen log (e ∷ []) mine.1),
        ),
        refl,
      )

  -- a new pass that has seen a beginning
  splits : (by : ℕ) (v : View E) (seen : List E) → ((seat : ℕ) (log : List E) → Fits seat log by v → IsPrefix seen log)
      → Splits Kept by v v (view false [] seen)
  splits by v seen begins s kept at = (
    kept.0,
    kept.1,
    λ j u e. ⊎_elim
        (λ was. kept.2 j u (subst (λ l. get_elem? l j ≡ some u) (set_again s.views by v at) was))
        (λ (same : view false [] seen ≡ u). subst (Fits kept.0 kept.1 j) same (nobody_fits kept.0 kept.1 j seen (begins kept.0 kept.1 (kept.2 by v at))))
        (at_snoc (set s.views by v) (view false [] seen) u j e),
  )

  pub certifies : (by : ℕ) (v : View E) → v.keeps ≡ true → Splits Kept by v v (view false [] v.all)
  certifies by v keep = splits by v v.all (λ seat log fits. subst (λ l. IsPrefix v.all l) (fits.0 keep).1 ([], append-nil v.all))

  pub duplicates : (by : ℕ) (v : View E) → Splits Kept by v v (view false [] v.seen)
  duplicates by v = splits by v v.seen (λ seat log fits. fits.1)

  pub starts : (by : ℕ) (v : View E) → Splits Kept by v v (view false [] [])
  starts by v = splits by v [] (λ seat log fits. prefix_none log)

  pub shows : (by : ℕ) (v : View E) (other : ℕ) (u : View E) → Joins Kept by v other u (view v.keeps v.all u.seen) (view false [] [])
  shows by v other u s kept at apart there =
      let w = view v.keeps v.all u.seen in
      let mine = kept.2 by v at in
      let theirs =
      ⊎_elim
      (λ (t : (other ≡ by) × (w ≡ u)). absurd (apart t.0))
      (λ (t : (other ≢ by) × (get_elem? s.views other ≡ some u)). kept.2 other u t.1)
      (at_set s.views by other w u there) in
      let joined : FitAll kept.0 kept.1 (set s.views by w) = fits_set kept.0 kept.1 kept.1 s.views by w (λ j y _ e. kept.2 j y e) (mine.0, theirs.1) in
      (kept.0, kept.1, fits_set kept.0 kept.1 kept.1 (set s.views by w) other (view false [] []) (λ j y _ e. joined j y e) (nobody_fits kept.0 kept.1 other [] (prefix_none kept.1)))

  pub checks : (by : ℕ) (v : View E) (slots : ℕ) → Allows Kept slots by (v, []) 0 (λ n. n) (Checks (step slots 0 0 0 none) (v, []))
  checks by v slots s kept homes at word =
      let mine = kept.2 by v at in (
        v,
        keeps,
        tt,
        (kept.0, kept.1, subst (FitAll kept.0 kept.1) (sym (set_again s.views by v at)) kept.2),
        (refl, λ keep. subst (λ l. IsPrefix v.seen l) (sym (mine.0 keep).1) mine.1),
      )
