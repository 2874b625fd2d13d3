-- The laws of every verdict, and of runs.
use Rattle.std.proofs.Common.{◌≡◌, ℕ, Bool, true, false, List, [], ◌∷◌, Result, Ok, Err, IfOk, ◌⊎◌, ◌<◌, inl, inr, refl, sym, ap, subst, ◌∙◌, IsSome}
use Rattle.std.specs.FinMap as map
use Rattle.apd_mlme.proofs.Words.{AreFit, Bssid, Change, Conf, Decision, FollowsDrivers, Happening, IsFit, Sound, State, StaySound, Verdict, aid_at, conf_at, is_some, meaning, meaning_of, policy_at, run, station_of_aid, verdict}
use Rattle.apd_mlme.proofs.AssociationLemmas.{associated_meaning, associated_sound, associated_follows}
use Rattle.apd_mlme.proofs.AuthenticationLemmas.{admitted_sound, admitted_aid}
use Rattle.apd_mlme.proofs.CommandLemmas.{all_meaning, all_sound, all_follows, answered_follows}
use Rattle.apd_mlme.proofs.RowLemmas.{driven_left, Follows, back_aid, back_meaning, out_meaning, put_back_stays, dropped_stays, removal_follows, drop_follows}
use Rattle.apd_mlme.proofs.StartLemmas.{first_meaning, first_sound}
use Rattle.apd_mlme.proofs.EnforcementLemmas.{enforced_meaning, enforced_follows}
use Rattle.apd_mlme.proofs.Shapes as shape
use Rattle.apd_mlme.proofs.Shapes.{Shape, by_shape}

-- a new BSSID that is fit has room
room_for_one : (t : Bool) (n : ℕ) → t ≡ false → (t ≡ true) ⊎ (n < 8) → n < 8
room_for_one t n e (inl h) = cc
room_for_one t n e (inr h) = h

module _ (s : State) (confs : List Conf) where
  -- ---- the changes lead to the state
  shape_meaning : (h : Happening) (v : Verdict) → Shape s confs h v → meaning_of v.changes s ≡ v.state
  shape_meaning h _ shape.silent = refl
  shape_meaning h _ (shape.told reply there so one named) = refl
  shape_meaning h _ (shape.admitted conf b request there is e) = refl
  shape_meaning h _ (shape.left b a there own known) = back_meaning s b a (station_of_aid _ known)
  shape_meaning h _ (shape.gone b a there own known) = out_meaning s b a
  shape_meaning h _ (shape.ended b a reason there known others) = back_meaning s b a (station_of_aid _ known)
  shape_meaning h _ (shape.dropped b a reason there known others) = out_meaning s b a
  shape_meaning h _ (shape.associated conf b kind request aid there known own asked made) = associated_meaning s confs conf b kind request aid
  shape_meaning h _ (shape.emptied b reason deauth there to_all) = all_meaning s b reason deauth
  shape_meaning h _ (shape.enforced b p change l q there makes keep short others needed) = enforced_meaning s b p change l q makes
  shape_meaning h _ (shape.started conf b accept deny is first) = first_meaning s conf b accept deny first

  pub meaning_in : (h : Happening) → meaning_of (verdict s confs h).changes s ≡ (verdict s confs h).state
  meaning_in h = by_shape s confs (λ v. meaning_of v.changes s ≡ v.state) (λ tag answer v same. same) h (shape_meaning h)

  pub unchanged_in : (h : Happening) → (verdict s confs h).changes ≡ [] → (verdict s confs h).state ≡ s
  unchanged_in h none = sym (meaning_in h) ∙ ap (λ changes. meaning_of changes s) none

  -- ---- each of them leaves a sound state
  module _ (sound : Sound s) (h : Happening) (fit : IsFit s confs h) where
    shape_sound : (v : Verdict) → Shape s confs h v → StaySound v.changes s
    shape_sound _ shape.silent = sound
    shape_sound _ (shape.told reply there so one named) = sound
    shape_sound _ (shape.admitted conf b request there is e) = let fits = subst (IsFit s confs) is fit in admitted_sound s conf b request fits.1 e sound
    shape_sound _ (shape.left b a there own known) = put_back_stays s b a [] (station_of_aid _ known) sound
    shape_sound _ (shape.gone b a there own known) = dropped_stays s b a [] sound
    shape_sound _ (shape.ended b a reason there known others) = put_back_stays s b a [] (station_of_aid _ known) sound
    shape_sound _ (shape.dropped b a reason there known others) = dropped_stays s b a [] sound
    shape_sound _ (shape.associated conf b kind request aid there known own asked made) = associated_sound s confs conf b kind request aid sound known own
    shape_sound _ (shape.emptied b reason deauth there to_all) = all_sound s b reason deauth sound
    shape_sound _ (shape.enforced b p change l q there makes keep short others needed) = keep sound
    shape_sound _ (shape.started conf b accept deny is first) =
        let fits = subst (IsFit s confs) is fit in
        first_sound b s first sound conf accept deny (room_for_one (is_some (policy_at s b)) (map.len s.policies) first fits.1) fits.2 fits.3

  pub sound_in : (h : Happening) → IsFit s confs h → Sound s → StaySound (verdict s confs h).changes s
  sound_in h fit sound = by_shape s confs (λ v. StaySound v.changes s) (λ tag answer v stays. stays) h (shape_sound sound h fit)

  -- ---- the drivers follow
  module _ (c : Bssid) (configured : IsSome (conf_at confs c)) where
    shape_follows : (h : Happening) (v : Verdict) → Shape s confs h v → Follows c s v
    shape_follows h _ shape.silent d = refl
    shape_follows h _ (shape.told reply there so one named) d = refl
    shape_follows h _ (shape.admitted conf b request there is e) d = sym (admitted_aid s conf b request e c d)
    shape_follows h _ (shape.left b a there own known) d = sym (back_aid s b a c d)
    shape_follows h _ (shape.gone b a there own known) d = removal_follows s b a c d
    shape_follows h _ (shape.ended b a reason there known others) d = sym (back_aid s b a c d)
    shape_follows h _ (shape.dropped b a reason there known others) d = drop_follows s b a c reason d
    shape_follows h _ (shape.associated conf b kind request aid there known own asked made) d = associated_follows s confs conf b kind request aid c configured own d
    shape_follows h _ (shape.emptied b reason deauth there to_all) d = all_follows s b reason deauth c d
    shape_follows h _ (shape.enforced b p change l q there makes keep short others needed) d = enforced_follows s b p change l q c d
    shape_follows h _ (shape.started conf b accept deny is first) d = refl

  pub follows_in : (h : Happening) → FollowsDrivers confs (verdict s confs h).outs s (verdict s confs h).state
  follows_in h = λ c configured d. driven_left c d (verdict s confs h).outs (aid_at s c) ∙ by_shape s confs (Follows c s) (answered_follows c s) h (shape_follows c configured h) d

-- the last state of a row of sound states
pub stay_end : (changes : List Change) (s : State) → StaySound changes s → Sound (meaning_of changes s)
stay_end [] s h = h
stay_end (change ∷ changes) s h = stay_end changes (meaning change s) h.1

pub after_sound : (s : State) (confs : List Conf) (h : Happening) → IsFit s confs h → Sound s → Sound (verdict s confs h).state
after_sound s confs h fit sound = subst Sound (meaning_in s confs h) (stay_end (verdict s confs h).changes s (sound_in s confs h fit sound))

pub run_sound : (confs : List Conf) (hs : List Happening) (s : State) → AreFit s confs hs → Sound s → Sound (run s confs hs)
run_sound confs [] s fit sound = sound
run_sound confs (h ∷ hs) s fit sound = run_sound confs hs (verdict s confs h).state fit.1 (after_sound s confs h fit.0 sound)

-- the same of a decision that has the verdict's changes and outs
pub decided_meaning : {E : Type 0} (s : State) (confs : List Conf) (h : Happening) (r : Result Decision E) → IfOk r (λ d. d.changes ≡ (verdict s confs h).changes) → IfOk r (λ d. meaning_of d.changes s ≡ (verdict s confs h).state)
decided_meaning s confs h (Ok d) same = ap (λ changes. meaning_of changes s) same ∙ meaning_in s confs h
decided_meaning s confs h (Err lack) same = tt

pub decided_sound : {E : Type 0} (s : State) (confs : List Conf) (h : Happening) (r : Result Decision E) → IsFit s confs h → Sound s → IfOk r (λ d. d.changes ≡ (verdict s confs h).changes) → IfOk r (λ d. StaySound d.changes s)
decided_sound s confs h (Ok d) fit sound same = subst (λ changes. StaySound changes s) (sym same) (sound_in s confs h fit sound)
decided_sound s confs h (Err lack) fit sound same = tt

pub decided_driver : {E : Type 0} (s : State) (confs : List Conf) (h : Happening) (r : Result Decision E) → IfOk r (λ d. d.outs ≡ (verdict s confs h).outs) → IfOk r (λ d. FollowsDrivers confs d.outs s (verdict s confs h).state)
decided_driver s confs h (Ok d) same = subst (λ outs. FollowsDrivers confs outs s (verdict s confs h).state) (sym same) (follows_in s confs h)
decided_driver s confs h (Err lack) same = tt
