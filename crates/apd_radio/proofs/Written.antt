-- What a recording holds after calls.
use Rattle.std.proofs.Common.{◌≡◌, ℕ, Bool, true, false, List, [], ◌∷◌, ◌++◌, Option, Some, None, ap, ◌∙◌, sym}
use Rattle.std.proofs.lemmas.List.{append_assoc, append-nil}
use Rattle.apd_radio.specs.declared.call.Call.{Call}
use Rattle.apd_radio.specs.Calls.{line_of}
use Rattle.apd_base.specs.Text.{with_newline}
use Rattle.apd_radio.specs.Recordings.{RecordsAll, recording_of}

pub ended_stays : (calls : List Call) (ended : Bool) (old new : Option (List ℕ)) → RecordsAll true old calls ended new → (ended ≡ true) × (new ≡ old)
ended_stays [] ended old new r = r
ended_stays (call ∷ calls) ended old new (true, held, one, rest) = let (is, same) = ended_stays calls ended held new rest in (is, same ∙ one.1)
ended_stays (call ∷ calls) ended old new (false, held, one, rest) = absurd (let h : false ≡ true = one.0 in cc)

pub written : (calls : List Call) (old : List ℕ) (new : Option (List ℕ)) → RecordsAll false (Some old) calls false new → new ≡ Some (old ++ recording_of calls)
written [] old new r = r.1 ∙ ap Some (sym (append-nil old))
written (call ∷ calls) old new (true, held, one, rest) = absurd (let h : false ≡ true = (ended_stays calls false held new rest).0 in cc)
written (call ∷ calls) old new (false, None, one, rest) = absurd one
written (call ∷ calls) old new (false, Some now, one, rest) =
    written calls now new rest ∙ ap (λ (t : List ℕ). Some (t ++ recording_of calls)) one ∙ ap Some (append_assoc old (with_newline (line_of call)) (recording_of calls))
