-- What became of the bytes of a command, at the interface that they mean (own).
use Rattle.std.specs.Prelude.{◌≡◌, ℕ, Bool, true, false, List, Option, Some, None, IfSome, Result, Ok, Err}
use Rattle.std.specs.Option.{option_map}
use Rattle.apd_base.specs.declared.address.Bssid.{Bssid}
use Rattle.apd_conf.specs.Confs.{conf_meant}
use Rattle.apd_core.specs.Core.{CoreState}
use Rattle.apd_core.specs.declared.query_answer.Answer.{Answer}
use Rattle.apd_ctrl.specs.Placing.{Asks, Does, IsPlaced, Placing}
use Rattle.apd_ctrl.specs.declared.parser.Refusal.{Refusal}
use Rattle.apd_ctrl.specs.declared.parser.Refusal.TheVariants.{Unknown, Fail}
use Rattle.apd_event.specs.Happening.{Happening}

-- there was a core by whose configurations a name, or none, finds the interface of this BSSID, or finds none; and which
-- has not failed where that is up
abbrev pub IsFoundBySomeCore : Option (List ℕ) → Option (Bssid × Bool) → Type 0
IsFoundBySomeCore name found =
    (core : CoreState) × (option_map (λ it. it.0) found ≡ option_map (λ conf. conf.bssid) (conf_meant core.confs name))
    × IfSome found (λ it. it.1 ≡ true → core.failed ≡ false)

-- bytes become this there, with their tag
abbrev pub IsPlacedBySomeCore : ℕ → List ℕ → Result Placing Refusal → Type 0
IsPlacedBySomeCore tag bytes placed = IsPlaced IsFoundBySomeCore tag bytes placed

-- a query is answered; an order has no answer yet; and bytes whose word is not known are refused so. Any other failure
-- may have other reasons besides
abbrev pub IsAnswerTo : ℕ → List ℕ → Result (Option Answer) Refusal → Type 0
IsAnswerTo tag bytes (Ok (Some answer)) = IsPlacedBySomeCore tag bytes (Ok (Asks answer.query))
IsAnswerTo tag bytes (Ok None) = (order : Happening) × IsPlacedBySomeCore tag bytes (Ok (Does order))
IsAnswerTo tag bytes (Err Unknown) = IsPlacedBySomeCore tag bytes (Err Unknown)
IsAnswerTo tag bytes (Err Fail) = Unit {0}
