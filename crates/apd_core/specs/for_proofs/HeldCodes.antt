-- The code by which a model's value may have what is held.
use Rattle.std.specs.Prelude.{◌≡◌, ℕ, List, ◌⊎◌, refl}
use Rattle.std.proofs.Common.{inl, inr}
use Rattle.std.specs.Coded.{Coded, code_by, coded×, coded⊎, coded_ℕ, coded_list}
use Rattle.std.specs.Ordering.{nat_cmp}
use Rattle.std.specs.FinMap as maps
use Rattle.std.specs.FinMap.{FinMap}
use Rattle.apd_base.specs.Addr.{coded_addr}
use Rattle.apd_base.specs.for_proofs.Codes.{coded_aid}
use Rattle.apd_base.specs.declared.address.Addr.{Addr}
use Rattle.apd_base.specs.declared.station.Aid.{Aid}
use Rattle.apd_mlme.specs.declared.decision.Out.{Out}
use Rattle.apd_mlme.specs.declared.decision.Out.TheVariants.{Install, Remove, Frame, Text}
use Rattle.apd_core.specs.Held.{Queue, HeldOuts}

abbrev pub Parts : Type 0
Parts = ((Addr × Aid) ⊎ Addr) ⊎ (List ℕ ⊎ (ℕ × List ℕ))

abbrev pub parts_of : Out → Parts
parts_of (Install a aid) = inl (inl (a, aid))
parts_of (Remove a) = inl (inr a)
parts_of (Frame bytes) = inr (inl bytes)
parts_of (Text tag bytes) = inr (inr (tag, bytes))

abbrev pub out_from : Parts → Out
out_from (inl (inl p)) = Install p.0 p.1
out_from (inl (inr a)) = Remove a
out_from (inr (inl bytes)) = Frame bytes
out_from (inr (inr p)) = Text p.0 p.1

pub out_from-parts_of : (o : Out) → out_from (parts_of o) ≡ o
out_from-parts_of (Install a aid) = refl
out_from-parts_of (Remove a) = refl
out_from-parts_of (Frame bytes) = refl
out_from-parts_of (Text tag bytes) = refl

abbrev pub coded_out : Coded Out
coded_out =
    code_by Parts
    (coded⊎ (coded⊎ (coded× coded_addr coded_aid) coded_addr)
    (coded⊎ (coded_list coded_ℕ) (coded× coded_ℕ (coded_list coded_ℕ)))) parts_of out_from out_from-parts_of

abbrev pub coded_queue : Coded Queue
coded_queue = coded_list (coded× coded_ℕ coded_out)

abbrev pub coded_held : Coded HeldOuts
coded_held =
    code_by (List Queue × (FinMap nat_cmp ℕ × ℕ))
    (coded× (coded_list coded_queue) (coded× (maps.code coded_ℕ coded_ℕ) coded_ℕ))
    (λ h. (h.queues, (h.left, h.given))) (λ p. record { queues = p.0; left = p.1.0; given = p.1.1 }) (λ _. refl)
