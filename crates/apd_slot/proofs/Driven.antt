-- What is wanted after outs, address by address.
use Rattle.std.proofs.Common.{◌≡◌, cond, List, [], ◌∷◌, Some, None, refl, ap, ◌∙◌}
use Rattle.std.specs.Cmp.{eq_by_cmp_equiv}
use Rattle.std.specs.FinMap as map
use Rattle.std.specs.FinMap.{get-insert, get-remove}
use Rattle.apd_base.specs.declared.address.Addr.{Addr}
use Rattle.apd_base.proofs.AddrLemmas.{addr_total}
use Rattle.apd_mlme.specs.laws.Driver.{driver_after, driver_after_all}
use Rattle.apd_mlme.specs.declared.decision.Out.{Out}
use Rattle.apd_mlme.specs.declared.decision.Out.TheVariants.{Install, Remove, Frame, Text}
use Rattle.apd_slot.specs.Wanted.{Stations, wanted_after, wanted_after_all}

pub wanted_at : (out : Out) (wanted : Stations) (d : Addr) → map.get (wanted_after out wanted) d ≡ driver_after out (map.get wanted) d
wanted_at (Install a aid) wanted d = get-insert addr_total wanted a aid.number d ∙ ap (λ t. cond t (Some aid.number) (map.get wanted d)) ((eq_by_cmp_equiv addr_total).symm d a)
wanted_at (Remove a) wanted d = get-remove addr_total wanted a d ∙ ap (λ t. cond t None (map.get wanted d)) ((eq_by_cmp_equiv addr_total).symm d a)
wanted_at (Frame bytes) wanted d = refl
wanted_at (Text tag text) wanted d = refl

pub wanted_is_driven : (out : Out) (wanted : Stations) → map.get (wanted_after out wanted) ≡ driver_after out (map.get wanted)
wanted_is_driven out wanted = λ i d. wanted_at out wanted d i

pub all_is_driven : (outs : List Out) (wanted : Stations) → map.get (wanted_after_all outs wanted) ≡ driver_after_all outs (map.get wanted)
all_is_driven [] wanted = refl
all_is_driven (out ∷ outs) wanted = all_is_driven outs (wanted_after out wanted) ∙ ap (driver_after_all outs) (wanted_is_driven out wanted)
