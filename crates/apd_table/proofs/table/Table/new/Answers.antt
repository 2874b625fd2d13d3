use Rattle.std.proofs.Common.{sym, ap, subst, ◌∙◌}
use Rattle.std.specs.FinMap as map
use Rattle.apd_table.proofs.Words.{BssState, Sound, bssid_cmp, none_is_some}
use Rattle.apd_table.proofs.Empty.{sound_empty}
use Rattle.apd_table.proofs.table.Table.new.Goals as goal

pub invariant_of-result : goal.invariant_of-result
invariant_of-result c = record {
  sound = subst Sound (λ i. record { stations = sym c.new.ensures i; lists = (sym c.new-2.ensures i).lists; policies = (sym c.new-2.ensures i).policies; cursors = (sym c.new-2.ensures i).cursors }) sound_empty;
  members = λ b x got. none_is_some x (sym (ap (λ (s : BssState). map.get s.members b) c.new-2.ensures ∙ map.get-empty bssid_cmp b) ∙ got);
}
