use Rattle.std.proofs.Common.{is_some, ap, ◌∙◌}
use Rattle.std.specs.FinMap as map
use Rattle.apd_core.proofs.Words.{State, moment_left, touches_row}
use Rattle.apd_core.proofs.Laying.{changed}
use Rattle.apd_core.proofs.last_heard.LastHeard.hear_changes.Goals as goal

pub returns : goal.returns
returns c state before moments laid now =
    let changes = c.args.changes.now in
    changed state before moments changes c.args.self.now laid c.args.moment c.stamp_all.new.self c.tidy_all.new.self c.stamp_all.ensures (λ k.
    c.tidy_all.ensures k ∙ ap (λ (s : State). moment_left (touches_row changes k) (is_some (map.get s.stations k)) (map.get c.stamp_all.new.self k)) now)
