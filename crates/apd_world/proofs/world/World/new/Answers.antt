use Rattle.std.proofs.Common.{sym, ◌∙◌}
use Rattle.apd_world.proofs.Words.{new_core}
use Rattle.apd_world.proofs.HistoryBegins.{begins_at}
use Rattle.apd_world.proofs.ResumeLemmas.{begun_following}
use Rattle.apd_world.proofs.world.World.new.Goals as goal

pub returns-clause-following : goal.returns-clause-following
returns-clause-following g c = λ unused resumed b configured slot at a.
    let core = c.args.core in
    begun_following g.R.Radio.model c.args.slots.items core.settled resumed c.new.result.core core.confs core.heard (c.new.ensures.core ∙ unused) b slot at a

pub returns-clause-begins : goal.returns-clause-begins
returns-clause-begins g c = λ unused empty.
    let core = c.args.core in
    let is = c.new.ensures.core in
    begins_at _ core.confs core.settled (is ∙ unused ∙ (λ i. new_core core.settled core.confs (sym is i).heard)) c.sound.ensures.sound empty
