use Rattle.apd_world.proofs.Words.{durable_of, front_of}
use Rattle.apd_mlme.specs.laws.Broadcast.{NoBroadcastRow}
use Rattle.apd_table.specs.Sound.{Sound}
use Rattle.apd_world.proofs.RunLemmas.{kept}
use Rattle.apd_world.proofs.Speaking.{from_station, no_broadcast_row, so_to_all, sound_then}
use Rattle.apd_world.proofs.laws.what_leaves_is_so_of_everyone.Goals as goal

pub returns-clause-senders : goal.returns-clause-senders
returns-clause-senders g c = λ s. from_station s.confs s.heard

pub returns-clause-rows : goal.returns-clause-rows
returns-clause-rows g c = λ steps tolds old new made.
    kept g.D.Disk.model g.R.Radio.model (λ w. NoBroadcastRow (front_of (durable_of w).core)) (λ x t v w step one. no_broadcast_row g.R.Radio.model x t v w step) steps tolds old new made.in_turn

pub returns-clause-everyone : goal.returns-clause-everyone
returns-clause-everyone g c = λ steps tolds old new m i h made sound none.
    so_to_all (durable_of new).core m i h
    (kept g.D.Disk.model g.R.Radio.model (λ w. Sound (front_of (durable_of w).core)) (λ x t v w step one. sound_then g.R.Radio.model x t v w step) steps tolds old new made.in_turn sound)
    (kept g.D.Disk.model g.R.Radio.model (λ w. NoBroadcastRow (front_of (durable_of w).core)) (λ x t v w step one. no_broadcast_row g.R.Radio.model x t v w step) steps tolds old new made.in_turn none)
