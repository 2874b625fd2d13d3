use Rattle.std.proofs.Common.{subst, sym}
use Rattle.apd_serve.specs.Worked.{HasWorked}
use Rattle.apd_serve.specs.declared.worker.Worker.{Worker}
use Rattle.apd_serve.specs.declared.worker.Worker.TheVariants.{Committing, Radio, Control, Ticks}
use Rattle.apd_serve.proofs.Working.{has_committed, has_replied, has_served, has_ticked}
use Rattle.apd_serve.proofs.worker.WorkerJobDesk.work.Goals as goal

pub returns-in-Committing-clause-worked : goal.returns-in-Committing-clause-worked
returns-in-Committing-clause-worked g c =
    subst (λ (old : Worker g.row.L.Denot g.row.D.Denot g.row.R.Denot g.row.P.Denot). HasWorked g.D.Disk.model g.R.Radio.model old (Committing c.commit.result)) (sym c.in-Committing.is)
    (has_committed g.D.Disk.model g.R.Radio.model c.in-Committing.committer c.commit.result c.commit.ensures.led c.commit.ensures.keeps)

pub returns-in-Radio-clause-worked : goal.returns-in-Radio-clause-worked
returns-in-Radio-clause-worked g c =
    subst (λ (old : Worker g.row.L.Denot g.row.D.Denot g.row.R.Denot g.row.P.Denot). HasWorked g.D.Disk.model g.R.Radio.model old (Radio c.radio_worker-seat.result.0 c.radio_worker-seat.result.1)) (sym c.in-Radio.is)
    (has_served g.D.Disk.model g.R.Radio.model c.in-Radio.seat c.radio_worker-seat.result.0 c.in-Radio.slot c.radio_worker-seat.result.1 c.radio_worker-seat.ensures.seat c.radio_worker-seat.ensures.given)

pub returns-in-Control-clause-worked : goal.returns-in-Control-clause-worked
returns-in-Control-clause-worked g c =
    subst (λ (old : Worker g.row.L.Denot g.row.D.Denot g.row.R.Denot g.row.P.Denot). HasWorked g.D.Disk.model g.R.Radio.model old (Control c.control_worker-seat.result.0 c.control_worker-seat.result.1)) (sym c.in-Control.is)
    (has_replied g.D.Disk.model g.R.Radio.model c.in-Control.seat c.control_worker-seat.result.0 c.in-Control.port c.control_worker-seat.result.1 c.control_worker-seat.ensures.later)

pub returns-in-Ticks-clause-worked : goal.returns-in-Ticks-clause-worked
returns-in-Ticks-clause-worked g c =
    subst (λ (old : Worker g.row.L.Denot g.row.D.Denot g.row.R.Denot g.row.P.Denot). HasWorked g.D.Disk.model g.R.Radio.model old (Ticks c.tick_worker.result)) (sym c.in-Ticks.is)
    (has_ticked g.D.Disk.model g.R.Radio.model c.in-Ticks.seat c.tick_worker.result c.tick_worker.ensures.later)
