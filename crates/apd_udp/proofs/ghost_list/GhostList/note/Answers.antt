use Rattle.apd_udp.proofs.ghost_list.GhostList.note.Goals as goal

pub returns : goal.returns
returns g c i = record { marker = c.args.self.now.marker; items = c.of.ensures i }
