use Rattle.apd_world.proofs.Order.{in_order}
use Rattle.apd_world.proofs.laws.outs_keep_their_order.Goals as goal

pub returns : goal.returns
returns g c = λ steps tolds old new made. in_order g.D.Disk.model g.R.Radio.model steps tolds old new made.in_turn
