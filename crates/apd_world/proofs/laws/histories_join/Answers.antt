use Rattle.apd_world.proofs.HistoryLemmas.{all_lead, then_leads, then_safely}
use Rattle.apd_world.proofs.laws.histories_join.Goals as goal

pub returns-clause-made : goal.returns-clause-made
returns-clause-made g c = λ steps tolds old new j made. all_lead g.D.Disk.model g.R.Radio.model steps tolds old new j made.in_turn

pub returns-clause-leads : goal.returns-clause-leads
returns-clause-leads g c = then_leads

pub returns-clause-safely : goal.returns-clause-safely
returns-clause-safely g c = then_safely g.D.Disk.model
