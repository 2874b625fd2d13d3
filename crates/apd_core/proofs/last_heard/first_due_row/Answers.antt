use Rattle.std.proofs.Common.{ap, ◌∙◌, rules, tests}
use Rattle.std.proofs.lemmas.Iterator.Consumers.{YieldsList-from_rest}
use Rattle.std.proofs.lemmas.Iterator.Search.{find_from_yields_List}
use Rattle.apd_core.proofs.Words.{Addr, Bssid, Moment, is_due, option_map}
use Rattle.apd_core.proofs.last_heard.first_due_row.Goals as goal

pub returns : goal.returns
returns c =
    c.key_of.ensures ∙ ap (option_map (λ (row : (Bssid × Addr) × Moment). row.0))
    (find_from_yields_List (is_due c.args.confs.now c.args.now) _ _ c.find.result c.find.ensures.ran (YieldsList-from_rest c.args.rows.now.entries c.iter.ensures.rest) (λ x b q k. search (rules, tests)))
