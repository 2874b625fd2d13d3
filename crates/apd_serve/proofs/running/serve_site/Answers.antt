use Rattle.std.proofs.Common.{rules}
use Rattle.apd_serve.proofs.running.serve_site.Goals as goal

pub run_beside-answer-requires-clause-own : goal.run_beside-answer-requires-clause-own
run_beside-answer-requires-clause-own g c κs within = search rules
