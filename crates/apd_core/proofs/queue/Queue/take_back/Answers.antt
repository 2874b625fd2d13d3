use Rattle.std.proofs.Common.{◌≡◌, ap, ◌∙◌, ◌-◌, take, length, rules}
use Rattle.apd_core.proofs.Queues.{cut_is}
use Rattle.apd_core.proofs.queue.Queue.take_back.Goals as goal

pub returns : goal.returns
returns c =
    c.truncate.ensures.items
    ∙ ap (λ n. take (n - c.count_from-last.result) c.self.inside.outs.items) (let e : c.len.result ≡ length c.self.inside.outs.items = (search rules) in e)
    ∙ ap (λ q. take (length q - c.count_from-last.result) q) c.self.view_is
    ∙ cut_is c.args.number c.count_from-last.result c.args.self.now c.requires c.count_from-last.ensures
