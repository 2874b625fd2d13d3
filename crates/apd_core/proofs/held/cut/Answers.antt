use Rattle.apd_core.proofs.Queues.{cut_more, behind}
use Rattle.apd_core.proofs.held.cut.Goals as goal

pub take_back-requires : goal.take_back-requires
take_back-requires c = behind c.args.number c.args.queues.now c.loop-queue.queues c.loop-queue.queue-index c.queue-item.result c.loop-queue-test.true c.loop-queue.invariant c.requires

pub loop-queue-preserved : goal.loop-queue-preserved
loop-queue-preserved c =
    cut_more c.args.number c.args.queues.now c.loop-queue.queues c.loop-queue.queue-index c.queue-item.result c.take_back.new.self c.loop-queue-test.true c.loop-queue.invariant c.take_back.ensures
