use Rattle.apd_store.specs.Image.{magic, IsMarked}
use Rattle.apd_store.proofs.reading.read_image.Goals as goal

pub returns-clause-damaged : goal.returns-clause-damaged
returns-clause-damaged c = λ e.
    let marked : IsMarked c.args.bytes.now = c.is_marked-2.ensures.0 c.if-not-is_marked.false in (
      marked,
      λ state. c.read_halves.ensures.damaged e magic state marked,
    )
