use Rattle.std.proofs.Common.{◌++◌, ap, ◌∙◌}
use Rattle.std.specs.Prelude.{codes}
use Rattle.std.specs.Fmt.{decimal}
use Rattle.std.proofs.lemmas.Result.{IfOk-weaker}
use Rattle.apd_ctrl.proofs.replies.station_lines.Goals as goal

pub returns : goal.returns
returns c =
    IfOk-weaker c.format.result _ _
    (λ lines h. h ∙ ap (λ bits. codes "\nflags=" ++ (c.args.flags.now ++ (codes "\naid=" ++ (decimal c.args.aid ++ (codes "\ncapability=0x" ++ (bits ++ (codes "\nlisten_interval=" ++ (decimal c.args.listen_interval ++ codes "\n"))))))))
    c.in_ok-bits.ensures)
    c.format.ensures.ok
