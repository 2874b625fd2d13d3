use Rattle.apd_conf.proofs.TextLemmas.{interface_utf8}
use Rattle.apd_conf.proofs.interface_name.InterfaceName.from_bytes.Goals as goal

pub unreachable-requires : goal.unreachable-requires
unreachable-requires c = c.in_default.ensures.cases.0 (interface_utf8 c.args.bytes.now c.requires)
