use Rattle.std.specs.Str.{is_utf8}
use Rattle.std.proofs.lemmas.Bool.{and_parts}
use Rattle.std.proofs.lemmas.Str.{IsUtf8-from_is_utf8}
use Rattle.apd_conf.specs.Names.{is_file_name}
use Rattle.apd_conf.proofs.file_name.FileName.from_bytes.Goals as goal

pub unreachable-requires : goal.unreachable-requires
unreachable-requires c =
    let text = and_parts (is_utf8 c.args.bytes.now) (is_file_name c.args.bytes.now) c.requires in
    c.in_default.ensures.cases.0 (IsUtf8-from_is_utf8 c.args.bytes.now text.0)
