use Rattle.apd_base.proofs.AddrText.{address_of-text_of}
use Rattle.apd_base.proofs.address.text_law.Goals as goal

pub returns : goal.returns
returns c = address_of-text_of
