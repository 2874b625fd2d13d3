use Rattle.std.proofs.Common.{inr}
use Rattle.apd_store.proofs.recovery.read_device.Goals as goal

pub returns-in_default-clause-durable_first : goal.returns-in_default-clause-durable_first
returns-in_default-clause-durable_first g c = λ honest told. inr (record {
  fault = c.in_default.field-0;
  answer = c.sync.result;
  failed = c.in_default.is;
  asked = c.sync.ensures.call;
})
