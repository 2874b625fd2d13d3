-- One call of a batch.
use Rattle.std.specs.Prelude.{◌≡◌, ◌≤◌, ◌<◌, ◌+◌, ◌⊎◌, ◌↔◌, Bool, IsTrue, Result, OnOk, IfOk, IfErr, IsErrOf}
use Rattle.apd_base.specs.Failures.{HasRisen}
use Rattle.apd_disk.specs.Disk.{DiskModel}
use Rattle.apd_store.specs.Outside.{store_batch, calls_left, store_device, phase_of, IsInside}
use Rattle.apd_store.specs.declared.fault.StoreFault.{StoreFault}
use Rattle.apd_store.specs.declared.fault.StoreFault.TheVariants as store_fault
use Rattle.apd_store.specs.declared.phase.Phase.TheVariants.{Done, Failed}
use Rattle.apd_store.specs.declared.store.Store.{Store}

-- The call that was next was made, or none was, and this was told: whether calls are left, or a fault.
pub record IsCallMade {D : Type 0} (disk : DiskModel D) (old new : Store D)
    (result : Result Bool StoreFault) : Type 0 where
  pub batch_is : store_batch new ≡ store_batch old
  pub inside : IsInside disk old → IsInside disk new
  pub stays_honest : disk.honest (store_device old) ↔ disk.honest (store_device new)
  -- it is one call and no other: each takes the device's moment on by one at most
  pub one_call : disk.honest (store_device old) → disk.moment (store_device new) ≤ disk.moment (store_device old) + 1
  pub step : 0 < calls_left old → OnOk result (calls_left new + 1 ≡ calls_left old)
  pub done : calls_left old ≡ 1 → OnOk result (phase_of new ≡ Done)
  pub left : IfOk result (λ more. IsTrue more ↔ (0 < calls_left new))
  pub err : IfErr result (λ e. (phase_of new ≡ Failed) × ((e ≡ store_fault.Device) ⊎ (e ≡ store_fault.Failed)))
  -- a call that is refused isn't made; one is refused where the device has failed, or the place lies outside it
  pub no_call : IsErrOf result store_fault.Failed → store_device new ≡ store_device old
  pub only_after : IsInside disk old → IsErrOf result store_fault.Failed → phase_of old ≡ Failed
  pub count : disk.failed (store_device old) ≤ disk.failed (store_device new)
  pub no_fault : OnOk result (disk.failed (store_device new) ≡ disk.failed (store_device old))
  pub device_failed : IsErrOf result store_fault.Device
      → HasRisen (disk.failed (store_device old)) (disk.failed (store_device new))
