use Rattle.std.proofs.Common.{◌≡◌, sym, subst}
use Rattle.apd_disk.specs.Disk.{DiskModel}
use Rattle.apd_store.specs.Outside.{store_device}
use Rattle.apd_store.specs.Upgrading.{IsUpgraded}
use Rattle.apd_store.specs.declared.store.Store.{Store}
use Rattle.apd_maintenance.specs.Upgrading.{IsCopied}
use Rattle.apd_maintenance.proofs.upgrading.run_upgrade.Goals as goal

-- the device of a store that a copy became
copied : {O N : Type 0} (from : DiskModel O) (to : DiskModel N) (old left : O) (new made : N) (store : Store N)
    → made ≡ store_device store → IsUpgraded from to old left new store → IsCopied from to old left new made
copied from to old left new made store is h = subst (IsCopied from to old left new) (sym is) (record {
  old_length = h.old_length;
  length = h.length;
  old_count = h.old_count;
  count = h.count;
  old_was_honest = h.old_was_honest;
  was_honest = h.was_honest;
  on_its_way = h.made;
  none_given = h.none_given;
  shown = h.shown;
  old_stays = h.old_stays;
})

pub returns-in-Ok-write_all-clause-made : goal.returns-in-Ok-write_all-clause-made
returns-in-Ok-write_all-clause-made g c =
    copied g.O.Disk.model g.N.Disk.model c.args.old c.in-Ok.old c.args.new c.into_device.result c.in-Ok.store c.into_device.ensures c.in-Ok.ensures.made

pub returns-in-Err-write_all-clause-refused : goal.returns-in-Err-write_all-clause-refused
returns-in-Err-write_all-clause-refused g c =
    copied g.O.Disk.model g.N.Disk.model c.args.old c.in-Ok.old c.args.new c.into_device.result c.in-Ok.store c.into_device.ensures c.in-Ok.ensures.made
