use Rattle.std.proofs.Common.{◌≡◌, ◌∙◌, List, subst, sym}
use Rattle.apd_base.specs.State.{State}
use Rattle.apd_base.specs.declared.moment.Moment.{Moment}
use Rattle.apd_conf.specs.declared.conf.Conf.{Conf}
use Rattle.apd_core.specs.Core.{CoreState, new_core}
use Rattle.apd_core.specs.Heard.{AreHeardAt}
use Rattle.apd_disk.specs.FileCalls.{file_reads}
use Rattle.apd_disk.specs.FileModel.{file_model}
use Rattle.apd_disk.specs.FileMore.{HasMore}
use Rattle.apd_site.specs.StoreDisk.{StoreDisk}
use Rattle.apd_disk.specs.declared.record.FileRecord.{FileRecord}
use Rattle.apd_store.specs.Image.{Shows}
use Rattle.apd_store.specs.Outside.{store_device}
use Rattle.apd_store.specs.declared.store.Store.{Store}
use Rattle.apd_serve.proofs.beginning.begin_world.Goals as goal

pub returns-in-Ok-clause-over : goal.returns-in-Ok-clause-over
returns-in-Ok-clause-over g c = λ known recovered honest.
    let begun = c.in-Ok.ensures.begun in
    let answered = subst (λ (store : Store StoreDisk). file_model.honest (store_device store)) begun.over honest in
    let from = recovered.recovered in
    record {
      file = subst (λ (store : Store StoreDisk). HasMore known (store_device store).known) (sym begun.over)
          (subst (λ (k : FileRecord). HasMore k (store_device c.args.opened.store).known) recovered.knows
          (from.any_moment answered).goes_on);
      table = c.args.opened.table;
      shows = subst (λ (k : FileRecord). Shows (file_reads k.held k.calls) c.args.opened.table) recovered.knows (from.shown answered);
      begins = c.in-Ok.ensures.begins;
      proper = begun.proper answered from.inside (from.idle answered);
    }

-- a new core's table is the settled one
heard_at : (m : Moment) (table : State) (confs : List Conf) (core : CoreState) → core ≡ new_core table confs core.heard
    → AreHeardAt m table core.heard → AreHeardAt m core.settled core.heard
heard_at m table confs core new heard =
    subst (λ (same : CoreState). AreHeardAt m same.settled core.heard) (sym new) heard

pub returns-in-Ok-clause-at : goal.returns-in-Ok-clause-at
returns-in-Ok-clause-at g c =
    let begun = c.in-Ok.ensures.begun in
    let resumed = c.in-Ok.ensures.resumed in
    record {
      heard = heard_at _ _ _ _ begun.core begun.heard;
      slots = λ enough. resumed.same ∙ c.in_ok-slots.ensures.bssids enough;
      radios_are = λ enough. c.in-Ok.ensures.frames ∙ c.in_ok-slots.ensures.frames enough;
      resumed = resumed.resumed;
      following = resumed.following;
    }
