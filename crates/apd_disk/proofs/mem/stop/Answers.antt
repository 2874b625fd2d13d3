use Rattle.std.proofs.Common.{List, ℕ, IsTrue, length, sym, subst}
use Rattle.apd_disk.specs.Mem.{all_fit, LeftAfter, IsCrashImage}
use Rattle.apd_disk.specs.for_proofs.MemLaws.{fit_front}
use Rattle.apd_disk.proofs.Crash.{stopped, crash_left, crash_image, fit_back}
use Rattle.apd_disk.proofs.mem.stop.Goals as goal
use Rattle.apd_disk.specs.declared.call.Call.{Call}

pub replay-requires : goal.replay-requires
replay-requires c = record {
  fit = subst (λ (l : List Call). IsTrue (all_fit (length c.args.image.now.items) l)) (sym c.split_at.ensures.front)
      (fit_front (length c.args.image.now.items) c.last_sync.result c.args.calls.now c.requires.fit);
}

pub replay-requires-2 : goal.replay-requires-2
replay-requires-2 c = record {
  fit = subst (λ (n : ℕ). IsTrue (all_fit n c.split_at.result.1.now)) (sym c.replay.ensures.size)
      (subst (λ (l : List Call). IsTrue (all_fit (length c.args.image.now.items) l)) (sym c.split_at.ensures.back)
      (fit_back (length c.args.image.now.items) c.last_sync.result c.args.calls.now c.requires.fit));
}

pub returns-clause-bytes : goal.returns-clause-bytes
returns-clause-bytes c =
    subst (λ (l : List ℕ). IsCrashImage c.args.torn c.args.image.now.items c.args.calls.now l)
    (stopped c.args.torn c.args.image.now.items c.replay.new.image.items c.replay-2.new.image.items c.args.calls.now c.split_at.result.0.now c.split_at.result.1.now c.last_sync.result c.last_sync.ensures c.split_at.ensures.front c.split_at.ensures.back c.replay.ensures.bytes c.replay-2.ensures.bytes)
    (crash_image c.args.torn c.args.image.now.items c.args.calls.now c.requires.fit)

pub returns-clause-stop : goal.returns-clause-stop
returns-clause-stop c =
    subst (λ (l : List ℕ). LeftAfter c.args.image.now.items c.args.calls.now l)
    (stopped c.args.torn c.args.image.now.items c.replay.new.image.items c.replay-2.new.image.items c.args.calls.now c.split_at.result.0.now c.split_at.result.1.now c.last_sync.result c.last_sync.ensures c.split_at.ensures.front c.split_at.ensures.back c.replay.ensures.bytes c.replay-2.ensures.bytes)
    (crash_left c.args.torn c.args.image.now.items c.args.calls.now c.requires.fit)
