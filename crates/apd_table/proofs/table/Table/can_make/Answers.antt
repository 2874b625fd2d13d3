use Rattle.std.proofs.Common.{refl}
use Rattle.apd_table.proofs.Cursors.{can_cursor, sound_cursor}
use Rattle.apd_table.proofs.ListChanges.{can_add, sound_add, sound_clear, sound_take}
use Rattle.apd_table.proofs.Parts.{sound_drop}
use Rattle.apd_table.proofs.PolicySet.{can_set, sound_set}
use Rattle.apd_table.proofs.Put.{can_put, sound_put}
use Rattle.apd_table.proofs.table.Table.can_make.Goals as goal

pub returns-in-Put-clause-sound : goal.returns-in-Put-clause-sound
returns-in-Put-clause-sound c =
    let s = c.args.self.now in
    rw c.in-Put.is (λ h. sound_put s _ _ _ c.sound.ensures (c.can_put.ensures.0 h), λ sound. c.can_put.ensures.1 (can_put s _ _ _ c.sound.ensures sound))

pub returns-in-Drop-clause-sound : goal.returns-in-Drop-clause-sound
returns-in-Drop-clause-sound c = rw c.in-Drop.is (λ _. sound_drop c.args.self.now _ _ c.sound.ensures, λ _. refl)

pub returns-in-ListAdd-clause-sound : goal.returns-in-ListAdd-clause-sound
returns-in-ListAdd-clause-sound c = rw c.in-ListAdd.is (λ h. sound_add c.args.self.now _ _ _ c.sound.ensures (c.can_add.ensures.0 h), λ sound. c.can_add.ensures.1 (can_add c.args.self.now _ _ _ sound))

pub returns-in-Policy-clause-sound : goal.returns-in-Policy-clause-sound
returns-in-Policy-clause-sound c = rw c.in-Policy.is (λ h. sound_set c.args.self.now _ _ c.sound.ensures (c.can_set.ensures.0 h), λ sound. c.can_set.ensures.1 (can_set c.args.self.now _ _ sound))

pub returns-in-ListDel-clause-sound : goal.returns-in-ListDel-clause-sound
returns-in-ListDel-clause-sound c =
    let s = c.args.self.now in
    let none = rw c.in-ListDel.is at c.denies_none_after.ensures in
    rw c.in-ListDel.is (λ h. sound_take s _ _ _ c.sound.ensures (none.0 h), λ sound. none.1 (sound.none_denied _))

pub returns-in-ListClear-clause-sound : goal.returns-in-ListClear-clause-sound
returns-in-ListClear-clause-sound c =
    let s = c.args.self.now in
    let none = rw c.in-ListClear.is at c.denies_none_after-in-ListClear.ensures in
    rw c.in-ListClear.is (λ h. sound_clear s _ _ c.sound.ensures (none.0 h), λ sound. none.1 (sound.none_denied _))

pub returns-in-Cursor-clause-sound : goal.returns-in-Cursor-clause-sound
returns-in-Cursor-clause-sound c =
    let s = c.args.self.now in
    rw c.in-Cursor.is (λ h. sound_cursor s _ _ c.sound.ensures (c.has_policy.ensures.0 h), λ sound. c.has_policy.ensures.1 (can_cursor s _ _ sound))
