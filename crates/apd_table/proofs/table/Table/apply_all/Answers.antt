use Rattle.std.proofs.Common.{◌-◌, length, take, Err, IsSome, refl, sym, ap, subst, ◌∙◌}
use Rattle.apd_table.proofs.Words.{Cursor, IsCursorThere, IsInPlace, NoNewRow, Sound, StaySound, err_from_is_err_and, meaning_of, policy_at, set_cursor}
use Rattle.apd_table.proofs.Behind.{split, means_behind, stay_behind, stay_before, no_row_before, in_place_before, sound_behind}
use Rattle.apd_table.proofs.table.Table.apply_all.Goals as goal

pub returns-in_err-apply_few-clause-invalid : goal.returns-in_err-apply_few-clause-invalid
returns-in_err-apply_few-clause-invalid c e stays =
    let told = err_from_is_err_and c.from_residual.result c.from_residual.ensures.1 in
    let whole = split c.args.changes.now c.last-item.result (Cursor c.in-Some.bssid c.in-Some.number) c.in-len1-up.len_at_least c.last-item.is c.in-Some.ensures.cursor in
    c.in_err-apply_few.ensures.invalid (sym (told.1 ∙ ap Err told.2) ∙ e) (stay_before _ _ _ (subst (λ changes. StaySound changes c.args.self.now) whole stays))

pub returns-in_err-apply_few-clause-memory : goal.returns-in_err-apply_few-clause-memory
returns-in_err-apply_few-clause-memory c place rows e =
    let told = err_from_is_err_and c.from_residual.result c.from_residual.ensures.1 in
    let whole = split c.args.changes.now c.last-item.result (Cursor c.in-Some.bssid c.in-Some.number) c.in-len1-up.len_at_least c.last-item.is c.in-Some.ensures.cursor in
    c.in_err-apply_few.ensures.memory (in_place_before _ _ _ _ (subst (λ changes. IsInPlace changes c.args.self.now) whole place)) (no_row_before _ _ _ (subst (λ changes. NoNewRow changes c.args.self.now) whole rows)) (sym (told.1 ∙ ap Err told.2) ∙ e)

pub set_cursor-requires : goal.set_cursor-requires
set_cursor-requires c =
    let there : IsSome (policy_at c.args.self.now c.in-Some.bssid) = subst (λ change. IsCursorThere change c.args.self.now) c.in-Some.ensures.cursor (c.in-Some.ensures.there.0 refl) in
    subst (λ s. Sound (set_cursor c.in-Some.bssid c.in-Some.number s)) (sym c.in_ok-apply_few.ensures.ok) (sound_behind _ _ _ _ c.in_ok-apply_few.ensures.sound there)

pub returns-clause-ok : goal.returns-clause-ok
returns-clause-ok c =
    let whole = split c.args.changes.now c.last-item.result (Cursor c.in-Some.bssid c.in-Some.number) c.in-len1-up.len_at_least c.last-item.is c.in-Some.ensures.cursor in
    c.set_cursor.ensures ∙ ap (set_cursor c.in-Some.bssid c.in-Some.number) c.in_ok-apply_few.ensures.ok
    ∙ sym (means_behind (Cursor c.in-Some.bssid c.in-Some.number) (take (length c.args.changes.now - 1) c.args.changes.now) c.args.self.now) ∙ ap (λ changes. meaning_of changes c.args.self.now) (sym whole)

pub returns-clause-sound : goal.returns-clause-sound
returns-clause-sound c =
    let whole = split c.args.changes.now c.last-item.result (Cursor c.in-Some.bssid c.in-Some.number) c.in-len1-up.len_at_least c.last-item.is c.in-Some.ensures.cursor in
    let there : IsSome (policy_at c.args.self.now c.in-Some.bssid) = subst (λ change. IsCursorThere change c.args.self.now) c.in-Some.ensures.cursor (c.in-Some.ensures.there.0 refl) in
    let stays = stay_behind (Cursor c.in-Some.bssid c.in-Some.number) _ _ c.in_ok-apply_few.ensures.sound (sound_behind _ _ _ _ c.in_ok-apply_few.ensures.sound there) in
    subst (λ changes. StaySound changes c.args.self.now) (sym whole) stays
