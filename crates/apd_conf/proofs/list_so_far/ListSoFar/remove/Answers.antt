use Rattle.std.proofs.Common.{◌≡◌, ℕ, ◌+◌, ◌-◌, ◌<◌, List, ◌++◌, length, slice_range, take, take_at, add-one, append_assoc, subst, sym, rules}
use Rattle.std.specs.List.{remove, remove_range}
use Rattle.std.proofs.lemmas.List.{places}
use Rattle.apd_conf.proofs.list_so_far.ListSoFar.remove.Goals as goal

-- what is left in front once an item stands behind the others
in_front : {X : Type 0} (xs behind : List X) (i n : ℕ) → i < length xs → length xs ≡ n → take (n - 1) ((remove_range xs i (i + 1) ++ slice_range xs i (i + 1)) ++ behind) ≡ remove xs i
in_front xs behind i n lt long =
    let front : length (remove_range xs i (i + 1)) ≡ n - 1 = search (rules, places) in
    rw (append_assoc, take_at (remove_range xs i (i + 1)) (slice_range xs i (i + 1) ++ behind) (n - 1) front, add-one)

pub returns : goal.returns
returns c =
    let lt = subst (λ xs. c.args.place < length xs) (sym c.self.view_is) c.requires in
    let h = c.self.invariant in
    rw (c.move_to_end.ensures, ← c.self.view_is) (in_front (take c.self.inside.count c.self.inside.rows) _ c.args.place c.self.inside.count lt (search (rules, places)))
