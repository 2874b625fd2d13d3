use Rattle.std.proofs.Common.{◌≡◌, ℕ, ◌<◌, Bool, true, false, ◌⊎◌, inl, inr, refl, sym, ap, ◌∙◌, IsTrue, arith}
use Rattle.std.specs.Prelude.{nat_lt}
use Rattle.apd_table.proofs.Words.{addr_cmp, is_some, list_of, state_of}
use Rattle.std.specs.FinMap as map
use Rattle.std.proofs.lemmas.Grind.{common_steps}
use Rattle.apd_table.proofs.ListCounts.{list_count-is}
use Rattle.apd_table.proofs.table.Table.has_list_room.Goals as goal

below : (n m : ℕ) → n ≡ m → IsTrue (nat_lt n 1024) → m < 1024
below n m e h = grind (arith, common_steps)

passes : (n m : ℕ) → n ≡ m → m < 1024 → IsTrue (nat_lt n 1024)
passes n m e h = grind (arith, common_steps)

-- what is not there needs room
room_iff : (listed : Bool) (n m : ℕ) → listed ≡ false → n ≡ m → (IsTrue (nat_lt n 1024) → IsTrue listed ⊎ (m < 1024)) × (IsTrue listed ⊎ (m < 1024) → IsTrue (nat_lt n 1024))
room_iff true n m e same = cc
room_iff false n m e same = (λ h. inr (below n m same h), λ room. elim room [ inl h ↦ cc | inr h ↦ passes n m same h ])

none_below : (n : ℕ) → n ≡ 0 → n < 1024
none_below n e = omega arith

pub returns-else-has : goal.returns-else-has
returns-else-has c =
    let s = state_of c.self.inside in
    let lists = c.in-Some.bss.now.lists in
    rw (← c.self.view_is) (room_iff _ c.len.result _ (sym (c.in-Some.ensures.lists c.args.which c.args.addr) ∙ sym c.has.ensures ∙ c.if-has.false)
    (c.len.ensures ∙ sym (list_count-is c.args.bssid c.args.which s.lists (list_of lists c.args.which) (λ a. c.in-Some.ensures.lists c.args.which a))))

pub returns-in-None : goal.returns-in-None
returns-in-None c =
    let s = state_of c.self.inside in
    rw (← c.self.view_is) (
      λ _. inr (none_below _ (list_count-is c.args.bssid c.args.which s.lists map.empty (λ a. ap is_some (map.get-empty addr_cmp a) ∙ c.in-None.ensures.lists c.args.which a) ∙ map.len-empty addr_cmp (Unit {0}))),
      λ _. refl,
    )
