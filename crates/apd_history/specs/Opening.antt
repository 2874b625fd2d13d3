-- By what a history that was just opened can be named.
use Rattle.std.specs.Prelude.{ℕ}
use Rattle.atomic_table.specs.Seated.{TableId}
use Rattle.apd_history.specs.declared.opened.Opened.{Opened}

abbrev pub table_of : {E : Type 0} → Opened E → TableId
table_of opened = opened.leaves.shared.table_id

abbrev pub commits_name_of : {E : Type 0} → Opened E → ℕ
commits_name_of opened = opened.commits.name
