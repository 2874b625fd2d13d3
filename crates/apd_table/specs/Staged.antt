-- A table, and beside it the same table with a list of changes more.
use Rattle.std.specs.Prelude.{refl}
use Rattle.std.specs.Coded.{Coded, code_by, coded×}
use Rattle.apd_base.specs.for_proofs.Codes.{coded_state}
use Rattle.apd_base.specs.State.{State}

pub record StagedTables : Type 0 where
  pub table : State
  -- with the changes that are staged; where none are, the table itself
  pub staged : State

abbrev pub coded_staged_tables : Coded StagedTables
coded_staged_tables =
    code_by (State × State) (coded× coded_state coded_state) (λ s. (s.table, s.staged))
    (λ p. record { table = p.0; staged = p.1 }) (λ _. refl)

-- nothing is staged
abbrev pub alone : State → StagedTables
alone s = record { table = s; staged = s }
