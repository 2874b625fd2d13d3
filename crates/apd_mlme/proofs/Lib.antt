pub mod AdmissionLemmas
mod ApartLemmas
mod AssociationEndLemmas
mod AssociationLemmas
mod AssociationResponseLemmas
pub mod AuthenticationLemmas
mod CommandAnswerLemmas
mod CommandLemmas
mod DepartureLemmas
mod DropLemmas
mod ElsewhereLemmas
mod EnforcementLemmas
mod FrameLemmas
mod IdentifierLemmas
mod LetGoLemmas
mod NeededLemmas
pub mod OutsLemmas
mod RadioLemmas
mod RecordLengthLemmas
mod RefusalLemmas
mod ResponseLemmas
mod RisingLemmas
mod RowLemmas
mod Shapes
mod StartLemmas
mod TakenInLemmas
pub mod TrueOutsLemmas
mod TurnLemmas
pub mod VerdictLemmas
mod Words
