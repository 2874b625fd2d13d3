-- What is said of the verdict, in the subject's words: a module for each subject.
pub mod Admission
pub mod Association
pub mod AssociationEnd
pub mod Authentication
pub mod Broadcast
pub mod Command
pub mod Departure
pub mod Driver
pub mod FrameClasses
pub mod ManagementFrame
pub mod NothingElse
pub mod Order
pub mod Outs
pub mod Probe
pub mod Responses
pub mod Start
pub mod Turns
