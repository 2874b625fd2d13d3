pub mod AllRows
pub mod Behind
mod BssLemmas
mod BssWrites
mod Clashes
pub mod Cursors
pub mod Denied
mod DeniedRows
pub mod Empty
mod Firsts
mod Identifiers
pub mod InTurn
pub mod ListChanges
pub mod ListCounts
pub mod ListSets
pub mod MembersLemmas
pub mod NextFree
mod OneDenied
pub mod Parts
mod Places
pub mod PolicySet
pub mod Put
mod Replays
mod Rooms
mod RowChanges
pub mod SameRows
pub mod SnapshotSize
mod StationRows
mod Words
