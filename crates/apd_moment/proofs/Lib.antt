mod Calls
mod Histories
mod Merging
mod MomentLemmas
mod Runs
mod Threads
