-- Proofs of the laws of two devices. They stand here since an `impl` may cite nothing of its own crate's proofs/.
pub mod FileLaws
pub mod MemLaws
