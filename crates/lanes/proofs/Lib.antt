pub mod Mapped
pub mod Digest
