pub mod LookUpAccepted
mod Quoting
