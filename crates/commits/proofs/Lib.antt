pub mod CommitAccepted
