pub mod ReleaseAccepted
