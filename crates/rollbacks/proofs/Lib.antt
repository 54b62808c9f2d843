pub mod RollBackAccepted
