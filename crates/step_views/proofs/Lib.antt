pub mod CommitViews
pub mod FlushViews
pub mod OnViews
pub mod RollViews
