pub mod Snapshots
pub mod Fresh
pub mod FreshView
