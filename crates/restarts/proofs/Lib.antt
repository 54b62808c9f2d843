pub mod Restarting
pub mod OnViews
