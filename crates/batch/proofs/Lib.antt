pub mod BatchChecks
pub mod OnMaps
pub mod Output
pub mod Theorems
