pub mod Named
pub mod Plain
pub mod Traces
pub mod Earlier
