pub mod OnView
