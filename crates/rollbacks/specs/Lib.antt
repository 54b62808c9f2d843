pub mod RollBack
