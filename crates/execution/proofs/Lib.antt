pub mod AllOrders
pub mod Gathering
pub mod Made
pub mod OrderPositions
pub mod Iterations
