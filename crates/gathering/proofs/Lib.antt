-- Laws that the crates above cite.
pub mod HeldLedger
pub mod HeldGoods
pub mod HeldStated
pub mod HeldPlaces
pub mod AnyOrder
pub mod Standing
pub mod AllLines
pub mod Gathering
pub mod FromBytes
pub mod Placed
pub mod Uses
pub mod Rebooked
pub mod Booking
