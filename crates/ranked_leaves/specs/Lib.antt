pub mod Keepings
pub mod Ranked
pub mod RanksStand
