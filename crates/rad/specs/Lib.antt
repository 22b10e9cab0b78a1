pub mod Damage
pub mod Padding
pub mod Record
