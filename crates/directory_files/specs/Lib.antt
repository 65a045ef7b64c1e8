pub mod Relisted
pub mod Faults
pub mod Written
pub mod Labels
