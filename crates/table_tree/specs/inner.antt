-- Definitions for contracts of inner functions only.
pub mod Pokes
