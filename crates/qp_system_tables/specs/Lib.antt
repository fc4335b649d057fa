pub mod Tree
pub mod Names
pub mod Values
pub mod Tables
pub mod Few
pub mod Refused
pub mod Front
pub mod Document
