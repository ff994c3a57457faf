pub mod Printed
pub mod Editions
