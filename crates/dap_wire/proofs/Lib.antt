pub mod Breaks
pub mod Contents
pub mod NoFloats
pub mod TextFacts
