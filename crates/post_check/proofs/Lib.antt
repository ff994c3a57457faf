pub mod Breaking
pub mod Firsts
pub mod OneFirst
pub mod Within
