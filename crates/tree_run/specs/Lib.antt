pub mod Answering
pub mod Deeds
pub mod Framing
pub mod Going
pub mod Looking
pub mod Placing
pub mod Stack
pub mod Viewing
