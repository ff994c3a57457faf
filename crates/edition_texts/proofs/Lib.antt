mod Beginning
mod Pairs
