mod Cutting
mod Numerals
mod Printing
