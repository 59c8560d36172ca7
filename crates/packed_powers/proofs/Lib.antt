mod Digits
mod Sums
mod Order
