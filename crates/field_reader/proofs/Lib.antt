mod Values
mod Entries
mod Order
mod Small
