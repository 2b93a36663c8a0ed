mod Digits
mod Exits
mod Naming
mod Operators
mod Passing
mod Sights
mod Steps
mod Wholes
