mod Leading
mod Repeating
