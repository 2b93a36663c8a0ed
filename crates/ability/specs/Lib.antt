pub mod Ability
