mod Everywhere
mod Defined
