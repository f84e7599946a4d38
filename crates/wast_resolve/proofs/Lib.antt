mod Agree
mod Telling
mod Refusals
mod Wholly
