mod AllDefined
mod Holding
mod Starts
