mod Checks
mod Entries
mod Rows
mod WordRows
