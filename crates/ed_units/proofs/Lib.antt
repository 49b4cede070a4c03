mod FirstUnits
mod Rows
