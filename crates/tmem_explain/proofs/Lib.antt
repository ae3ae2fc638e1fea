mod Amisses
mod Limited
mod Nodes
mod Passed
