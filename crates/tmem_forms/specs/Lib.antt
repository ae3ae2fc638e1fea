pub mod Errors
pub mod Members
pub mod TxForms
